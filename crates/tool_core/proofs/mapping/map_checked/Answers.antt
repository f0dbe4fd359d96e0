use Rattle.std.proofs.Common.{◌≡◌, ◌∙◌, ℕ, arith, inl}
use Rattle.image_model.specs.Tables.{table_of}
use Rattle.table_model.specs.Table.{file_of}
use Rattle.tool_core.specs.Mapping.{spans_told}
use Rattle.tool_core.proofs.MapSteps.{steps_as, steps_then}
use Rattle.tool_core.proofs.MapEnds.{at_rest, ends_stopped, had_map, steps_mapped, tells_file, ends_whole, ends_front}
use Rattle.tool_core.proofs.mapping.map_checked.Goals as goal

pub returns-in-Err-clause-maps : goal.returns-in-Err-clause-maps
returns-in-Err-clause-maps g c = λ slots closed. ends_stopped slots c.args.id c.in-Err.ending closed c.requires.tidy (steps_as c.in-Err.is (c.attach.ensures.attaches slots)) (λ rest why. why)

pub returns-in-Err-collect-clause-maps : goal.returns-in-Err-collect-clause-maps
returns-in-Err-collect-clause-maps g c = λ slots closed.
    let attached = steps_as c.in_default.is (c.attach.ensures.attaches slots) in
    let failed = steps_as c.in-Err-collect.is (c.collect.ensures.collects slots) in
    ends_stopped slots c.args.id c.in-Err-collect.ending closed c.requires.tidy (steps_then c.attach.ensures.same.geometry attached failed) (λ rest why. inl why)

pub returns-in-Err-remap-clause-maps : goal.returns-in-Err-remap-clause-maps
returns-in-Err-remap-clause-maps g c = λ slots closed.
    let attached = rw c.requires.room at (steps_as c.in_default.is (c.attach.ensures.attaches slots)) in
    let collected = steps_as c.in_default-collect.is (c.collect.ensures.collects slots) in
    let failed = steps_as c.in-Err-remap.is (c.remap.ensures.maps slots) in
    let same = c.attach.ensures.same.geometry in
    let next = c.collect.ensures.same.geometry in
    ends_stopped slots c.args.id c.in-Err-remap.ending closed c.requires.tidy (steps_then same attached (steps_then next collected failed)) (λ rest why. inl (let had = had_map slots c.args.id same next attached collected rest in why 8192 had.0 had.1))

pub returns-in-Ok-clause-maps : goal.returns-in-Ok-clause-maps
returns-in-Ok-clause-maps g c = λ slots closed.
    let old = c.args.volume.now in
    let mid = c.remap.new.volume in
    let attached = rw c.requires.room at (steps_as c.in_default.is (c.attach.ensures.attaches slots)) in
    let collected = steps_as c.in_default-collect.is (c.collect.ensures.collects slots) in
    let again = steps_as c.in_default-remap.is (c.remap.ensures.maps slots) in
    let same = c.remap.ensures.same.geometry ∙ c.collect.ensures.same.geometry ∙ c.attach.ensures.same.geometry in
    let steps = steps_mapped slots c.args.id c.attach.ensures.same.geometry c.collect.ensures.same.geometry attached collected again in
    let count : ℕ = spans_told old.geometry (file_of c.args.id (table_of old.geometry (g.B.NorState.bytes old.nor.now))) in
    let says = c.say_spans.ensures.says c.args.id count (λ tells. tells_file slots c.args.id same (λ told. record { len = let sized = g.met.B.Nor.sized _ told in omega (arith, sized, mid.fits) }) (steps.1 (at_rest slots old closed c.requires.tidy (steps.0.cuts.told_before tells)))) in
    ends_whole slots c.args.id c.in-Ok.field-0 c.in-Ok.is closed c.requires.tidy same steps says

pub returns-in-Err-say_spans-clause-maps : goal.returns-in-Err-say_spans-clause-maps
returns-in-Err-say_spans-clause-maps g c = λ slots closed.
    let old = c.args.volume.now in
    let mid = c.remap.new.volume in
    let attached = rw c.requires.room at (steps_as c.in_default.is (c.attach.ensures.attaches slots)) in
    let collected = steps_as c.in_default-collect.is (c.collect.ensures.collects slots) in
    let again = steps_as c.in_default-remap.is (c.remap.ensures.maps slots) in
    let same = c.remap.ensures.same.geometry ∙ c.collect.ensures.same.geometry ∙ c.attach.ensures.same.geometry in
    let steps = steps_mapped slots c.args.id c.attach.ensures.same.geometry c.collect.ensures.same.geometry attached collected again in
    let count : ℕ = spans_told old.geometry (file_of c.args.id (table_of old.geometry (g.B.NorState.bytes old.nor.now))) in
    let says = c.say_spans.ensures.says c.args.id count (λ tells. tells_file slots c.args.id same (λ told. record { len = let sized = g.met.B.Nor.sized _ told in omega (arith, sized, mid.fits) }) (steps.1 (at_rest slots old closed c.requires.tidy (steps.0.cuts.told_before tells)))) in
    ends_front slots c.args.id _ c.in-Err-say_spans.is closed c.requires.tidy same steps says

pub returns-in-Err-collect-clause-among : goal.returns-in-Err-collect-clause-among
returns-in-Err-collect-clause-among g c = rw c.in-Err-collect.is at (c.collect.ensures.among c.args.id)
