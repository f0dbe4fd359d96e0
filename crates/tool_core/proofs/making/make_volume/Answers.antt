use Rattle.std.proofs.Common.{◌≡◌, ◌∙◌, refl, sym, ⊎_elim}
use Rattle.std.specs.Prelude.{min}
use Rattle.volume_make.specs.Making.{made_text}
use Rattle.tool_parts.proofs.Begun.{memory_begun}
use Rattle.tool_core.proofs.Formatting.{tidy_stops, empty_ready}
use Rattle.tool_core.proofs.MakeEnds.{makes_none, makes_after, speaks_folder}
use Rattle.tool_core.proofs.Among.{check_in_make, work_in_make}
use Rattle.tool_core.proofs.making.make_volume.Goals as goal

pub returns-in-Err-clause-makes : goal.returns-in-Err-clause-makes
returns-in-Err-clause-makes g c = λ slots some closed tells files. makes_none c.in-Err.ending c.mount_and_check.ensures.changes.said (tidy_stops c.in-Err.ending files.tidy (c.in-Err.ensures.stops tells))

pub returns-in-Ok-clause-makes : goal.returns-in-Ok-clause-makes
returns-in-Ok-clause-makes g c = λ slots some closed tells files.
    let h = c.args.volume.now.geometry in
    let checked = c.mount_and_check.ensures in
    let memory = memory_begun c.args.volume.now c.mount_and_check.new.volume (min 65535 slots) c.in_default.ensures.closed closed in
    let ready = empty_ready c.args.volume.now c.mount_and_check.new.volume h slots c.in_default.field-0 checked.same.geometry c.in_default.ensures.taken c.requires.writable memory files checked.changes tells (c.in_default.ensures.reported tells) in
    let made = c.in-Ok.ensures.made h slots some c.requires.accepted ready in
    let line : c.as_slice.result.now ≡ made_text c.in-Ok.info.files c.in-Ok.info.index_pages c.in-Ok.info.data_pages = c.as_slice.ensures.value ∙ c.made_line.ensures in
    makes_after (c.put_files.ensures.moved.goes.said ∙ checked.changes.said) (speaks_folder made line (c.finish.ensures.speaks h _ made.ready))

pub returns-in-Err-Stopped-Fault-clause-makes : goal.returns-in-Err-Stopped-Fault-clause-makes
returns-in-Err-Stopped-Fault-clause-makes g c = λ slots some closed tells files. makes_none _ (c.put_files.ensures.moved.goes.said ∙ c.mount_and_check.ensures.changes.said) refl

pub returns-in-Err-Stopped-Differ-clause-makes : goal.returns-in-Err-Stopped-Differ-clause-makes
returns-in-Err-Stopped-Differ-clause-makes g c = λ slots some closed tells files.
    let h = c.args.volume.now.geometry in
    let checked = c.mount_and_check.ensures in
    let memory = memory_begun c.args.volume.now c.mount_and_check.new.volume (min 65535 slots) c.in_default.ensures.closed closed in
    let ready = empty_ready c.args.volume.now c.mount_and_check.new.volume h slots c.in_default.field-0 checked.same.geometry c.in_default.ensures.taken c.requires.writable memory files checked.changes tells (c.in_default.ensures.reported tells) in
    let stops = c.in-Err-Stopped-Differ.ensures.stops h slots some c.requires.accepted ready in
    let is = c.in-Err-Stopped-Differ.field-0-is in
    let stop_is = c.in-Err-Stopped-Differ.field-0-0-is in
    absurd (⊎_elim (λ folder. let bad = sym is ∙ folder in cc) (λ fault. let bad = sym is ∙ fault in cc) stops)

pub returns-in-Err-Refused-clause-makes : goal.returns-in-Err-Refused-clause-makes
returns-in-Err-Refused-clause-makes g c = λ slots some closed tells files.
    let h = c.args.volume.now.geometry in
    let checked = c.mount_and_check.ensures in
    let memory = memory_begun c.args.volume.now c.mount_and_check.new.volume (min 65535 slots) c.in_default.ensures.closed closed in
    let ready = empty_ready c.args.volume.now c.mount_and_check.new.volume h slots c.in_default.field-0 checked.same.geometry c.in_default.ensures.taken c.requires.writable memory files checked.changes tells (c.in_default.ensures.reported tells) in
    let stops = c.in-Err-Refused.ensures.stops h slots some c.requires.accepted ready in
    let is = c.in-Err-Refused.field-0-is in
    absurd (⊎_elim (λ folder. let bad = sym is ∙ folder in cc) (λ fault. let bad = sym is ∙ fault in cc) stops)

pub returns-in-Err-clause-among : goal.returns-in-Err-clause-among
returns-in-Err-clause-among g c = check_in_make c.in-Err.ending c.in-Err.ensures.among

pub returns-in-Ok-clause-among : goal.returns-in-Ok-clause-among
returns-in-Ok-clause-among g c = work_in_make c.finish.result c.finish.ensures.among

pub returns-in-Err-Stopped-Differ-clause-among : goal.returns-in-Err-Stopped-Differ-clause-among
returns-in-Err-Stopped-Differ-clause-among g c =
    let apart = rw (c.in-Err-Stopped-Differ.field-0-is, c.in-Err-Stopped-Differ.field-0-0-is) at c.in-Err-Stopped-Differ.ensures.apart in
    apart
