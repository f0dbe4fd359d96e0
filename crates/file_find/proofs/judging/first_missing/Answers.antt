use Rattle.std.proofs.Common.{◌≡◌, ◌+◌, min, sym, ◌∙◌, Some, None}
use Rattle.geometry.specs.Numbers.{head_slots}
use Rattle.image_model.specs.Places.{page_of}
use Rattle.image_model.specs.Live.{live_at, own}
use Rattle.file_find.specs.Judging.{missing_entry}
use Rattle.file_find.proofs.Spans.{front_some, front_none, told_of_each}
use Rattle.file_find.proofs.judging.first_missing.Goals as goal

pub returns-in-Some-clause-told : goal.returns-in-Some-clause-told
returns-in-Some-clause-told g c = λ tells.
    let view = c.args.v.now in
    let geo = view.geometry in
    let image = g.N.NorState.bytes view.nor.now in
    let pages = own (live_at geo image) c.args.id in
    let page = page_of geo image c.args.header in
    let told : Some c.in-Some.span ≡ missing_entry pages page (45 + geo.meta) 0 (min (head_slots geo) c.args.spans) =
    rw (c.head_slots_at.ensures, c.min-near.ensures, c.head_slots.ensures) at (sym c.in-Some.is ∙ c.in_ok-span.ensures.told tells) in
    front_some geo pages page c.args.spans c.in-Some.span told

pub returns-in-None-clause-told : goal.returns-in-None-clause-told
returns-in-None-clause-told g c = λ tells.
    let view = c.args.v.now in
    let geo = view.geometry in
    let image = g.N.NorState.bytes view.nor.now in
    let pages = own (live_at geo image) c.args.id in
    let page = page_of geo image c.args.header in
    let looked = c.in_ok-span.ensures in
    let told : None ≡ missing_entry pages page (45 + geo.meta) 0 (min (head_slots geo) c.args.spans) =
    rw (c.head_slots_at.ensures, c.min-near.ensures, c.head_slots.ensures) at (sym c.in-None.is ∙ looked.told tells) in
    told_of_each _ _ _ (c.missing_behind.ensures.told (looked.looks.reads.told tells)) page
    (rw (looked.looks.same.geometry, looked.looks.reads.bytes) (front_none geo pages page c.args.spans told))
