use Rattle.std.proofs.Common.{◌≡◌, ◌+◌, ◌*◌, min, sym, ◌∙◌, Some, None, arith}
use Rattle.geometry.specs.Numbers.{head_slots, span_slots}
use Rattle.image_model.specs.Places.{page_of}
use Rattle.image_model.specs.Live.{live_at, own}
use Rattle.image_model.specs.Files.{index_page}
use Rattle.flash_view.proofs.Spans.{index_known}
use Rattle.file_find.proofs.Spans.{behind_missing, behind_none, slots_some, told_each}
use Rattle.file_find.proofs.judging.missing_of.Goals as goal

pub returns-in-Some-clause-told : goal.returns-in-Some-clause-told
returns-in-Some-clause-told g c = λ tells.
    let view = c.args.v.now in
    let geo = view.geometry in
    let image = g.N.NorState.bytes view.nor.now in
    let pages = own (live_at geo image) c.args.id in
    let found = c.in_ok-index.ensures in
    let is : index_page geo pages (c.args.k + 1) ≡ Some c.in-Some.index = sym (found.told tells) ∙ c.in-Some.is in
    let holds = index_known geo image c.args.id (c.args.k + 1) c.in-Some.index is in
    told_each _ _ _ (c.missing_in.ensures.told (found.looks.reads.told tells))
    (λ head. rw (found.looks.same.geometry, found.looks.reads.bytes, c.min-end.ensures, c.head_slots.ensures, c.span_slots.ensures, c.span_slots-2.ensures)
    (behind_missing geo pages head c.args.k (page_of geo image c.in-Some.index) c.in-Some.index (min (head_slots geo + c.args.k * span_slots geo + span_slots geo) c.args.spans) is holds (omega arith)))

pub returns-in-None-clause-told : goal.returns-in-None-clause-told
returns-in-None-clause-told g c = λ tells head.
    let view = c.args.v.now in
    let geo = view.geometry in
    let image = g.N.NorState.bytes view.nor.now in
    let pages = own (live_at geo image) c.args.id in
    let is : index_page geo pages (c.args.k + 1) ≡ None = sym (c.in_ok-index.ensures.told tells) ∙ c.in-None.is in
    let some = slots_some geo in
    rw (c.head_slots.ensures, c.span_slots.ensures)
    (sym (behind_none geo pages head c.args.k (min (head_slots geo + c.args.k * span_slots geo + span_slots geo) c.args.spans) is (omega (arith, c.requires.some, some)) some))
