use Rattle.std.proofs.Common.{◌≡◌, sym, ◌∙◌, Some, None, arith}
use Rattle.image_model.specs.Places.{page_of}
use Rattle.image_model.specs.Live.{live_at, own}
use Rattle.image_model.specs.Files.{index_page, index_span}
use Rattle.flash_view.proofs.Spans.{number_near, number_behind, number_none, index_known, told_along}
use Rattle.file_write.proofs.seeking.named_data.Goals as goal

pub returns-then-span-head_slots-clause-told : goal.returns-then-span-head_slots-clause-told
returns-then-span-head_slots-clause-told g c = λ tells tidy.
    let view = c.args.v.now in
    let image = g.N.NorState.bytes view.nor.now in
    told_along _ _ _ (c.data_in.ensures.told tells)
    (rw c.entry_place-at.ensures.place (number_near view.geometry (own (live_at view.geometry image) c.args.id) (page_of view.geometry image c.args.header) c.args.span (omega (arith, c.head_slots.ensures))))

pub returns-in-Some-clause-told : goal.returns-in-Some-clause-told
returns-in-Some-clause-told g c = λ tells tidy.
    let view = c.args.v.now in
    let image = g.N.NorState.bytes view.nor.now in
    let pages = own (live_at view.geometry image) c.args.id in
    let found = c.in_ok-index.ensures in
    let is : index_page view.geometry pages (index_span view.geometry c.args.span) ≡ Some c.in-Some.index = rw c.wide_index_span.ensures at (sym (found.told tells tidy) ∙ c.in-Some.is) in
    told_along _ _ _ (c.data_in-in-Some.ensures.told (found.looks.reads.told tells))
    (rw (found.looks.same.geometry, found.looks.reads.bytes, c.entry_place-at.ensures.place)
    (number_behind view.geometry pages (page_of view.geometry image c.args.header) c.args.span (page_of view.geometry image c.in-Some.index) c.in-Some.index (omega (arith, c.head_slots.ensures)) is (index_known view.geometry image c.args.id _ c.in-Some.index is)))

pub returns-in-None-clause-told : goal.returns-in-None-clause-told
returns-in-None-clause-told g c = λ tells tidy.
    let view = c.args.v.now in
    let image = g.N.NorState.bytes view.nor.now in
    let pages = own (live_at view.geometry image) c.args.id in
    let found = c.in_ok-index.ensures in
    let is : index_page view.geometry pages (index_span view.geometry c.args.span) ≡ None = rw c.wide_index_span.ensures at (sym (found.told tells tidy) ∙ c.in-None.is) in
    number_none view.geometry pages (page_of view.geometry image c.args.header) c.args.span (omega (arith, c.head_slots.ensures)) is
