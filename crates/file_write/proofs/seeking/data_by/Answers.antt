use Rattle.std.proofs.Common.{◌≡◌, refl, Some}
use Rattle.image_model.specs.Places.{page_of}
use Rattle.image_model.specs.Live.{live_at, own}
use Rattle.flash_view.specs.DataPages.{data_number_of}
use Rattle.flash_view.proofs.Spans.{index_known, told_along}
use Rattle.file_write.proofs.seeking.data_by.Goals as goal

pub returns-clause-told : goal.returns-clause-told
unfolding data_number_of
returns-clause-told g c = λ tells tidy is.
    let view = c.args.v.now in
    let image = g.N.NorState.bytes view.nor.now in
    let holds : own (live_at view.geometry image) c.args.id c.args.header ≡ Some (page_of view.geometry image c.args.header) = index_known view.geometry image c.args.id 0 c.args.header is in
    told_along _ _ _ (c.named_data.ensures.told tells tidy) (rw c.from.ensures (rw is (rw holds refl)))
