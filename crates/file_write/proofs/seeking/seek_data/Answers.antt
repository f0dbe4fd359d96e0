use Rattle.std.proofs.Common.{◌≡◌, sym, ◌∙◌, refl, None}
use Rattle.image_model.specs.Live.{live_at, own}
use Rattle.image_model.specs.Files.{index_page}
use Rattle.flash_view.specs.DataPages.{data_number_of}
use Rattle.file_write.proofs.seeking.seek_data.Goals as goal

pub returns-in-Some-clause-told : goal.returns-in-Some-clause-told
returns-in-Some-clause-told g c = λ tells tidy.
    let found = c.in_ok-header.ensures in
    rw (found.looks.same.geometry, found.looks.reads.bytes) at (c.data_by.ensures.told (found.looks.reads.told tells) (rw (found.looks.same.geometry, found.looks.reads.bytes) tidy) (rw (found.looks.same.geometry, found.looks.reads.bytes) (sym (found.told tells tidy) ∙ c.in-Some.is)))

pub returns-in-None-clause-told : goal.returns-in-None-clause-told
unfolding data_number_of
returns-in-None-clause-told g c = λ tells tidy.
    let view = c.args.v.now in
    let image = g.N.NorState.bytes view.nor.now in
    let is : index_page view.geometry (own (live_at view.geometry image) c.args.id) 0 ≡ None = sym (c.in_ok-header.ensures.told tells tidy) ∙ c.in-None.is in
    rw is refl
