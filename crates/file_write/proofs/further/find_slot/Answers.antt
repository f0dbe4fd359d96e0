use Rattle.std.proofs.Common.{◌≡◌, Some, sym}
use Rattle.image_model.specs.Live.{live_at, own}
use Rattle.image_model.specs.Files.{index_page, index_span}
use Rattle.file_write.proofs.AfterName.{slot_told}
use Rattle.file_write.proofs.further.find_slot.Goals as goal

pub returns-clause-told : goal.returns-clause-told
returns-clause-told g c = λ tells tidy.
    let geometry = c.args.v.now.geometry in
    let image = g.N.NorState.bytes c.args.v.now.nor.now in
    let found = c.in_ok-page.ensures in
    let first : index_page geometry (own (live_at geometry image) c.args.id) (index_span geometry c.args.span) ≡ Some c.in-Some.page = rw (c.from.ensures, c.index_span.ensures, c.in-Some.is) at (sym (found.told tells tidy)) in
    slot_told geometry image c.args.id c.args.span c.in-Some.page c.entry_place.result c.read_in.new.into first (rw c.from-2.ensures at c.entry_place.ensures.place)
    (rw (found.looks.same.geometry, found.looks.reads.bytes) at (c.in_ok-read_in.ensures.told (found.looks.reads.told tells))) c.in_ok-read_in.ensures.small
