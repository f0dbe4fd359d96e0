use Rattle.std.proofs.Common.{◌≡◌, true, false, sym, ◌∙◌, Some}
use Rattle.image_model.specs.Live.{live_at, own}
use Rattle.image_model.specs.Files.{index_page}
use Rattle.file_drop.specs.Drops.{none_kept, is_left}
use Rattle.file_drop.proofs.Seeing.{first_is_left}
use Rattle.file_drop.proofs.remove.find_header.Goals as goal

pub returns-else-branch-clause-told : goal.returns-else-branch-clause-told
returns-else-branch-clause-told g c = λ tells tidy.
    let view = c.args.v.now in
    let image = g.N.NorState.bytes view.nor.now in
    let looks = c.in_ok-page.ensures.looks in
    let at : index_page view.geometry (own (live_at view.geometry image) c.args.id) 0 ≡ Some c.in-Some.page = sym (c.in_ok-page.ensures.told tells tidy) ∙ c.in-Some.is in
    let yes : is_left view.geometry image c.args.id none_kept c.in-Some.page ≡ true = first_is_left view.geometry image c.args.id c.in-Some.page at in
    let here : c.in_ok-is_left.field-0 ≡ is_left view.geometry image c.args.id none_kept c.in-Some.page = rw (looks.same.geometry, looks.reads.bytes) at (c.in_ok-is_left.ensures.told (looks.reads.told tells)) in
    let bad : true ≡ false = sym yes ∙ sym here ∙ c.if-branch.false in
    absurd (cc)
