use Rattle.std.proofs.Common.{◌≡◌, ◌+◌, ◌*◌, ◌≤◌, length, slice_range, sym, ◌∙◌, ap, subst, arith, List, ℕ, OnOk}
use Rattle.geometry.proofs.Bounds.{page_inside}
use Rattle.image_model.specs.Places.{page_of}
use Rattle.flash_view.proofs.Pieces.{part_of_part}
use Rattle.flash_view.proofs.view.View.read_in.Goals as goal

pub returns-clause-told : goal.returns-clause-told
unfolding page_of
returns-clause-told g c tells =
    let view = c.args.self.now in
    let image = g.N.NorState.bytes view.nor.now in
    let inside = page_inside view.geometry c.args.page c.requires.page in
    let long = g.met.N.Nor.sized view.nor.now tells in
    let start = c.args.page * view.geometry.page in
    let end : start + (c.args.start + length c.args.into.now) ≡ start + c.args.start + length c.args.into.now = omega arith in
    let part = part_of_part image start (start + view.geometry.page) c.args.start (c.args.start + length c.args.into.now) (omega arith) (omega (arith, c.requires.inside)) (omega (arith, inside, long, view.volume)) in
    subst (λ (l : List ℕ). OnOk c.peek_page.result (c.peek_page.new.into ≡ l)) (sym (part ∙ ap (λ (n : ℕ). slice_range image (start + c.args.start) n) end)) (c.peek_page.ensures.read tells)
