use Rattle.std.proofs.Common.{◌≡◌, ◌≤◌, ◌∙◌, ap, ℕ, List, length, arith}
use Rattle.image_model.specs.Places.{page_of}
use Rattle.image_model.specs.Headers.{name_of}
use Rattle.flash_view.specs.Found.{is_name}
use Rattle.flash_view.proofs.Pieces.{page_long, name_of_part}
use Rattle.flash_view.proofs.view.View.peeks_name.Goals as goal

pub returns-clause-told : goal.returns-clause-told
returns-clause-told g c = λ tells.
    let view = c.args.self.now in
    let image = g.N.NorState.bytes view.nor.now in
    let page = page_of view.geometry image c.args.page in
    let long : 45 ≤ length page = omega (arith, page_long view.geometry image c.args.page c.requires (omega (arith, view.volume, g.met.N.Nor.sized view.nor.now tells)), view.geometry.valid.page_least) in
    c.is_named.ensures ∙ ap (λ (l : List ℕ). is_name (name_of l) c.args.name.now) (c.in_ok-read_in.ensures.told tells) ∙ ap (λ o. is_name o c.args.name.now) (name_of_part page long)
