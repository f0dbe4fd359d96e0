use Rattle.std.proofs.Common.{◌≡◌, ◌∙◌, ap, ℕ, List, arith}
use Rattle.image_model.specs.Places.{page_of}
use Rattle.page_layout.specs.Layout.{header_at}
use Rattle.flash_view.proofs.Pieces.{header_of_part}
use Rattle.flash_view.proofs.view.View.peek_header.Goals as goal

pub returns-clause-told : goal.returns-clause-told
returns-clause-told g c = λ tells.
    let view = c.args.self.now in
    let image = g.N.NorState.bytes view.nor.now in
    c.header_of.ensures ∙ ap (λ (l : List ℕ). header_at l) (c.in_ok-read_in.ensures.told tells) ∙ header_of_part (page_of view.geometry image c.args.page) 5 (omega arith)
