use Rattle.std.proofs.Common.{◌≡◌, ◌+◌, ◌∙◌, ap, ℕ, List}
use Rattle.nor_core.specs.Flash.{word_at}
use Rattle.image_model.specs.Places.{page_of}
use Rattle.flash_view.proofs.Pieces.{word_of_part, word_parted}
use Rattle.flash_view.proofs.view.View.peek_word.Goals as goal

pub returns-clause-told : goal.returns-clause-told
returns-clause-told g c = λ tells.
    let view = c.args.self.now in
    let image = g.N.NorState.bytes view.nor.now in
    c.read_word.ensures ∙ ap (λ (l : List ℕ). word_at l 0) (c.in_ok-read_in.ensures.told tells) ∙ word_of_part (page_of view.geometry image c.args.page) c.args.start

pub returns-clause-bytes : goal.returns-clause-bytes
returns-clause-bytes g c = λ tells.
    let view = c.args.self.now in
    let image = g.N.NorState.bytes view.nor.now in
    word_parted view.geometry image c.read_in.new.into c.args.page c.args.start (c.in_ok-read_in.ensures.told tells) c.read_in.ensures.small c.requires.inside
