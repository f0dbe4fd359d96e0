use Rattle.std.proofs.Common.{◌≡◌, ◌∙◌, true, sym}
use Rattle.image_model.specs.Places.{has_magic, block_of, page_of}
use Rattle.page_layout.specs.Layout.{header_at}
use Rattle.flash_view.proofs.Heads.{live_by, dead_by}
use Rattle.flash_view.proofs.view.View.named_header.Goals as goal

pub returns-then-is_finished-clause-told : goal.returns-then-is_finished-clause-told
returns-then-is_finished-clause-told g c = λ tells has entry.
    let view = c.args.self.now in
    let image = g.N.NorState.bytes view.nor.now in
    let magic : has_magic view.geometry image (block_of view.geometry c.args.page) ≡ true = sym has ∙ c.if-not-has.false in
    let head : c.in_ok-head.head ≡ header_at (page_of view.geometry image c.args.page) = c.in_ok-head.ensures.told tells in
    live_by view.geometry image c.args.page c.args.entry c.in_ok-head.head c.requires.page magic entry head c.if-entry-head.false (sym c.if-is_finished.ensures)

pub returns-else-is_finished-clause-told : goal.returns-else-is_finished-clause-told
returns-else-is_finished-clause-told g c = λ tells has entry.
    let view = c.args.self.now in
    let image = g.N.NorState.bytes view.nor.now in
    let head : c.in_ok-head.head ≡ header_at (page_of view.geometry image c.args.page) = c.in_ok-head.ensures.told tells in
    dead_by view.geometry image c.args.page c.in_ok-head.head head (sym c.if-is_finished.ensures)
