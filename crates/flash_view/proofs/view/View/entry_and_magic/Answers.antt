use Rattle.image_model.specs.Places.{block_of}
use Rattle.geometry.proofs.Bounds.{block_below}
use Rattle.flash_view.proofs.Rows.{table_magic}
use Rattle.flash_view.proofs.view.View.entry_and_magic.Goals as goal

pub returns-then-self-clause-magic : goal.returns-then-self-clause-magic
returns-then-self-clause-magic g c = λ tells.
    let view = c.args.self.now in
    table_magic view.geometry view.nor.now view.rows.now (block_of view.geometry c.args.page) (view.table c.if-self.true) tells (block_below view.geometry c.args.page c.requires.below)
