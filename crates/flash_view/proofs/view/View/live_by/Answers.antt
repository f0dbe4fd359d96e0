use Rattle.geometry.specs.Numbers.{per_block}
use Rattle.geometry.proofs.Bounds.{block_below}
use Rattle.flash_view.proofs.view.View.live_by.Goals as goal

pub has_magic-requires : goal.has_magic-requires
unfolding per_block
has_magic-requires g c = rw c.requires.block (block_below c.args.self.now.geometry c.args.page c.requires.page.below)

pub returns-clause-told : goal.returns-clause-told
returns-clause-told g c = λ tells entry.
    let m = c.in_ok-has.ensures in
    (rw (m.looks.same.geometry, m.looks.reads.bytes) at (c.named_header.ensures.told (m.looks.reads.told tells))) (rw c.requires.block at (m.told tells)) entry
