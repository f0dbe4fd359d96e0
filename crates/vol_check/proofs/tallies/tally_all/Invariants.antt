-- What the blocks so far add, and those to come.
use Rattle.std.proofs.Common.{◌≡◌, ◌*◌}
use Rattle.flash_view.specs.Same.{OnlyLooks}
use Rattle.vol_check.specs.Owned.{OwnIf}
use Rattle.vol_check.specs.Needed.{MarksUses}
use Rattle.vol_check.specs.Used.{IsFew}
use Rattle.vol_check.proofs.TallySums.{TalliesTo}
use Rattle.vol_check.proofs.tallies.tally_all.Given as goal

abbrev pub invariant-loop-block : goal.invariant-loop-block
invariant-loop-block g l = record {
  looks : OnlyLooks l.fn.v l.v;
  end : l.block-end ≡ l.fn.v.geometry.blocks;
  few : IsFew (65535 * l.block) l.all;
  told :
      (let image = g.N.NorState.bytes l.fn.v.nor.now in
      g.N.NorState.tells l.fn.v.nor.now → OwnIf l.own l.fn.v.geometry image → MarksUses l.fn.v.geometry image l.marks → TalliesTo l.fn.v.geometry image l.block l.all);
}
