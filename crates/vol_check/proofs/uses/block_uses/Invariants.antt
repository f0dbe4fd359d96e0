-- The uses of the first `i` entries, and those to come.
use Rattle.std.proofs.Common.{◌≡◌, true}
use Rattle.geometry.specs.Numbers.{entries}
use Rattle.flash_view.specs.Same.{OnlyLooks}
use Rattle.image_model.specs.Places.{has_magic}
use Rattle.vol_check.specs.Owned.{OwnIf}
use Rattle.vol_check.specs.Needed.{MarksUses}
use Rattle.vol_check.specs.Used.{FewUses}
use Rattle.vol_check.proofs.UseSums.{UsesTo}
use Rattle.vol_check.proofs.uses.block_uses.Given as goal

abbrev pub invariant-loop-i : goal.invariant-loop-i
invariant-loop-i g l = record {
  looks : OnlyLooks l.fn.v l.v;
  geometry : l.g ≡ l.fn.v.geometry;
  end : l.i-end ≡ entries l.fn.v.geometry;
  few : FewUses l.i l.all;
  told :
      (let image = g.N.NorState.bytes l.fn.v.nor.now in
      g.N.NorState.tells l.fn.v.nor.now → OwnIf l.own l.fn.v.geometry image → has_magic l.fn.v.geometry image l.block ≡ true → MarksUses l.fn.v.geometry image l.marks → UsesTo l.fn.v.geometry image l.block l.i l.all);
}
