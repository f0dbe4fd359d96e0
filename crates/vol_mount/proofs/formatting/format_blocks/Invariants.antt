-- The blocks below `block` are blank, by so many programs and erases each, and all behind them is as it was.
use Rattle.std.proofs.Common.{◌≡◌, ◌+◌, ◌*◌, ◌/◌, ◌≤◌}
use Rattle.nor_core.specs.Flash.{SameOutside}
use Rattle.nor_core.specs.Device.{Changes}
use Rattle.vol_mount.specs.Formatted.{BlankTo}
use Rattle.vol_mount.proofs.formatting.format_blocks.Given as goal

abbrev pub invariant-loop-block : goal.invariant-loop-block
invariant-loop-block g l = record {
  changes : Changes g.N.NorState l.fn.nor l.nor (SameOutside 0 (l.g.blocks * l.g.block));
  end : l.block-end ≡ l.g.blocks;
  below : l.block ≤ l.g.blocks;
  few : g.N.NorState.device_writes l.nor ≤ g.N.NorState.device_writes l.fn.nor + l.block * (l.g.block / l.g.phys + 2);
  done : (g.N.NorState.tells l.fn.nor → BlankTo l.g l.block (g.N.NorState.bytes l.fn.nor) (g.N.NorState.bytes l.nor));
}
