use Rattle.std.proofs.Common.{◌≡◌, take}
use Rattle.nor_core.specs.Flash.{programmed}
use Rattle.nor_memory.proofs.cut.cleared_bytes.Given as goal

abbrev pub invariant-loop-i : goal.invariant-loop-i
invariant-loop-i l = l.left.items ≡ programmed l.bytes 0 (take l.i l.asked)
