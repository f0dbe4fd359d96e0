use Rattle.std.proofs.Common.{◌≡◌, take}
use Rattle.chip_row.specs.Rows.{latest}
use Rattle.chip_row.proofs.one.latest_of.Given as goal

abbrev pub invariant-loop-chip : goal.invariant-loop-chip
invariant-loop-chip g l = l.now ≡ latest g.C.ChipState (take l.chip-index l.chips.items)
