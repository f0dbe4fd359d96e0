use Rattle.std.proofs.Common.{◌≡◌, ◌≤◌, take}
use Rattle.std.specs.List.{All}
use Rattle.chip_row.specs.Chips.{ChipHonest}
use Rattle.chip_row.proofs.one.is_sound.Given as goal

abbrev pub invariant-loop-chip : goal.invariant-loop-chip
invariant-loop-chip g l = record {
  sizes : All (λ c. g.C.ChipState.size c ≡ l.numbers.chip_size) (take l.chip-index l.chips.items);
  units : All (λ c. g.C.ChipState.unit c ≡ l.numbers.unit) (take l.chip-index l.chips.items);
  past : All (λ c. g.C.ChipState.last c ≤ l.now) (take l.chip-index l.chips.items);
  honest : All (λ c. ChipHonest g.C.ChipState c) (take l.chip-index l.chips.items);
}
