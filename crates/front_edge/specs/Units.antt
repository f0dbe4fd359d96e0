-- Sizes of chips in erase units.
use Rattle.std.specs.Prelude.{ℕ, ◌%◌, Bool, not, ◌==◌, ◌||◌}

-- so many bytes are none, or no whole number of units of so many
abbrev pub uneven : (size unit : ℕ) → Bool
uneven size unit = (size == 0) || ((unit == 0) || not (size % unit == 0))
