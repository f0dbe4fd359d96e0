-- The generator of drawn numbers.
use Rattle.std.specs.Prelude.{ℕ, zero, suc, ◌+◌, ◌*◌, ◌/◌, ◌%◌, ◌^◌}

-- the generator's next number
abbrev pub next_number : ℕ → ℕ
next_number x = (x * 6364136223846793005 + 1442695040888963407) % 2 ^ 64

-- the generator's number after so many draws
unfoldable pub number_after : ℕ → ℕ → ℕ
number_after seed zero = seed
number_after seed (suc draws) = next_number (number_after seed draws)

-- what a draw gives, where k draws went before it
abbrev pub drawn : ℕ → ℕ → ℕ
drawn seed k = number_after seed (k + 1) / 2 ^ 33
