-- What the top call is handed.
use Rattle.std.specs.Prelude.{ℕ, List}
use Rattle.tool_parts.specs.declared.buffers.Lengths.{Lengths}

-- the words, the device's erase unit and size in bytes, and how much memory is lent
pub record Asked : Type 0 where
  pub words : List (List ℕ)
  pub unit : ℕ
  pub size : ℕ
  pub lent : Lengths

abbrev pub asked_by : (words : List (List ℕ)) (unit size : ℕ) → Lengths → Asked
asked_by words unit size lent = record { words = words; unit = unit; size = size; lent = lent }
