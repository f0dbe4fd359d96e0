-- Ids noted as bits in a row of bytes.
use Rattle.std.specs.Prelude.{ℕ, ◌/◌, ◌%◌, List, slice_index}
use Rattle.std.specs.Int.{bit_at}

-- the bit of an id: eight to a byte, the lowest first
unfoldable pub bit_of : List ℕ → ℕ → ℕ
bit_of bits id = bit_at (slice_index bits (id / 8)) (id % 8)
