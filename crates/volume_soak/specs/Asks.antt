-- A draw and a task of the program, and what they ask.
use Rattle.std.specs.Prelude.{◌≡◌, ℕ}
use Rattle.table_model.specs.Ask.{Ask, Reads, Fills}
use Rattle.volume_soak.specs.declared.draws.Draw.{Draw}
use Rattle.volume_soak.specs.declared.turns.Task.{Task}
use Rattle.volume_soak.specs.declared.turns.Task.TheVariants.{Fill, Read}
use Rattle.volume_soak.specs.Draws.{name_of, count_of, byte_of, kind_of}

-- this is what a draw asks for
pub record IsDraw (r : ℕ) (d : Draw) : Type 0 where
  pub kind : d.kind ≡ kind_of r
  pub name : d.name ≡ name_of r
  pub count : d.count ≡ count_of r
  pub byte : d.byte ≡ byte_of r

-- the call of a task through a descriptor
abbrev pub asks_of : Task → ℕ → Ask
asks_of (Fill count byte) fd = Fills fd count byte
asks_of (Read count) fd = Reads fd count

-- the bytes that must be lent for it
abbrev pub bytes_of : Task → ℕ
bytes_of (Fill count byte) = count
bytes_of (Read count) = count
