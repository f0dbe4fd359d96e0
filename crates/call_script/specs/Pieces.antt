-- How a line is put together piece by piece.
use Rattle.std.specs.Prelude.{◌≡◌, ℕ, ◌+◌, ◌≤◌, List, ◌++◌, length, take}
use Rattle.table_model.specs.declared.reply.Reply.{Reply}
use Rattle.table_model.specs.declared.reply.Reply.TheVariants.{Done, Number, Bytes, File, NoMore, Room, Refusal}

-- these bytes were put behind the first `at` bytes, and end at `stop`
pub record Puts (old : List ℕ) (at : ℕ) (piece : List ℕ) (new : List ℕ) (stop : ℕ) : Type 0 where
  pub written : take stop new ≡ take at old ++ piece
  pub end_is : stop ≡ at + length piece
  pub length_is : length new ≡ length old

-- bytes that were read are 1,024 at most
abbrev pub IsShort : Reply → Type 0
IsShort Done = Unit {0}
IsShort (Number n) = Unit {0}
IsShort (Bytes bytes) = length bytes.now ≤ 1024
IsShort (File stat) = Unit {0}
IsShort NoMore = Unit {0}
IsShort (Room info) = Unit {0}
IsShort (Refusal why) = Unit {0}
