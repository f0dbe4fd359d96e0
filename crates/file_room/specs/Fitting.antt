-- Which new files a volume takes, by the answers of its calls.
use Rattle.std.specs.Prelude.{◌≡◌, ℕ, ◌+◌, ◌<◌, ◌≤◌, List, [], ◌∷◌, length, sum_by, Bool, true, false, nat_le, Option, Some, None, if◌then◌else◌}
use Rattle.geometry.specs.declared.geometry.Geometry.{Geometry}
use Rattle.geometry.specs.Numbers.{ceil, entries}
use Rattle.table_model.specs.declared.error.FsErr.TheVariants.{Full}
use Rattle.table_model.specs.Table.{State, file_named}
use Rattle.table_model.specs.Room.{index_pages, data_pages}
use Rattle.table_model.specs.Names.{name_refusal}
use Rattle.table_model.specs.Descriptors.{is_bad_flags, makes, may_write, lowest_closed}
use Rattle.table_model.specs.Ask.{Opens, Writes}
use Rattle.table_model.specs.Reply.{Refuses}
use Rattle.table_model.specs.Outcome.{Outcome}
use Rattle.table_model.specs.Steps.{is_refusal}
use Rattle.table_model.specs.Flat.{answer}

-- A table with so many index pages and data pages has room for a further file of that size: with the file's pages and one more of each kind,
-- each kind in blocks of its own, two blocks are left.
abbrev pub has_room_for : Geometry → (index pages size : ℕ) → Bool
has_room_for g index pages size = nat_le (ceil (index + index_pages g size + 1) (entries g) + ceil (pages + data_pages g size + 1) (entries g) + 2) g.blocks

-- An opening with these flags makes a file of that name, to be written through descriptor `fd`, if there is room: a file can have the name,
-- none has it yet, the flags say so, and `fd` is the lowest closed descriptor.
pub record IsNew (s : State) (name : List ℕ) (flags fd : ℕ) : Type 0 where
  pub fine : name_refusal name ≡ None
  pub missing : file_named name s.table ≡ None
  pub good : is_bad_flags flags ≡ false
  pub makes : makes flags ≡ true
  pub writes : may_write flags ≡ true
  pub closed : lowest_closed s.slots ≡ Some fd

-- These pieces are written one after the other, up to the first that is refused; none is behind a call that was refused.
unfoldable pub write_all : Geometry → (fd : ℕ) → Outcome → List (List ℕ) → Outcome
write_all g fd done [] = done
write_all g fd done (piece ∷ pieces) = if is_refusal done.answer then done else write_all g fd (answer g true done.next (Writes fd piece)) pieces

-- the last answer where a volume with two free blocks is asked to make a file, and to write these pieces into it
abbrev pub put_new : Geometry → State → (name : List ℕ) (flags fd : ℕ) → List (List ℕ) → Outcome
put_new g s name flags fd pieces = write_all g fd (answer g true s (Opens name flags)) pieces

-- A file of these pieces is taken: no call is refused. Or the first refusal is Full.
abbrev pub IsTaken : Outcome → Type 0
IsTaken outcome = is_refusal outcome.answer ≡ false

abbrev pub IsFull : Outcome → Type 0
IsFull outcome = outcome.answer ≡ Refuses Full

-- bytes of all pieces
abbrev pub size_of : List (List ℕ) → ℕ
size_of pieces = sum_by length pieces

-- So many bytes has the largest new file of a volume: one of up to so many is taken, whatever its name, flags and pieces, and one of more is
-- refused as Full.
pub record IsMost (g : Geometry) (s : State) (most : ℕ) : Type 0 where
  pub taken : (name : List ℕ) (flags fd : ℕ) (pieces : List (List ℕ)) → IsNew s name flags fd → size_of pieces ≤ most →
      IsTaken (put_new g s name flags fd pieces)
  pub refused : (name : List ℕ) (flags fd : ℕ) (pieces : List (List ℕ)) → IsNew s name flags fd → most < size_of pieces →
      IsFull (put_new g s name flags fd pieces)

-- The largest new file of a volume. None: not even an empty one is taken.
abbrev pub IsLargest : Geometry → State → Option ℕ → Type 0
IsLargest g s (Some most) = IsMost g s most
IsLargest g s None = (name : List ℕ) (flags fd : ℕ) (pieces : List (List ℕ)) → IsNew s name flags fd → IsFull (put_new g s name flags fd pieces)
