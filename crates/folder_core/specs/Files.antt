-- The files of a folder.
use Rattle.std.specs.Prelude.{ℕ, ◌≡◌, ◌≢◌, ◌<◌, List, [], length, map, slice_index_or, Bool, true, false}

-- the name and the size of a file
pub record Entry : Type 0 where
  pub name : List ℕ
  pub size : ℕ

-- a file
pub record FolderFile : Type 0 where
  pub name : List ℕ
  pub bytes : List ℕ

-- the name and the size of this file
abbrev pub entry_of : FolderFile → Entry
entry_of file = record { name = file.name; size = length file.bytes }

-- those of all these files
abbrev pub entries_of : List FolderFile → List Entry
entries_of files = map entry_of files

-- the name of entry `i`, none past the end
abbrev pub name_at : List Entry → ℕ → List ℕ
name_at entries i = (slice_index_or entries i (record { name = []; size = 0 })).name

-- its size, 0 past the end
abbrev pub size_at : List Entry → ℕ → ℕ
size_at entries i = (slice_index_or entries i (record { name = []; size = 0 })).size

-- the bytes of file `i`, none past the end
abbrev pub bytes_at : List FolderFile → ℕ → List ℕ
bytes_at files i = (slice_index_or files i (record { name = []; bytes = [] })).bytes

-- entry `i` is the first of that name
pub record IsFirst (name : List ℕ) (i : ℕ) (entries : List Entry) : Type 0 where
  pub inside : i < length entries
  pub here : name_at entries i ≡ name
  pub before : (k : ℕ) → k < i → name_at entries k ≢ name

-- there is an entry of that name
abbrev pub Named : List ℕ → List Entry → Type 0
Named name entries = (i : ℕ) × IsFirst name i entries

-- there is no entry of that name
abbrev pub NoneNamed : List ℕ → List Entry → Type 0
NoneNamed name entries = (k : ℕ) → k < length entries → name_at entries k ≢ name

-- the size from which a file goes on: it is emptied where this is the first piece
abbrev pub size_before : Bool → ℕ → ℕ
size_before true size = 0
size_before false size = size

-- the bytes that stay before the piece
abbrev pub bytes_before : Bool → List ℕ → List ℕ
bytes_before true bytes = []
bytes_before false bytes = bytes
