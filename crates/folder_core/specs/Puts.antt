-- What the calls of a folder leave. `FolderOf D` is the record of the ghost members, which a clause writes `F.FolderState`.
use Rattle.std.specs.Prelude.{ℕ, ◌≡◌, ◌+◌, ◌≤◌, ◌⊎◌, List, [], ◌∷◌, ◌++◌, length, take, slice_set, Bool}
use Rattle.folder_core.specs.Files.{Entry, FolderFile, entries_of, size_at, bytes_at, IsFirst, NoneNamed, size_before, bytes_before}
pub use Rattle.folder_core.specs.declared.state.FolderState.{Ghosts as FolderOf}

-- the folder is as it was
pub record Kept {D : Type 0} (folder : FolderOf D) (old new : D) : Type 0 where
  pub told : folder.tells old → folder.tells new
  pub told_before : folder.tells new → folder.tells old
  pub entries : folder.entries new ≡ folder.entries old
  pub files : folder.files new ≡ folder.files old
  pub faults : folder.faults old ≤ folder.faults new

-- `count` bytes were put into the first entry of that name, at its place
pub record EntryAt (first : Bool) (name : List ℕ) (count i : ℕ) (old new : List Entry) : Type 0 where
  pub is_first : IsFirst name i old
  pub new_is : new ≡ slice_set old i (record { name = name; size = size_before first (size_at old i) + count })

-- or into a new one, which is the last
pub record EntryLast (name : List ℕ) (count : ℕ) (old new : List Entry) : Type 0 where
  pub none : NoneNamed name old
  pub new_is : new ≡ old ++ record { name = name; size = count } ∷ []

-- a piece was put into the first file of that name, at its place
pub record FileAt (first : Bool) (name piece : List ℕ) (i : ℕ) (old new : List FolderFile) : Type 0 where
  pub is_first : IsFirst name i (entries_of old)
  pub new_is : new ≡ slice_set old i (record { name = name; bytes = bytes_before first (bytes_at old i) ++ piece })

-- or into a new one, which is the last
pub record FileLast (name piece : List ℕ) (old new : List FolderFile) : Type 0 where
  pub none : NoneNamed name (entries_of old)
  pub new_is : new ≡ old ++ record { name = name; bytes = piece } ∷ []

-- a piece was put into the first file of that name, which was emptied before where this is the first piece, or into a new one
pub record Puts {D : Type 0} (folder : FolderOf D) (first : Bool) (name piece : List ℕ) (old new : D) : Type 0 where
  pub told : folder.tells old → folder.tells new
  pub told_before : folder.tells new → folder.tells old
  pub entries : ((i : ℕ) × EntryAt first name (length piece) i (folder.entries old) (folder.entries new))
      ⊎ EntryLast name (length piece) (folder.entries old) (folder.entries new)
  pub files : folder.tells old →
      ((i : ℕ) × FileAt first name piece i (folder.files old) (folder.files new)) ⊎ FileLast name piece (folder.files old) (folder.files new)
  pub faults : folder.faults old ≤ folder.faults new

-- nothing was done, or a front of the piece was put
abbrev pub HalfPuts : {D : Type 0} → FolderOf D → Bool → List ℕ → List ℕ → D → D → Type 0
HalfPuts folder first name piece old new = Kept folder old new ⊎ ((n : ℕ) × Puts folder first name (take n piece) old new)
