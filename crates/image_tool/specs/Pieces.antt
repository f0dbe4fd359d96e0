-- What the pieces of one file leave of a folder.
use Rattle.std.specs.Prelude.{ℕ, ◌≡◌, ◌+◌, ◌⊎◌, ◌==◌, List, length, take, Result, Ok, Err}
use Rattle.folder_core.specs.Files.{Entry}
use Rattle.folder_core.specs.declared.state.FolderState.{Ghosts as FolderOf}
use Rattle.folder_core.specs.Puts.{Kept, Puts, HalfPuts}
use Rattle.image_tool.specs.declared.error.ExtractErr.{ExtractErr}
use Rattle.image_tool.specs.declared.error.ExtractErr.TheVariants.{BoardFault, FolderFault, Damaged}
use Rattle.image_tool.specs.Putting.{put_named, put_file}

-- the names and sizes of a folder with one put among them
abbrev pub put_entry : Entry → List Entry → List Entry
put_entry entry entries = put_named (λ e. e.name) entry entries

-- A file of that name was put, with these bytes.
pub record PutsOne {D : Type 0} (folder : FolderOf D) (name bytes : List ℕ) (old new : D) : Type 0 where
  pub entries : folder.entries new ≡ put_entry (record { name = name; size = length bytes }) (folder.entries old)
  pub files : folder.tells old → folder.files new ≡ put_file (record { name = name; bytes = bytes }) (folder.files old)

-- nothing was done, or a front of those bytes was put
abbrev pub PutsSome : {D : Type 0} → FolderOf D → (name bytes : List ℕ) → (old new : D) → Type 0
PutsSome folder name bytes old new = Kept folder old new ⊎ ((n : ℕ) × PutsOne folder name (take n bytes) old new)

-- How the put of a piece ended that stands at a place of its file: the place behind it is answered; or a fault came, and a front of it was put at most.
abbrev pub PutsPiece : {D : Type 0} → FolderOf D → (name : List ℕ) → (at : ℕ) → (piece : List ℕ) → (old new : D) → Result ℕ ExtractErr → Type 0
PutsPiece folder name at piece old new (Ok end) = (end ≡ at + length piece) × Puts folder (at == 0) name piece old new
PutsPiece folder name at piece old new (Err BoardFault) = HalfPuts folder (at == 0) name piece old new
PutsPiece folder name at piece old new (Err FolderFault) = HalfPuts folder (at == 0) name piece old new
PutsPiece folder name at piece old new (Err (Damaged differ)) = ⊥

-- How the put of a file ended: it has all its bytes, or a fault came, and a front of them was put at most.
abbrev pub PutsBytes : {D : Type 0} → FolderOf D → (name bytes : List ℕ) → (old new : D) → Result (Unit {0}) ExtractErr → Type 0
PutsBytes folder name bytes old new (Ok done) = PutsOne folder name bytes old new
PutsBytes folder name bytes old new (Err BoardFault) = PutsSome folder name bytes old new
PutsBytes folder name bytes old new (Err FolderFault) = PutsSome folder name bytes old new
PutsBytes folder name bytes old new (Err (Damaged differ)) = ⊥
