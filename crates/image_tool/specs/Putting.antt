-- What a folder has once files were put into it.
use Rattle.std.specs.Prelude.{ℕ, ◌≡◌, ◌≤◌, ◌⊎◌, List, [], ◌∷◌, ◌++◌, map, take, if◌then◌else◌}
use Rattle.table_model.specs.Table.{same_text, File as TableFile}
use Rattle.folder_core.specs.Files.{Entry, FolderFile, entries_of}
use Rattle.folder_core.specs.declared.state.FolderState.{Ghosts as FolderOf}

-- A list with something put into it: in the place of the first of the same name, or at the end where the name is new.
unfoldable pub put_named : {X : Type 0} → (X → List ℕ) → X → List X → List X
put_named name x [] = x ∷ []
put_named name x (y ∷ ys) = if same_text (name y) (name x) then x ∷ ys else y ∷ put_named name x ys

-- a list with all of these put into it, one after the other
unfoldable pub put_all : {X : Type 0} → (X → List ℕ) → List X → List X → List X
put_all name [] ys = ys
put_all name (x ∷ xs) ys = put_all name xs (put_named name x ys)

-- the files of a folder with a file put among them
abbrev pub put_file : FolderFile → List FolderFile → List FolderFile
put_file file files = put_named (λ f. f.name) file files

-- the files of a folder with these put among them
abbrev pub put_files : List FolderFile → List FolderFile → List FolderFile
put_files those files = put_all (λ f. f.name) those files

-- the names and sizes of a folder with those of these files put among them
abbrev pub put_entries : List FolderFile → List Entry → List Entry
put_entries those entries = put_all (λ e. e.name) (entries_of those) entries

-- the file of a folder that a file of a table is put as: its name and its bytes
abbrev pub folder_file : TableFile → FolderFile
folder_file f = record { name = f.name; bytes = f.bytes }

-- those of a whole table
abbrev pub folder_files : List TableFile → List FolderFile
folder_files table = map folder_file table

-- The folder has the files of before, with these put among them one after the other; their names and sizes are told always.
pub record PutsFiles {D : Type 0} (folder : FolderOf D) (those : List FolderFile) (old new : D) : Type 0 where
  pub entries : folder.entries new ≡ put_entries those (folder.entries old)
  pub files : folder.tells old → folder.files new ≡ put_files those (folder.files old)

-- After the files of a front were put, those bytes of the next file were put that stand before a place.
pub record PutsNext {D : Type 0} (folder : FolderOf D) (front rest : List FolderFile) (old new : D) : Type 0 where
  pub next : FolderFile
  pub others : List FolderFile
  pub rest_is : rest ≡ next ∷ others
  pub place : ℕ
  pub puts : PutsFiles folder (front ++ record { name = next.name; bytes = take place next.bytes } ∷ []) old new

-- The first of these files were put whole, and of the next one nothing or a front of its bytes.
pub record PartlyPuts {D : Type 0} (folder : FolderOf D) (those : List FolderFile) (old new : D) : Type 0 where
  pub front : List FolderFile
  pub rest : List FolderFile
  pub those_are : those ≡ front ++ rest
  pub puts : PutsFiles folder front old new ⊎ PutsNext folder front rest old new

-- the folder tells its bytes as before, and no fault of it is forgotten
pub record FolderGoes {D : Type 0} (folder : FolderOf D) (old new : D) : Type 0 where
  pub told : folder.tells old → folder.tells new
  pub told_before : folder.tells new → folder.tells old
  pub faults : folder.faults old ≤ folder.faults new
