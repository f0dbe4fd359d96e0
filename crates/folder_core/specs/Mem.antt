-- A folder in memory.
use Rattle.std.specs.Prelude.{ℕ, ◌≡◌, ◌^◌, ◌<◌, ◌⊎◌, List, length, map, Bool}
use Rattle.std.proofs.Common.{◌∙◌, sym, subst}
use Rattle.std.proofs.lemmas.List.{length-map}
use Rattle.folder_core.specs.declared.file.MemFile.{MemFile}
use Rattle.folder_core.specs.Files.{FolderFile, entry_of, entries_of}
use Rattle.folder_core.specs.Puts.{EntryAt, EntryLast, FileAt, FileLast}

-- what a file in memory is
abbrev pub file_of : MemFile → FolderFile
file_of file = record { name = file.name.items; bytes = file.bytes.items }

-- what all these are
abbrev pub files_of : List MemFile → List FolderFile
files_of files = map file_of files

-- there are as many entries as files in memory
pub same_many : (files : List MemFile) → length (entries_of (files_of files)) ≡ length files
same_many files = length-map (files_of files) entry_of ∙ length-map files file_of

-- so there are fewer than 2^32 of them too
pub few_entries : (files : List MemFile) → length files < 2 ^ 32 → length (entries_of (files_of files)) < 2 ^ 32
few_entries files few = subst (λ (n : ℕ). n < 2 ^ 32) (sym (same_many files)) few

-- a piece was put into the first of them that has that name, or into a new one
pub record MemPuts (first : Bool) (name piece : List ℕ) (old new : List MemFile) : Type 0 where
  pub entries : ((i : ℕ) × EntryAt first name (length piece) i (entries_of (files_of old)) (entries_of (files_of new)))
      ⊎ EntryLast name (length piece) (entries_of (files_of old)) (entries_of (files_of new))
  pub files : ((i : ℕ) × FileAt first name piece i (files_of old) (files_of new)) ⊎ FileLast name piece (files_of old) (files_of new)
