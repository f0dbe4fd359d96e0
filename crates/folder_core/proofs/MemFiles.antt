-- The files of a folder in memory, and those that contracts see.
use Rattle.std.proofs.Common.{◌≡◌, ℕ, ◌<◌, List, [], length, get_or, map, ◌∙◌, ap, arith}
use Rattle.std.proofs.lemmas.List.{get_or-map, length-map}
use Rattle.folder_core.specs.declared.file.MemFile.{MemFile}
use Rattle.folder_core.specs.Files.{Entry, FolderFile, entry_of, entries_of, name_at, size_at, bytes_at}
use Rattle.folder_core.specs.Mem.{file_of, files_of}

module _ (files : List MemFile) (i : ℕ) (d : MemFile) (inside : i < length files) where
  -- the entry of a file
  entry_is : get_or (entries_of (files_of files)) i (record { name = []; size = 0 }) ≡ entry_of (file_of (get_or files i d))
  entry_is = get_or-map entry_of (files_of files) i (file_of d) (record { name = []; size = 0 }) (omega (arith, inside, length-map files file_of)) ∙ ap (λ (f : FolderFile). entry_of f) (get_or-map file_of files i d (file_of d) inside)

  -- the name of a file
  pub name_is : name_at (entries_of (files_of files)) i ≡ (get_or files i d).name.items
  name_is = ap (λ (e : Entry). e.name) entry_is

  -- its size
  pub size_is : size_at (entries_of (files_of files)) i ≡ length (get_or files i d).bytes.items
  size_is = ap (λ (e : Entry). e.size) entry_is

  -- its bytes
  pub bytes_is : bytes_at (files_of files) i ≡ (get_or files i d).bytes.items
  bytes_is = ap (λ (f : FolderFile). f.bytes) (get_or-map file_of files i d (record { name = []; bytes = [] }) inside)
