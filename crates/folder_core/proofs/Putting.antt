-- Putting a piece into the files of a folder in memory.
use Rattle.std.proofs.Common.{◌≡◌, ℕ, ◌+◌, ◌≤◌, inl, inr, Bool, true, false, List, [], ◌∷◌, ◌++◌, length, set, refl, sym, ◌∙◌, ap, arith, length-append, OnOk, OnErr, Ok, Err, Result}
use Rattle.std.proofs.lemmas.List.{get_or-map, map-set, map_push, length-map}
use Rattle.nor_core.specs.declared.device.Failed.{Failed}
use Rattle.folder_core.specs.declared.file.MemFile.{MemFile}
use Rattle.folder_core.specs.Files.{Entry, FolderFile, entry_of, entries_of, name_at, size_at, bytes_at, IsFirst, NoneNamed, size_before, bytes_before}
use Rattle.folder_core.specs.Mem.{files_of, MemPuts}
use Rattle.folder_core.specs.Puts.{Kept, Puts}
use Rattle.folder_core.specs.declared.mem_folder.MemFolder.{MemFolder}
use Rattle.folder_core.specs.contracts.mem_folder.MemFolderFolderState.TheImpl.{ghosts}

-- how long the bytes are that stay before a piece
length-before : (first : Bool) (bytes : List ℕ) → length (bytes_before first bytes) ≡ size_before first (length bytes)
length-before true bytes = refl
length-before false bytes = refl

module _ (first : Bool) (name piece : List ℕ) (i : ℕ) (old new : List MemFile) (found : IsFirst name i (entries_of (files_of old))) where
  -- the size of the file
  size_of : length (bytes_at (files_of old) i) ≡ size_at (entries_of (files_of old)) i
  size_of = sym (ap (λ (e : Entry). e.size) (get_or-map entry_of (files_of old) i (record { name = []; bytes = [] }) (record { name = []; size = 0 }) (omega (arith, found.inside, length-map (files_of old) entry_of))))

  -- into the first file of that name
  pub puts_at : files_of new ≡ set (files_of old) i (record { name = name_at (entries_of (files_of old)) i; bytes = bytes_before first (bytes_at (files_of old) i) ++ piece }) → MemPuts first name piece old new
  puts_at done =
      let named : files_of new ≡ set (files_of old) i (record { name = name; bytes = bytes_before first (bytes_at (files_of old) i) ++ piece }) = done ∙ ap (λ (n : List ℕ). set (files_of old) i (record { name = n; bytes = bytes_before first (bytes_at (files_of old) i) ++ piece })) found.here in
      let long : length (bytes_before first (bytes_at (files_of old) i) ++ piece) ≡ size_before first (size_at (entries_of (files_of old)) i) + length piece = length-append (bytes_before first (bytes_at (files_of old) i)) piece ∙ ap (λ (n : ℕ). n + length piece) (length-before first (bytes_at (files_of old) i) ∙ ap (λ (n : ℕ). size_before first n) size_of) in
      record {
        entries = inl (
          i,
          record {
            is_first = found;
            new_is = ap (λ (l : List FolderFile). entries_of l) named ∙ map-set entry_of (files_of old) i (record { name = name; bytes = bytes_before first (bytes_at (files_of old) i) ++ piece }) ∙ ap (λ (n : ℕ). set (entries_of (files_of old)) i (record { name = name; size = n })) long;
          },
        );
        files = inl (i, record { is_first = found; new_is = named });
      }

-- into a new file
pub puts_last : (first : Bool) (name piece : List ℕ) (old new : List MemFile) → NoneNamed name (entries_of (files_of old)) → files_of new ≡ files_of old ++ record { name = name; bytes = piece } ∷ [] → MemPuts first name piece old new
puts_last first name piece old new none done = record {
  entries = inr (record { none = none; new_is = ap (λ (l : List FolderFile). entries_of l) done ∙ map_push entry_of (files_of old) (record { name = name; bytes = piece }) });
  files = inr (record { none = none; new_is = done });
}

module _ (old new : MemFolder) (faults : old.faults ≤ new.faults) where
  -- a folder whose files stay is as it was
  pub kept_of : new.files.items ≡ old.files.items → Kept ghosts old new
  kept_of same = record {
    told = λ tells. tells;
    told_before = λ tells. tells;
    entries = ap (λ (l : List MemFile). entries_of (files_of l)) same;
    files = ap (λ (l : List MemFile). files_of l) same;
    faults = faults;
  }

  -- and one into whose files a piece was put has had it put
  pub puts_of : (first : Bool) (name piece : List ℕ) → MemPuts first name piece old.files.items new.files.items → Puts ghosts first name piece old new
  puts_of first name piece puts = record {
    told = λ tells. tells;
    told_before = λ tells. tells;
    entries = puts.entries;
    files = λ tells. puts.files;
    faults = faults;
  }

-- what an answer gives, by what it gives
pub on_ok : {P Q : Type 0} (result : Result (Unit {0}) Failed) → (P → Q) → OnOk result P → OnOk result Q
on_ok (Ok done) goes p = goes p
on_ok (Err failed) goes p = tt

-- and what a failure gives
pub on_err : {P Q : Type 0} (result : Result (Unit {0}) Failed) → (P → Q) → OnErr result P → OnErr result Q
on_err (Ok done) goes p = tt
on_err (Err failed) goes p = goes p
