-- The files of a host folder, and the entries that contracts see.
use Rattle.std.proofs.Common.{◌≡◌, ℕ, ◌+◌, ◌<◌, ◌≤◌, ◌⊎◌, ⊎_elim, inl, inr, List, [], length, get_or, set, ◌∙◌, sym, ap, subst, Bool, OnErr, Result, Ok, Err}
use Rattle.std.proofs.lemmas.List.{get_or-map, map-set, length-take-le}
use Rattle.host_edge.specs.declared.host_file.HostFile.{HostFile}
use Rattle.folder_core.specs.Files.{Entry, name_at, size_at, size_before}
use Rattle.folder_core.specs.declared.state.FolderState.{Ghosts as FolderOf}
use Rattle.folder_core.specs.Puts.{HalfPuts}
use Rattle.host_edge.specs.Host.{host_entry, host_entries, HostPuts}

-- what holds in any case holds on a failure
pub on_any : {T E P : Type 0} (result : Result T E) → P → OnErr result P
on_any (Ok done) p = tt
on_any (Err why) p = p

module _ (files : List HostFile) (i : ℕ) (d : HostFile) (inside : i < length files) where
  -- the entry of a file
  entry_is : get_or (host_entries files) i (record { name = []; size = 0 }) ≡ host_entry (get_or files i d)
  entry_is = get_or-map host_entry files i d (record { name = []; size = 0 }) inside

  -- the name of a file
  pub name_is : name_at (host_entries files) i ≡ (get_or files i d).name.items
  name_is = ap (λ (e : Entry). e.name) entry_is

  -- its size
  pub size_is : size_at (host_entries files) i ≡ (get_or files i d).size
  size_is = ap (λ (e : Entry). e.size) entry_is

-- the entries after a put into file `i`, which stood as `was` and keeps its name
pub entries_after : (files : List HostFile) (i : ℕ) (was is : HostFile) (first : Bool) (count : ℕ) → i < length files → was ≡ get_or files i was → is.name ≡ was.name → is.size ≡ size_before first was.size + count → host_entries (set files i is) ≡ set (host_entries files) i (record { name = name_at (host_entries files) i; size = size_before first (size_at (host_entries files) i) + count })
entries_after files i was is first count inside stood name size =
    let name_stood : is.name.items ≡ name_at (host_entries files) i = ap (λ v. v.items) name ∙ ap (λ (f : HostFile). f.name.items) stood ∙ sym (name_is files i was inside) in
    let size_stood : was.size ≡ size_at (host_entries files) i = ap (λ (f : HostFile). f.size) stood ∙ sym (size_is files i was inside) in
    map-set host_entry files i is
    ∙ ap (λ (l : List ℕ). set (host_entries files) i (record { name = l; size = is.size })) name_stood
    ∙ ap (λ (n : ℕ). set (host_entries files) i (record { name = name_at (host_entries files) i; size = n })) (size ∙ ap (λ (n : ℕ). size_before first n + count) size_stood)

-- what a failed put leaves of a folder that tells no bytes
pub half_of : {D : Type 0} (folder : FolderOf D) (first : Bool) (name piece : List ℕ) (old new : D) → (folder.tells old → ⊥) → (folder.tells new → ⊥) → folder.faults old ≤ folder.faults new → folder.files new ≡ folder.files old → (folder.entries new ≡ folder.entries old) ⊎ ((n : ℕ) × (n ≤ length piece) × HostPuts first name n (folder.entries old) (folder.entries new)) → HalfPuts folder first name piece old new
half_of folder first name piece old new untold_old untold_new faults files half = ⊎_elim
    (λ same. inl (record { told = λ tells. absurd (untold_old tells); told_before = λ tells. absurd (untold_new tells); entries = same; files = files; faults = faults }))
    (λ some. inr (
      some.0,
      record {
        told = λ tells. absurd (untold_old tells);
        told_before = λ tells. absurd (untold_new tells);
        entries = subst (λ (n : ℕ). HostPuts first name n (folder.entries old) (folder.entries new)) (sym (length-take-le some.0 piece some.1)) some.2;
        files = λ tells. absurd (untold_old tells);
        faults = faults;
      },
    ))
    half
