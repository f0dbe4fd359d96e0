-- The entries of a host folder, as it keeps them.
use Rattle.std.specs.Prelude.{ℕ, ◌^◌, ◌<◌, ◌⊎◌, Bool, List, length, map}
use Rattle.std.proofs.Common.{sym, subst}
use Rattle.std.proofs.lemmas.List.{length-map}
use Rattle.host_edge.specs.declared.host_file.HostFile.{HostFile}
use Rattle.folder_core.specs.Files.{Entry}
use Rattle.folder_core.specs.Puts.{EntryAt, EntryLast}

-- the name and the size of a file
abbrev pub host_entry : HostFile → Entry
host_entry file = record { name = file.name.items; size = file.size }

-- those of all these files
abbrev pub host_entries : List HostFile → List Entry
host_entries files = map host_entry files

-- there are as many entries as files, so fewer than 2^32
pub few_entries : (files : List HostFile) → length files < 2 ^ 32 → length (host_entries files) < 2 ^ 32
few_entries files few = subst (λ (n : ℕ). n < 2 ^ 32) (sym (length-map files host_entry)) few

-- `count` bytes were put into the first entry of that name, or into a new one
abbrev pub HostPuts : Bool → List ℕ → ℕ → List Entry → List Entry → Type 0
HostPuts first name count old new = ((i : ℕ) × EntryAt first name count i old new) ⊎ EntryLast name count old new
