-- What calls that only look leave of a state.
use Rattle.std.proofs.Common.{◌≡◌, ℕ, ◌+◌, ◌<◌, List, length, true, Option, Some, None, refl, arith}
use Rattle.std.specs.Prelude.{min, replicate}
use Rattle.geometry.specs.declared.geometry.Geometry.{Geometry}
use Rattle.table_model.specs.declared.error.FsErr.{FsErr}
use Rattle.table_model.specs.Table.{File, State, file_named, file_of}
use Rattle.table_model.specs.Descriptors.{open_at, put_at, lowest_closed}
use Rattle.table_model.specs.Names.{name_refusal}
use Rattle.table_model.specs.Files.{bytes_at}
use Rattle.table_model.specs.Calls.{answer_stat, answer_read}
use Rattle.table_model.specs.Opening.{answer_open}
use Rattle.table_model.specs.Ask.{Opens, Reads, Stats}
use Rattle.table_model.specs.Reply.{Tells}
use Rattle.table_model.specs.Flat.{answer}
use Rattle.call_model.specs.Closed.{with_files}
use Rattle.call_model.proofs.Closed.{first_closed, first_open, opened_twice}
use Rattle.copy_model.specs.Filling.{with_first, looker}
use Rattle.copy_model.proofs.Shapes.{IsOpened}

-- a look for a record leaves it
pub stats-state : (g : Geometry) (s : State) (name : List ℕ) → (answer g true s (Stats name)).next ≡ s
unfolding answer answer_stat
stats-state g s name = go (name_refusal name) refl
  where
    found : name_refusal name ≡ None → (o : Option File) → file_named name s.table ≡ o → (answer g true s (Stats name)).next ≡ s
    found fine None none = rw (fine, none) refl
    found fine (Some f) there = rw (fine, there) refl

    go : (o : Option FsErr) → name_refusal name ≡ o → (answer g true s (Stats name)).next ≡ s
    go None fine = found fine (file_named name s.table) refl
    go (Some why) is = rw is refl

-- an opening to read leaves the files,
pub looks-table : (g : Geometry) (slots : ℕ) (files : List File) (name : List ℕ) → 0 < slots → (answer g true (with_files slots files) (Opens name 8)).next.table ≡ files
unfolding answer answer_open
looks-table g slots files name some = go (name_refusal name) refl
  where
    first : lowest_closed (replicate (min 65535 slots) None) ≡ Some 1
    first = first_closed (min 65535 slots) (omega (arith, some))

    found : name_refusal name ≡ None → (o : Option File) → file_named name files ≡ o → (answer g true (with_files slots files) (Opens name 8)).next.table ≡ files
    found fine None none = rw (fine, first, none) refl
    found fine (Some f) there = rw (fine, first, there) refl

    go : (o : Option FsErr) → name_refusal name ≡ o → (answer g true (with_files slots files) (Opens name 8)).next.table ≡ files
    go None fine = found fine (file_named name files) refl
    go (Some why) is = rw is refl

-- and the first descriptor open
pub looks-first : (g : Geometry) (slots : ℕ) (files : List File) (name : List ℕ) (fd : ℕ) → 0 < slots → (answer g true (with_files slots files) (Opens name 8)).answer ≡ Tells fd → (fd ≡ 1) × IsOpened slots 8 (answer g true (with_files slots files) (Opens name 8))
unfolding answer answer_open
looks-first g slots files name fd some is = go (name_refusal name) refl
  where
    first : lowest_closed (replicate (min 65535 slots) None) ≡ Some 1
    first = first_closed (min 65535 slots) (omega (arith, some))

    found : name_refusal name ≡ None → (o : Option File) → file_named name files ≡ o → (fd ≡ 1) × IsOpened slots 8 (answer g true (with_files slots files) (Opens name 8))
    found fine None none = absurd (let e = rw (fine, first, none) at is in cc)
    found fine (Some f) there = (let e = rw (fine, first, there) at is in cc, (f.id, 0, files, rw (fine, first, there) refl))

    go : (o : Option FsErr) → name_refusal name ≡ o → (fd ≡ 1) × IsOpened slots 8 (answer g true (with_files slots files) (Opens name 8))
    go None fine = found fine (file_named name files) refl
    go (Some why) bad = absurd (let e = rw bad at is in cc)

-- a read leaves the files, and the first descriptor open
pub reads-first : (g : Geometry) (slots id offset : ℕ) (files : List File) (count : ℕ) → 0 < slots → (after : ℕ) × ((answer g true (with_first slots (looker id offset) files) (Reads 1 count)).next ≡ with_first slots (looker id after) files)
unfolding answer answer_read
reads-first g slots id offset files count some = go (file_of id files) refl
  where
    first : open_at (put_at (replicate (min 65535 slots) None) 1 (Some (looker id offset))) 1 ≡ Some (looker id offset)
    first = first_open (min 65535 slots) (looker id offset) (omega (arith, some))

    go : (o : Option File) → file_of id files ≡ o → (after : ℕ) × ((answer g true (with_first slots (looker id offset) files) (Reads 1 count)).next ≡ with_first slots (looker id after) files)
    go None none = (offset, rw (first, none) refl)
    go (Some f) there = (offset + length (bytes_at count offset f), rw (first, there, opened_twice (min 65535 slots) (looker id offset) (looker id (offset + length (bytes_at count offset f)))) refl)
