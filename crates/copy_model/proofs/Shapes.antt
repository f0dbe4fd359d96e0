-- What the calls of a copy leave of the descriptors, whatever the files are.
use Rattle.std.proofs.Common.{◌≡◌, ℕ, ◌+◌, ◌<◌, List, length, true, false, Option, Some, None, refl, arith, ⊎_elim}
use Rattle.std.specs.Prelude.{min, replicate, ◌==◌}
use Rattle.std.proofs.lemmas.Bool.{cases_Bool}
use Rattle.geometry.specs.declared.geometry.Geometry.{Geometry}
use Rattle.table_model.specs.declared.error.FsErr.{FsErr}
use Rattle.table_model.specs.Table.{File, file_named, file_of, has_name, least_id, put_file}
use Rattle.table_model.specs.Descriptors.{open_at, put_at, lowest_closed}
use Rattle.table_model.specs.Room.{has_room}
use Rattle.table_model.specs.Names.{name_refusal, names_refusal}
use Rattle.table_model.specs.Files.{created, written}
use Rattle.table_model.specs.Calls.{answer_remove, answer_rename, answer_meta, answer_write}
use Rattle.table_model.specs.Opening.{answer_open}
use Rattle.table_model.specs.Outcome.{Outcome, page_refusal}
use Rattle.table_model.specs.Ask.{Opens, Writes, Removes, Renames, SetsMeta}
use Rattle.table_model.specs.Reply.{Tells}
use Rattle.table_model.specs.Flat.{answer}
use Rattle.call_model.specs.Closed.{with_files}
use Rattle.call_model.proofs.Closed.{first_closed, first_open, opened_twice}
use Rattle.copy_model.specs.Copying.{working, without_name}
use Rattle.copy_model.specs.Filling.{with_first, filler}
use Rattle.copy_model.proofs.Answering.{clears}

-- all descriptors are closed behind it
abbrev pub IsClosed : (slots : ℕ) → Outcome → Type 0
IsClosed slots o = (files : List File) × (o.next ≡ with_files slots files)

pub removes-closed : (g : Geometry) (slots : ℕ) (files : List File) (name : List ℕ) → IsClosed slots (answer g true (with_files slots files) (Removes name))
unfolding answer answer_remove
removes-closed g slots files name = go (name_refusal name) refl
  where
    go : (o : Option FsErr) → name_refusal name ≡ o → IsClosed slots (answer g true (with_files slots files) (Removes name))
    go None fine = (without_name name files, clears g slots name files fine)
    go (Some why) is = (files, rw is refl)

pub renames-closed : (g : Geometry) (slots : ℕ) (files : List File) (old_name new_name : List ℕ) → IsClosed slots (answer g true (with_files slots files) (Renames old_name new_name))
unfolding answer answer_rename page_refusal
renames-closed g slots files old_name new_name = go (names_refusal old_name new_name) refl
  where
    found : names_refusal old_name new_name ≡ None → (o : Option File) → file_named old_name files ≡ o → IsClosed slots (answer g true (with_files slots files) (Renames old_name new_name))
    found fine None none = (files, rw (fine, none) refl)
    found fine (Some f) there = ⊎_elim
        (λ (taken : has_name new_name files ≡ true). (files, rw (fine, there, taken) refl))
        (λ (free : has_name new_name files ≡ false). ⊎_elim
        (λ (room : has_room g (put_file (record f { name = new_name }) files) ≡ true). (put_file (record f { name = new_name }) files, rw (fine, there, free, room) refl))
        (λ (full : has_room g (put_file (record f { name = new_name }) files) ≡ false). (files, rw (fine, there, free, full) refl))
        (cases_Bool (has_room g (put_file (record f { name = new_name }) files))))
        (cases_Bool (has_name new_name files))

    go : (o : Option FsErr) → names_refusal old_name new_name ≡ o → IsClosed slots (answer g true (with_files slots files) (Renames old_name new_name))
    go None fine = found fine (file_named old_name files) refl
    go (Some why) is = (files, rw is refl)

pub sets_meta-closed : (g : Geometry) (slots : ℕ) (files : List File) (name meta : List ℕ) → IsClosed slots (answer g true (with_files slots files) (SetsMeta name meta))
unfolding answer answer_meta page_refusal
sets_meta-closed g slots files name meta = go (name_refusal name) refl
  where
    found : name_refusal name ≡ None → (length meta == g.meta) ≡ true → (o : Option File) → file_named name files ≡ o → IsClosed slots (answer g true (with_files slots files) (SetsMeta name meta))
    found fine long None none = (files, rw (fine, long, none) refl)
    found fine long (Some f) there = ⊎_elim
        (λ (room : has_room g (put_file (record f { meta = meta }) files) ≡ true). (put_file (record f { meta = meta }) files, rw (fine, long, there, room) refl))
        (λ (full : has_room g (put_file (record f { meta = meta }) files) ≡ false). (files, rw (fine, long, there, full) refl))
        (cases_Bool (has_room g (put_file (record f { meta = meta }) files)))

    go : (o : Option FsErr) → name_refusal name ≡ o → IsClosed slots (answer g true (with_files slots files) (SetsMeta name meta))
    go None fine = ⊎_elim
        (λ (long : (length meta == g.meta) ≡ true). found fine long (file_named name files) refl)
        (λ (other : (length meta == g.meta) ≡ false). (files, rw (fine, other) refl))
        (cases_Bool (length meta == g.meta))
    go (Some why) is = (files, rw is refl)

-- ---- the working file is opened, and written

-- the first descriptor is open behind it, with such flags
abbrev pub IsOpened : (slots flags : ℕ) → Outcome → Type 0
IsOpened slots flags o = (id : ℕ) × (offset : ℕ) × (files : List File) × (o.next ≡ with_first slots (record { id = id; flags = flags; offset = offset }) files)

pub opens-first : (g : Geometry) (slots : ℕ) (files : List File) (fd : ℕ) → 0 < slots → (answer g true (with_files slots files) (Opens working 52)).answer ≡ Tells fd → (fd ≡ 1) × IsOpened slots 52 (answer g true (with_files slots files) (Opens working 52))
unfolding answer answer_open page_refusal name_refusal
opens-first g slots files fd some is = go (file_named working files) refl
  where
    first : lowest_closed (replicate (min 65535 slots) None) ≡ Some 1
    first = first_closed (min 65535 slots) (omega (arith, some))

    go : (o : Option File) → file_named working files ≡ o → (fd ≡ 1) × IsOpened slots 52 (answer g true (with_files slots files) (Opens working 52))
    go (Some f) there = (let e = rw (first, there) at is in cc, (f.id, 0, files, rw (first, there) refl))
    go None none = ⊎_elim
        (λ (room : has_room g (created g working files) ≡ true). (let e = rw (first, none, room) at is in cc, (least_id files, 0, created g working files, rw (first, none, room) refl)))
        (λ (full : has_room g (created g working files) ≡ false). absurd (let e = rw (first, none, full) at is in cc))
        (cases_Bool (has_room g (created g working files)))

pub writes-first : (g : Geometry) (slots id offset : ℕ) (files : List File) (bytes : List ℕ) → 0 < slots → IsOpened slots 52 (answer g true (with_first slots (filler id offset) files) (Writes 1 bytes))
unfolding answer answer_write page_refusal
writes-first g slots id offset files bytes some = go (file_of id files) refl
  where
    first : open_at (put_at (replicate (min 65535 slots) None) 1 (Some (filler id offset))) 1 ≡ Some (filler id offset)
    first = first_open (min 65535 slots) (filler id offset) (omega (arith, some))

    go : (o : Option File) → file_of id files ≡ o → IsOpened slots 52 (answer g true (with_first slots (filler id offset) files) (Writes 1 bytes))
    go None none = (id, offset, files, rw (first, none) refl)
    go (Some f) there = ⊎_elim
        (λ (none : (length bytes == 0) ≡ true). (id, offset, files, rw (first, there, none) refl))
        (λ (more : (length bytes == 0) ≡ false). ⊎_elim
        (λ (room : has_room g (put_file (written offset bytes f) files) ≡ true).
        (id, offset + length bytes, put_file (written offset bytes f) files, rw (first, there, more, room, opened_twice (min 65535 slots) (filler id offset) (filler id (offset + length bytes))) refl))
        (λ (full : has_room g (put_file (written offset bytes f) files) ≡ false). (id, offset, files, rw (first, there, more, full) refl))
        (cases_Bool (has_room g (put_file (written offset bytes f) files))))
        (cases_Bool (length bytes == 0))
