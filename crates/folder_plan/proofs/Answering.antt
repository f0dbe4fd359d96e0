-- What the flat table answers while a folder's files are put.
use Rattle.std.proofs.Common.{◌≡◌, ℕ, zero, suc, ◌+◌, ◌<◌, ◌≤◌, List, [], ◌∷◌, ◌++◌, length, take, drop, Bool, true, false, not, ◌==◌, Option, Some, refl, sym, ◌∙◌, ap, arith, subst, ⊎_elim}
use Rattle.std.specs.Prelude.{find, min, unwrap_or}
use Rattle.std.specs.List.{range_with_len}
use Rattle.std.proofs.lemmas.Bool.{cases_Bool, eqb-false, ne_eqb}
use Rattle.std.proofs.lemmas.List.{take_all, drop_all, append-nil, length-append}
use Rattle.geometry.specs.declared.geometry.Geometry.{Geometry}
use Rattle.table_model.specs.Table.{File, has_id, file_of, least_id, put_file}
use Rattle.table_model.specs.Room.{has_room}
use Rattle.table_model.specs.Descriptors.{open_at}
use Rattle.table_model.specs.Files.{written, created}
use Rattle.table_model.specs.Calls.{answer_write, answer_close}
use Rattle.table_model.specs.Opening.{answer_open}
use Rattle.table_model.specs.Outcome.{gives, page_refusal}
use Rattle.table_model.specs.Ask.{Opens, Writes, Closes}
use Rattle.table_model.specs.Reply.{Fine, Tells}
use Rattle.table_model.specs.Flat.{answer}
use Rattle.call_model.proofs.Closed.{first_closed, first_open, opened_twice, closed_again}
use Rattle.folder_core.specs.Files.{FolderFile}
use Rattle.folder_plan.specs.Tables.{file_as, numbered, folder_table}
use Rattle.folder_plan.specs.Putting.{writer, put_state, begun_state, IsNew}
use Rattle.folder_plan.proofs.Tabling.{numbered_end, put_last, put_over, file_last}

-- ---- the least id that no file has, where they are numbered from 1

pub numbered_long : (g : Geometry) (id : ℕ) (files : List FolderFile) → length (numbered g id files) ≡ length files
unfolding numbered
numbered_long g id [] = refl
numbered_long g id (f ∷ files) = omega (arith, numbered_long g (id + 1) files)

-- one of these ids

id_there : (g : Geometry) (id k : ℕ) (files : List FolderFile) → id ≤ k → k < id + length files → has_id k (numbered g id files) ≡ true
unfolding has_id numbered
id_there g id k [] low high = absurd (omega (arith, low, high))
id_there g id k (f ∷ files) low high = ⊎_elim
    (λ (here : (id == k) ≡ true). rw here refl)
    (λ (later : (id == k) ≡ false). rw later (id_there g (id + 1) k files (omega (arith, low, eqb-false id k later)) (omega (arith, high))))
    (cases_Bool (id == k))

-- an id above theirs
id_above : (g : Geometry) (id k : ℕ) (files : List FolderFile) → id + length files ≤ k → has_id k (numbered g id files) ≡ false
unfolding has_id numbered
id_above g id k [] above = refl
id_above g id k (f ∷ files) above = rw (ne_eqb id k (λ e. omega (arith, e, above))) (id_above g (id + 1) k files (omega (arith, above)))

-- the first of some numbers that passes, where those before it fail
first_passing : (p : ℕ → Bool) (a n : ℕ) → ((k : ℕ) → a ≤ k → k < a + n → p k ≡ false) → p (a + n) ≡ true → find p (range_with_len a (n + 1)) ≡ Some (a + n)
first_passing p a zero fails passes =
    let here : a + 0 ≡ a = omega arith in
    rw here (rw (rw here at passes) refl)
first_passing p a (suc n) fails passes =
    let more : suc n + 1 ≡ suc (n + 1) = omega arith in
    let next : a + suc n ≡ a + 1 + n = omega arith in
    rw (more, fails a (omega arith) (omega arith)) (
    first_passing p (a + 1) n (λ k low high. fails k (omega (arith, low)) (omega (arith, high))) (subst (λ (k : ℕ). p k ≡ true) next passes) ∙ ap (λ (k : ℕ). Some k) (sym next))

least_next : (g : Geometry) (files : List FolderFile) → least_id (folder_table g files) ≡ length files + 1
unfolding least_id
least_next g files =
    let many : length (folder_table g files) ≡ length files = numbered_long g 1 files in
    let next : 1 + length files ≡ length files + 1 = omega arith in
    ap (λ (n : ℕ). unwrap_or (find (λ id. not (has_id id (folder_table g files))) (range_with_len 1 (n + 1))) 0) many
    ∙ ap (λ (o : Option ℕ). unwrap_or o 0) (first_passing (λ id. not (has_id id (folder_table g files))) 1 (length files) (λ k low high. ap not (id_there g 1 k files low high)) (ap not (id_above g 1 (1 + length files) files (omega arith))))
    ∙ next

-- ---- a file is begun, written and closed

abbrev new_one : List ℕ → FolderFile
new_one name = record { name = name; bytes = [] }

-- a new file stands behind the others
created_last : (g : Geometry) (files : List FolderFile) (name : List ℕ) → created g name (folder_table g files) ≡ folder_table g (files ++ new_one name ∷ [])
created_last g files name =
    let id : least_id (folder_table g files) ≡ length files + 1 = least_next g files in
    let next : length files + 1 ≡ 1 + length files = omega arith in
    let f : File = file_as g (length files + 1) (new_one name) in
    ap (λ (n : ℕ). put_file (file_as g n (new_one name)) (folder_table g files)) id
    ∙ put_last g 1 files f next
    ∙ ap (λ (n : ℕ). folder_table g files ++ file_as g n (new_one name) ∷ []) next
    ∙ sym (numbered_end g 1 files (new_one name))

pub answer_begin : (g : Geometry) (slots : ℕ) (files : List FolderFile) (name : List ℕ) → IsNew g slots files name → answer g true (put_state g slots files) (Opens name 20) ≡ gives (Tells 1) (begun_state g slots files (new_one name))
unfolding answer answer_open page_refusal
answer_begin g slots files name new =
    rw (new.fine, first_closed (min 65535 slots) (omega (arith, new.some)), new.missing, created_last g files name, new.room, least_next g files) refl

-- bytes are written at its end
abbrev pub longer : FolderFile → List ℕ → FolderFile
longer f bytes = record { name = f.name; bytes = f.bytes ++ bytes }

-- the last file is that of its id
last_file : (g : Geometry) (files : List FolderFile) (f : FolderFile) → file_of (length files + 1) (folder_table g (files ++ f ∷ [])) ≡ Some (file_as g (length files + 1) f)
last_file g files f =
    let next : 1 + length files ≡ length files + 1 = omega arith in
    ap (λ (l : List File). file_of (length files + 1) l) (numbered_end g 1 files f ∙ ap (λ (n : ℕ). folder_table g files ++ file_as g n f ∷ []) next)
    ∙ file_last g 1 files (file_as g (length files + 1) f) (sym next)

-- what is written at the end of bytes
at_end : (xs ys : List ℕ) → take (length xs) xs ++ ys ++ drop (length xs + length ys) xs ≡ xs ++ ys
at_end xs ys =
    let front : take (length xs) xs ≡ xs = take_all (length xs) xs (omega arith) in
    let back : drop (length xs + length ys) xs ≡ [] = drop_all (length xs + length ys) xs (omega arith) in
    rw (front, back) (append-nil (xs ++ ys))

written_last : (g : Geometry) (files : List FolderFile) (f : FolderFile) (bytes : List ℕ) →
    put_file (written (length f.bytes) bytes (file_as g (length files + 1) f)) (folder_table g (files ++ f ∷ [])) ≡ folder_table g (files ++ longer f bytes ∷ [])
written_last g files f bytes =
    let next : length files + 1 ≡ 1 + length files = omega arith in
    let old : File = file_as g (1 + length files) f in
    let new : File = file_as g (length files + 1) (longer f bytes) in
    ap (λ (l : List ℕ). put_file (record (file_as g (length files + 1) f) { bytes = l }) (folder_table g (files ++ f ∷ []))) (at_end f.bytes bytes)
    ∙ ap (λ (l : List File). put_file new l) (numbered_end g 1 files f)
    ∙ put_over g 1 files old new next (sym next)
    ∙ ap (λ (n : ℕ). folder_table g files ++ file_as g n (longer f bytes) ∷ []) next
    ∙ sym (numbered_end g 1 files (longer f bytes))

pub answer_more : (g : Geometry) (slots : ℕ) (files : List FolderFile) (f : FolderFile) (bytes : List ℕ) → 0 < slots → 0 < length bytes → has_room g (folder_table g (files ++ longer f bytes ∷ [])) ≡ true →
    answer g true (begun_state g slots files f) (Writes 1 bytes) ≡ gives (Tells (length bytes)) (begun_state g slots files (longer f bytes))
unfolding answer answer_write page_refusal
answer_more g slots files f bytes some more room =
    let at : open_at (begun_state g slots files f).slots 1 ≡ Some (writer (length files + 1) (length f.bytes)) = first_open (min 65535 slots) (writer (length files + 1) (length f.bytes)) (omega (arith, some)) in
    let here : file_of (length files + 1) (folder_table g (files ++ f ∷ [])) ≡ Some (file_as g (length files + 1) f) = last_file g files f in
    let some_bytes : (length bytes == 0) ≡ false = ne_eqb (length bytes) 0 (λ e. omega (arith, e, more)) in
    let table : put_file (written (length f.bytes) bytes (file_as g (length files + 1) f)) (folder_table g (files ++ f ∷ [])) ≡ folder_table g (files ++ longer f bytes ∷ []) = written_last g files f bytes in
    rw (at, here, some_bytes, table, room, opened_twice (min 65535 slots) (writer (length files + 1) (length f.bytes)) (writer (length files + 1) (length f.bytes + length bytes)), length-append f.bytes bytes) refl

pub answer_end : (g : Geometry) (slots : ℕ) (files : List FolderFile) (f : FolderFile) → 0 < slots → answer g true (begun_state g slots files f) (Closes 1) ≡ gives Fine (put_state g slots (files ++ f ∷ []))
unfolding answer answer_close
answer_end g slots files f some =
    rw (first_open (min 65535 slots) (writer (length files + 1) (length f.bytes)) (omega (arith, some)), closed_again (min 65535 slots) (writer (length files + 1) (length f.bytes))) refl
