-- Tables of files that are numbered one after the other.
use Rattle.std.proofs.Common.{◌≡◌, ℕ, suc, ◌+◌, ◌<◌, List, [], ◌∷◌, ◌++◌, length, true, false, Some, None, refl, sym, ◌∙◌, ap, arith, ⊎_elim}
use Rattle.std.specs.Cmp.Lexicographic.{same_text as text_same}
use Rattle.std.proofs.lemmas.Bool.{cases_Bool, le-ltb, eq-eqb, ne_eqb}
use Rattle.std.proofs.lemmas.List.Sums.{sum_by-cons}
use Rattle.geometry.specs.declared.geometry.Geometry.{Geometry}
use Rattle.table_model.specs.Table.{File, same_text, file_of, file_named, put_file}
use Rattle.table_model.specs.Room.{index_pages, data_pages, index_count, data_count, has_room}
use Rattle.folder_core.specs.Files.{Entry, FolderFile, entries_of, name_at}
use Rattle.folder_plan.specs.Tables.{file_as, numbered, folder_table}
use Rattle.folder_plan.specs.Refusals.{index_sum, data_sum, fits}

-- a file more at the end
pub numbered_end : (g : Geometry) (id : ℕ) (front : List FolderFile) (f : FolderFile) → numbered g id (front ++ f ∷ []) ≡ numbered g id front ++ file_as g (id + length front) f ∷ []
unfolding numbered
numbered_end g id [] f = let e : id ≡ id + 0 = omega arith in ap (λ (n : ℕ). file_as g n f ∷ []) e
numbered_end g id (x ∷ xs) f =
    let e : id + 1 + length xs ≡ id + suc (length xs) = omega arith in
    ap (λ (l : List File). file_as g id x ∷ l) (numbered_end g (id + 1) xs f ∙ ap (λ (n : ℕ). numbered g (id + 1) xs ++ file_as g n f ∷ []) e)

-- a file of the next id goes to the end
pub put_last : (g : Geometry) (id : ℕ) (front : List FolderFile) (f : File) → f.id ≡ id + length front → put_file f (numbered g id front) ≡ numbered g id front ++ f ∷ []
unfolding numbered
put_last g id [] f is = refl
put_last g id (x ∷ xs) f is =
    let next : f.id ≡ id + 1 + length xs = omega (arith, is) in
    rw (le-ltb f.id id (omega (arith, is)), ne_eqb f.id id (λ e. omega (arith, is, e))) (ap (λ (l : List File). file_as g id x ∷ l) (put_last g (id + 1) xs f next))

-- in the place of the last one
pub put_over : (g : Geometry) (id : ℕ) (front : List FolderFile) (old f : File) → f.id ≡ id + length front → old.id ≡ f.id → put_file f (numbered g id front ++ old ∷ []) ≡ numbered g id front ++ f ∷ []
unfolding numbered
put_over g id [] old f is same = rw (le-ltb f.id old.id (omega (arith, same)), eq-eqb f.id old.id (sym same)) refl
put_over g id (x ∷ xs) old f is same =
    let next : f.id ≡ id + 1 + length xs = omega (arith, is) in
    rw (le-ltb f.id id (omega (arith, is)), ne_eqb f.id id (λ e. omega (arith, is, e))) (ap (λ (l : List File). file_as g id x ∷ l) (put_over g (id + 1) xs old f next same))

-- the last one is that of its id
pub file_last : (g : Geometry) (id : ℕ) (front : List FolderFile) (f : File) → f.id ≡ id + length front → file_of f.id (numbered g id front ++ f ∷ []) ≡ Some f
unfolding numbered file_of
file_last g id [] f is = rw (eq-eqb f.id f.id refl) refl
file_last g id (x ∷ xs) f is =
    let next : f.id ≡ id + 1 + length xs = omega (arith, is) in
    rw (ne_eqb id f.id (λ e. omega (arith, is, e))) (file_last g (id + 1) xs f next)

-- none of them has a name that no entry has
pub named_none : (g : Geometry) (id : ℕ) (name : List ℕ) (files : List FolderFile) → ((k : ℕ) → k < length files → name_at (entries_of files) k ≡ name → ⊥) → file_named name (numbered g id files) ≡ None
unfolding numbered file_named
named_none g id name [] none = refl
named_none g id name (x ∷ xs) none = ⊎_elim
    (λ (same : same_text x.name name ≡ true). absurd (none 0 (omega arith) (text_same x.name name (sym same))))
    (λ (other : same_text x.name name ≡ false). rw other (named_none g (id + 1) name xs (λ k inside. none (suc k) (omega (arith, inside)))))
    (cases_Bool (same_text x.name name))

-- their pages
pub index_is : (g : Geometry) (id : ℕ) (files : List FolderFile) → index_count g (numbered g id files) ≡ index_sum g (entries_of files)
unfolding numbered index_count index_sum
index_is g id [] = refl
index_is g id (x ∷ xs) =
    sum_by-cons (λ (f : File). index_pages g (length f.bytes)) (file_as g id x) (numbered g (id + 1) xs)
    ∙ ap (λ (n : ℕ). index_pages g (length x.bytes) + n) (index_is g (id + 1) xs)
    ∙ sym (sum_by-cons (λ (e : Entry). index_pages g e.size) (record { name = x.name; size = length x.bytes }) (entries_of xs))

pub data_is : (g : Geometry) (id : ℕ) (files : List FolderFile) → data_count g (numbered g id files) ≡ data_sum g (entries_of files)
unfolding numbered data_count data_sum
data_is g id [] = refl
data_is g id (x ∷ xs) =
    sum_by-cons (λ (f : File). data_pages g (length f.bytes)) (file_as g id x) (numbered g (id + 1) xs)
    ∙ ap (λ (n : ℕ). data_pages g (length x.bytes) + n) (data_is g (id + 1) xs)
    ∙ sym (sum_by-cons (λ (e : Entry). data_pages g e.size) (record { name = x.name; size = length x.bytes }) (entries_of xs))

-- the volume has room for files by their sizes exactly where their table has room
pub room_is : (g : Geometry) (files : List FolderFile) → has_room g (folder_table g files) ≡ fits g (entries_of files)
unfolding has_room
room_is g files = rw (index_is g 1 files, data_is g 1 files) refl
