-- The first files of a folder that isn't refused: their names are new, and there is room for them.
use Rattle.std.proofs.Common.{◌≡◌, ℕ, zero, suc, ◌+◌, ◌-◌, ◌<◌, ◌≤◌, List, [], ◌∷◌, ◌++◌, length, take, Bool, true, false, ◌||◌, Option, Some, None, refl, sym, ◌∙◌, ap, arith, ⊎_elim, subst}
use Rattle.std.specs.Prelude.{is_some, nat_lt, if◌then◌else◌}
use Rattle.std.proofs.lemmas.Bool.{cases_Bool, cases_lt, leb-true, le-leb, lt-ltb, le-ltb, both_ways, true≢false}
use Rattle.std.proofs.lemmas.Option.{none-some}
use Rattle.std.proofs.lemmas.List.{length-take, length-map, get_or-take, map-append}
use Rattle.std.proofs.lemmas.List.Sums.{sum_by_push, sum_by_more, sum_by-take-le}
use Rattle.geometry.specs.declared.geometry.Geometry.{Geometry}
use Rattle.geometry.specs.Numbers.{ceil, body, head_slots, span_slots, entries as entry_pages}
use Rattle.std.specs.Cmp.Lexicographic.{other_text}
use Rattle.geometry.proofs.Bounds.{entry_left}
use Rattle.table_model.specs.declared.error.FsErr.{FsErr}
use Rattle.table_model.specs.Table.{same_text}
use Rattle.table_model.specs.Names.{name_refusal}
use Rattle.table_model.specs.Room.{index_pages, data_pages, has_room}
use Rattle.image_laws.proofs.Serving.{ceil-mono}
use Rattle.folder_core.specs.Files.{Entry, FolderFile, entry_of, entries_of, name_at, size_at}
use Rattle.folder_plan.specs.Refusals.{is_refused, accepted, is_name_of, is_bad, first_bad, first_bad_from, index_sum, data_sum, leaves_two, fits, refusal_by, make_refusal}
use Rattle.folder_plan.specs.Tables.{folder_table}
use Rattle.folder_plan.specs.Putting.{IsNew}
use Rattle.folder_plan.proofs.Naming.{first_here, first_on, name_there}
use Rattle.folder_plan.proofs.Tabling.{named_none, room_is}

abbrev no_entry : Entry
no_entry = record { name = []; size = 0 }

-- ---- a folder that isn't refused has no bad name, and its files have room

by_first : (g : Geometry) (entries : List Entry) (o : Option ℕ) → refusal_by g entries o ≡ None → (o ≡ None) × (fits g entries ≡ true)
by_first g entries (Some at) is = absurd (none-some _ (sym is))
by_first g entries None is = ⊎_elim
    (λ (room : fits g entries ≡ true). (refl, room))
    (λ (full : fits g entries ≡ false). absurd (none-some _ (sym (rw full at is))))
    (cases_Bool (fits g entries))

all_fine : (g : Geometry) (entries : List Entry) → make_refusal g entries ≡ None → (first_bad entries ≡ None) × (fits g entries ≡ true)
unfolding make_refusal
all_fine g entries is = by_first g entries (first_bad entries) is

-- no bad name stands from some place on, so none stands at that or a later one
none_bad : (entries : List Entry) (i n k : ℕ) → i + n ≡ k → k < length entries → first_bad_from entries i (length entries - i) ≡ None → is_bad entries k ≡ false
none_bad entries i zero k at inside none = ⊎_elim
    (λ (bad : is_bad entries k ≡ true).
    let here : i ≡ k = omega (arith, at) in
    absurd (none-some i (sym none ∙ first_here entries i (omega (arith, here, inside)) (subst (λ (j : ℕ). is_bad entries j ≡ true) (sym here) bad))))
    (λ (fine : is_bad entries k ≡ false). fine)
    (cases_Bool (is_bad entries k))
none_bad entries i (suc n) k at inside none = ⊎_elim
    (λ (bad : is_bad entries i ≡ true). absurd (none-some i (sym none ∙ first_here entries i (omega (arith, at, inside)) bad)))
    (λ (fine : is_bad entries i ≡ false). none_bad entries (i + 1) n k (omega (arith, at)) inside (sym (first_on entries i (omega (arith, at, inside)) fine) ∙ none))
    (cases_Bool (is_bad entries i))

neither : (a b : Bool) → (a || b) ≡ false → (a ≡ false) × (b ≡ false)
neither true b is = absurd (true≢false is)
neither false b is = (refl, is)

not_refused : (o : Option FsErr) → is_some o ≡ false → o ≡ None
not_refused None is = refl
not_refused (Some why) is = absurd (true≢false is)

-- the name of a file of it is one that a file can have, and no earlier one has it
fine_name : (g : Geometry) (entries : List Entry) (i : ℕ) → make_refusal g entries ≡ None → i < length entries → (is_refused (name_at entries i) ≡ false) × (is_name_of (name_at entries i) (take i entries) ≡ false)
fine_name g entries i fine inside =
    let whole : length entries - 0 ≡ length entries = omega arith in
    neither _ _ (none_bad entries 0 i i (omega arith) inside (ap (λ (n : ℕ). first_bad_from entries 0 n) whole ∙ (all_fine g entries fine).0))

-- ---- fewer pages have room where more have it

pub fewer_fit : (g : Geometry) (index pages less few : ℕ) → less ≤ index → few ≤ pages → leaves_two g index pages ≡ true → leaves_two g less few ≡ true
fewer_fit g index pages less few i p room =
    let a = ceil-mono (less + 1) (index + 1) (entry_pages g) (omega (arith, entry_left g)) (omega (arith, i)) in
    let b = ceil-mono (few + 1) (pages + 1) (entry_pages g) (omega (arith, entry_left g)) (omega (arith, p)) in
    let had = leb-true _ g.blocks room in
    le-leb _ g.blocks (omega (arith, a, b, had))

pages-mono : (g : Geometry) (a b : ℕ) → a ≤ b → data_pages g a ≤ data_pages g b
pages-mono g a b less = ceil-mono a b (body g) (omega (arith, g.valid.page_least)) less

index_of : Geometry → ℕ → ℕ
index_of g n = if nat_lt (head_slots g) n then 1 + ceil (n - head_slots g) (span_slots g) else 1

index_of-mono : (g : Geometry) (n m : ℕ) → n ≤ m → index_of g n ≤ index_of g m
unfolding index_of
index_of-mono g n m less = ⊎_elim
    (λ (more : head_slots g < n).
    let further = ceil-mono (n - head_slots g) (m - head_slots g) (span_slots g) (omega (arith, g.valid.page_least)) (omega (arith, less)) in
    rw (lt-ltb (head_slots g) n more, lt-ltb (head_slots g) m (omega (arith, more, less))) (omega (arith, further)))
    (λ (few : n ≤ head_slots g).
    rw (le-ltb (head_slots g) n few) (⊎_elim
    (λ (more : head_slots g < m). rw (lt-ltb (head_slots g) m more) (omega arith))
    (λ (few_too : m ≤ head_slots g). rw (le-ltb (head_slots g) m few_too) (omega arith))
    (cases_lt (head_slots g) m)))
    (cases_lt (head_slots g) n)

index-mono : (g : Geometry) (a b : ℕ) → a ≤ b → index_pages g a ≤ index_pages g b
unfolding index_of
index-mono g a b less = index_of-mono g (data_pages g a) (data_pages g b) (pages-mono g a b less)

-- ---- a front of the files, the last of them cut short, takes no more pages than all

front_index : (g : Geometry) (entries : List Entry) (i : ℕ) (e : Entry) → i < length entries → e.size ≤ size_at entries i → index_sum g (take i entries ++ e ∷ []) ≤ index_sum g entries
unfolding index_sum
front_index g entries i e inside less =
    let pages = λ (x : Entry). index_pages g x.size in
    omega (arith, sum_by_push pages (take i entries) e, index-mono g e.size (size_at entries i) less, sum_by_more pages entries i no_entry inside, sum_by-take-le pages entries (i + 1))

front_data : (g : Geometry) (entries : List Entry) (i : ℕ) (e : Entry) → i < length entries → e.size ≤ size_at entries i → data_sum g (take i entries ++ e ∷ []) ≤ data_sum g entries
unfolding data_sum
front_data g entries i e inside less =
    let pages = λ (x : Entry). data_pages g x.size in
    omega (arith, sum_by_push pages (take i entries) e, pages-mono g e.size (size_at entries i) less, sum_by_more pages entries i no_entry inside, sum_by-take-le pages entries (i + 1))

with_last : (files : List FolderFile) (f : FolderFile) → entries_of (files ++ f ∷ []) ≡ entries_of files ++ entry_of f ∷ []
with_last files f = map-append entry_of files (f ∷ [])

-- so it has room where all have it
pub front_room : (g : Geometry) (entries : List Entry) (files : List FolderFile) (f : FolderFile) (i : ℕ) → make_refusal g entries ≡ None → i < length entries → entries_of files ≡ take i entries → length f.bytes ≤ size_at entries i →
    has_room g (folder_table g (files ++ f ∷ [])) ≡ true
front_room g entries files f i fine inside front less =
    let last : entries_of (files ++ f ∷ []) ≡ take i entries ++ entry_of f ∷ [] = with_last files f ∙ ap (λ (l : List Entry). l ++ entry_of f ∷ []) front in
    room_is g (files ++ f ∷ []) ∙ ap (fits g) last
    ∙ fewer_fit g (index_sum g entries) (data_sum g entries) _ _ (front_index g entries i (entry_of f) inside less) (front_data g entries i (entry_of f) inside less) (all_fine g entries fine).1

-- ---- the next file is new

front_long : (entries : List Entry) (files : List FolderFile) (i : ℕ) → i ≤ length entries → entries_of files ≡ take i entries → length files ≡ i
front_long entries files i most front = omega (arith, length-map files entry_of, ap (λ (l : List Entry). length l) front, length-take i entries, most)

-- none before it has its name
unnamed : (g : Geometry) (entries : List Entry) (files : List FolderFile) (i k : ℕ) → make_refusal g entries ≡ None → i < length entries → entries_of files ≡ take i entries → k < length files → name_at (entries_of files) k ≡ name_at entries i → ⊥
unnamed g entries files i k fine inside front below same =
    let low : k < i = omega (arith, below, front_long entries files i (omega (arith, inside)) front) in
    let here : name_at entries k ≡ name_at entries i = ap (λ (e : Entry). e.name) (sym (get_or-take i entries k no_entry low)) ∙ ap (λ (l : List Entry). name_at l k) (sym front) ∙ same in
    ⊎_elim
    (λ (yes : same_text (name_at entries k) (name_at entries i) ≡ true).
    both_ways _ (fine_name g entries i fine inside).1 (name_there (name_at entries i) entries k i low (omega (arith, inside)) yes))
    (λ (no : same_text (name_at entries k) (name_at entries i) ≡ false). other_text (name_at entries k) (name_at entries i) (sym no) here)
    (cases_Bool (same_text (name_at entries k) (name_at entries i)))

pub next_new : (g : Geometry) (slots : ℕ) (entries : List Entry) (files : List FolderFile) (i : ℕ) → 0 < slots → make_refusal g entries ≡ None → i < length entries → entries_of files ≡ take i entries → IsNew g slots files (name_at entries i)
next_new g slots entries files i some fine inside front = record {
  some = some;
  fine = not_refused (name_refusal (name_at entries i)) (fine_name g entries i fine inside).0;
  missing = named_none g 1 (name_at entries i) files (λ k below same. unnamed g entries files i k fine inside front below same);
  room = front_room g entries files (record { name = name_at entries i; bytes = [] }) i fine inside front (omega arith);
}

-- so a file can have its name
pub named_fine : (g : Geometry) (entries : List Entry) (i : ℕ) → make_refusal g entries ≡ None → i < length entries → accepted (name_at entries i) ≡ Some (name_at entries i)
named_fine g entries i fine inside = rw ((fine_name g entries i fine inside).0) refl
