-- Marked pages: their ids, by their entries, and the header pages of ids.
use Rattle.std.proofs.Common.{◌≡◌, ◌≢◌, ℕ, ◌%◌, ◌==◌, ◌<◌, ⊎_elim, Bool, true, false, List, refl, sym, ◌∙◌, ap, arith, Option, Some, None, if◌then◌else◌}
use Rattle.std.specs.Prelude.{Result, Ok, Err}
use Rattle.std.proofs.lemmas.Bool.{cases_eq, eq-eqb, ne_eqb}
use Rattle.geometry.specs.declared.geometry.Geometry.{Geometry}
use Rattle.table_model.specs.Table.{File}
use Rattle.image_model.specs.declared.damage.Damage.{Damage}
use Rattle.geometry.specs.Numbers.{page_count}
use Rattle.image_model.specs.Headers.{obj_id}
use Rattle.image_model.specs.Places.{page_of}
use Rattle.image_model.specs.Live.{live_at, own}
use Rattle.image_model.specs.Files.{index_page, is_index, judged}
use Rattle.image_model.specs.Tables.{has_of}
use Rattle.flash_view.specs.Found.{headed}
use Rattle.flash_view.specs.DataPages.{lookup_entry}
use Rattle.file_find.specs.Marks.{mark_by, mark_as, mark_of, mark_for, marked_id, cause_at}
use Rattle.flash_view.proofs.Entries.{live_page}
use Rattle.flash_view.proofs.Least.{head_id}
use Rattle.file_find.proofs.Marking.{has_at, has_none, first_mark, other_mark, find_parts}

-- ---- the id of a marked page, by its entry

pub unmarked : (g : Geometry) (image : List ℕ) (p mark : ℕ) → mark ≡ mark_of g image p → mark ≡ 0 → None ≡ marked_id g image p
unfolding marked_id
unmarked g image p mark is none = rw (sym is, none) refl

headed_id : (page : List ℕ) (id : ℕ) (index : Bool) → (if index then Some (obj_id page % 0x8000) else None) ≡ Some id → obj_id page % 0x8000 ≡ id
headed_id page id true e = cc
headed_id page id false e = absurd (cc)

headed_entry : (g : Geometry) (image : List ℕ) (p id : ℕ) (o : Option (List ℕ)) → live_at g image p ≡ o → headed o ≡ Some id → lookup_entry g image p % 0x8000 ≡ id
headed_entry g image p id None is e = absurd (cc)
headed_entry g image p id (Some page) is e = rw (live_page g image p page is).entry (headed_id page id (is_index (Some page) 0) e)

-- a page that tells an id has it in its entry
pub headed_by_entry : (g : Geometry) (image : List ℕ) (p id : ℕ) → headed (live_at g image p) ≡ Some id → lookup_entry g image p % 0x8000 ≡ id
headed_by_entry g image p id e = headed_entry g image p id (live_at g image p) refl e

some_entry : (g : Geometry) (image : List ℕ) (p : ℕ) (o : Option ℕ) → headed (live_at g image p) ≡ o → mark_as g image o p ≢ 0 → Some (lookup_entry g image p % 0x8000) ≡ o
some_entry g image p None is marked = absurd (marked refl)
some_entry g image p (Some id) is marked = ap (λ (x : ℕ). Some x) (headed_by_entry g image p id is)

pub mark_entry : (g : Geometry) (image : List ℕ) (p : ℕ) → mark_of g image p ≢ 0 → Some (lookup_entry g image p % 0x8000) ≡ headed (live_at g image p)
unfolding mark_of
mark_entry g image p marked = some_entry g image p (headed (live_at g image p)) refl marked

pub id_of_entry : (g : Geometry) (image : List ℕ) (p mark entry : ℕ) → mark ≡ mark_of g image p → mark ≢ 0 → entry ≡ lookup_entry g image p → Some (entry % 0x8000) ≡ marked_id g image p
unfolding marked_id
id_of_entry g image p mark entry is some told =
    let marked : mark_of g image p ≢ 0 = λ e. some (is ∙ e) in
    rw (ne_eqb (mark_of g image p) 0 marked, told) (mark_entry g image p marked)

-- ---- a marked page is the header page of its id

same_page : (cause : Option Damage) (r : Result File Damage) (q p : ℕ) → mark_by cause (Some (q, r)) p ≢ 0 → Some q ≡ Some p
same_page cause r q p marked =
    ⊎_elim
    (λ (same : q ≡ p). ap (λ (x : ℕ). Some x) same)
    (λ (other : q ≡ p → ⊥). absurd (marked (other_mark cause r q p (ne_eqb q p other))))
    (cases_eq q p)

mark_page : (g : Geometry) (image : List ℕ) (id p : ℕ) (cause : Option Damage) (o : Option ℕ) → index_page g (own (live_at g image) id) 0 ≡ o → mark_by cause (has_of g (live_at g image) id) p ≢ 0 → o ≡ Some p
mark_page g image id p cause None is marked = absurd (marked (rw (has_none g (live_at g image) id is) refl))
mark_page g image id p cause (Some q) is marked = same_page cause (judged g (own (live_at g image) id) id (page_of g image q)) q p (λ e. marked (rw (has_at g image id q is) e))

pub mark_head : (g : Geometry) (image : List ℕ) (p id : ℕ) → headed (live_at g image p) ≡ Some id → mark_of g image p ≢ 0 → index_page g (own (live_at g image) id) 0 ≡ Some p
unfolding mark_of
mark_head g image p id is marked = mark_page g image id p (cause_at g image id) (index_page g (own (live_at g image) id) 0) refl (λ e. marked (rw is e))

marked_parts : (g : Geometry) (image : List ℕ) (p id mark : ℕ) (o : Option ℕ) (none : Bool) → (mark == 0) ≡ none → mark ≡ mark_as g image o p → (if none then None else o) ≡ Some id →
    (o ≡ Some id) × (mark_by (cause_at g image id) (has_of g (live_at g image) id) p ≢ 0)
marked_parts g image p id mark o true zeroed is e = absurd (cc)
marked_parts g image p id mark None false zeroed is e = absurd (cc)
marked_parts g image p id mark (Some i) false zeroed is e =
    let same : i ≡ id = cc in
    (e, λ none. let bad : mark ≡ 0 = is ∙ rw same none in let t : (mark == 0) ≡ true = eq-eqb mark 0 bad in absurd (cc))

pub marked_page : (g : Geometry) (image : List ℕ) (p id : ℕ) → marked_id g image p ≡ Some id → (headed (live_at g image p) ≡ Some id) × (index_page g (own (live_at g image) id) 0 ≡ Some p)
unfolding marked_id mark_of
marked_page g image p id e =
    let w = marked_parts g image p id (mark_as g image (headed (live_at g image p)) p) (headed (live_at g image p)) (mark_as g image (headed (live_at g image p)) p == 0) refl refl e in
    (w.0, mark_page g image id p (cause_at g image id) (index_page g (own (live_at g image) id) 0) refl w.1)

-- and a header page is marked

pub header_parts : (g : Geometry) (image : List ℕ) (id p : ℕ) → index_page g (own (live_at g image) id) 0 ≡ Some p → (headed (live_at g image p) ≡ Some id) × (p < page_count g)
unfolding index_page own
header_parts g image id p is =
    let w = find_parts (λ (q : ℕ). is_index (own (live_at g image) id q) 0) 0 (page_count g) p is in
    (head_id (live_at g image p) id w.0, omega (arith, w.2))

mark_some : (r : Result File Damage) (cause : Option Damage) → mark_for r cause ≢ 0
mark_some (Err e) cause = λ z. omega (arith, z)
mark_some (Ok f) None = λ z. omega (arith, z)
mark_some (Ok f) (Some x) = λ z. omega (arith, z)

pub header_mark : (g : Geometry) (image : List ℕ) (id p : ℕ) → index_page g (own (live_at g image) id) 0 ≡ Some p → mark_of g image p ≡ mark_for (judged g (own (live_at g image) id) id (page_of g image p)) (cause_at g image id)
unfolding mark_of
header_mark g image id p is =
    rw (header_parts g image id p is).0 (rw (has_at g image id p is) (first_mark (cause_at g image id) (judged g (own (live_at g image) id) id (page_of g image p)) p))

pub header_marked : (g : Geometry) (image : List ℕ) (id p : ℕ) → index_page g (own (live_at g image) id) 0 ≡ Some p → marked_id g image p ≡ Some id
unfolding marked_id
header_marked g image id p is =
    let m = header_mark g image id p is in
    rw (ne_eqb (mark_of g image p) 0 (λ e. mark_some (judged g (own (live_at g image) id) id (page_of g image p)) (cause_at g image id) (sym m ∙ e))) (header_parts g image id p is).0
