-- Header pages by their ids.
use Rattle.std.proofs.Common.{◌≡◌, ℕ, ◌+◌, ◌<◌, ◌%◌, ◌==◌, ◌&&◌, Bool, true, false, List, [], ◌∷◌, length, set, get_or, ap, refl, sym, subst, ◌∙◌, arith, if◌then◌else◌, replicate, ⊎_elim}
use Rattle.std.proofs.Math.Nat.{sub-zero}
use Rattle.std.proofs.lemmas.Bool.{cases_eq, cases_Bool, eq-eqb, ne_eqb}
use Rattle.std.specs.Prelude.{Option, Some, None, option_and_then, find}
use Rattle.std.proofs.lemmas.List.{get_or-set_same, get_or-set_other, get_or-replicate, length-replicate}
use Rattle.geometry.specs.declared.geometry.Geometry.{Geometry}
use Rattle.geometry.specs.Numbers.{page_count}
use Rattle.image_model.specs.Headers.{obj_id}
use Rattle.image_model.specs.Places.{page_of}
use Rattle.image_model.specs.Live.{Live, live_at, is_live, own}
use Rattle.image_model.specs.Files.{is_index, index_page}
use Rattle.std.specs.List.{range_with_len}
use Rattle.image_model.specs.Tidy.{is_number}
use Rattle.plain_image.specs.Headed.{HeadsFrom, IsHeads}
use Rattle.plain_image.proofs.Ranges.{range_step, range_end}

-- a live page is the header page of an id where it says so
own_head : (page : List ℕ) (b : Bool) → is_index (if b then Some page else None) 0 ≡ (b && is_index (Some page) 0)
own_head page true = refl
own_head page false = refl

own_is : (live : Live) (p id : ℕ) (page : List ℕ) → live p ≡ Some page → is_index (own live id p) 0 ≡ ((obj_id page % 0x8000 == id) && is_index (Some page) 0)
unfolding own
own_is live p id page e = subst (λ o. is_index (option_and_then (λ x. if obj_id x % 0x8000 == id then Some x else None) o) 0 ≡ ((obj_id page % 0x8000 == id) && is_index (Some page) 0)) (sym e) (own_head page (obj_id page % 0x8000 == id))

and_true : (b : Bool) → (b && true) ≡ b
and_true true = refl
and_true false = refl

and_false : (b : Bool) → (b && false) ≡ false
and_false true = refl
and_false false = refl

pub index_is : (live : Live) (p id : ℕ) (page : List ℕ) → live p ≡ Some page → is_index (Some page) 0 ≡ true → is_index (own live id p) 0 ≡ (obj_id page % 0x8000 == id)
index_is live p id page e h = own_is live p id page e ∙ rw h (and_true _)

pub index_not : (live : Live) (p id : ℕ) (page : List ℕ) → live p ≡ Some page → is_index (Some page) 0 ≡ false → is_index (own live id p) 0 ≡ false
index_not live p id page e h = own_is live p id page e ∙ rw h (and_false _)

pub index_none : (live : Live) (p id : ℕ) → live p ≡ None → is_index (own live id p) 0 ≡ false
unfolding own
index_none live p id e = rw e refl

-- noting the header page of one id
pub noted : (heads new : List (Option ℕ)) (i p : ℕ) → i < length heads → new ≡ set heads i (Some p) → (id : ℕ) → get_or new id None ≡ (if i == id then Some p else get_or heads id None)
noted heads new i p h is id =
    ⊎_elim
    (λ (same : i ≡ id). rw (is, eq-eqb i id same, ← same) (get_or-set_same heads i (Some p) None h))
    (λ (differ : i ≡ id → ⊥). rw (is, ne_eqb i id differ) (get_or-set_other heads i id (Some p) None (λ e. differ (sym e))))
    (cases_eq i id)

-- with none noted, of no page
pub none_noted : (g : Geometry) (live : Live) (p : ℕ) (heads : List (Option ℕ)) → p ≡ page_count g → heads ≡ replicate 0x8000 None → HeadsFrom g live p heads
none_noted g live p heads h is = record {
  most = omega (arith, h);
  len = rw is (length-replicate {A = Option ℕ} 0x8000 None);
  each = λ id low. rw (is, range_end p (page_count g) (omega (arith, h))) (get_or-replicate {A = Option ℕ} 0x8000 id None None low);
}

pub all_noted : (g : Geometry) (live : Live) (heads : List (Option ℕ)) → HeadsFrom g live 0 heads → IsHeads g live heads
unfolding index_page
all_noted g live heads from = record { len = from.len; each = λ id low. from.each id low ∙ rw (sub-zero (page_count g)) refl }

-- one page more, below the others
pub noted_more : (g : Geometry) (live : Live) (p q : ℕ) (old new : List (Option ℕ)) → q + 1 ≡ p → HeadsFrom g live p old → length new ≡ 0x8000 →
    ((id : ℕ) → id < 0x8000 → get_or new id None ≡ (if is_index (own live id q) 0 then Some q else get_or old id None)) → HeadsFrom g live q new
noted_more g live p q old new next was len each = record {
  most = omega (arith, was.most);
  len = len;
  each = λ id low. each id low ∙ rw (range_step q (page_count g) (omega (arith, was.most)), was.each id low, next) refl;
}

pub head_known : (g : Geometry) (live : Live) (heads : List (Option ℕ)) (id : ℕ) → IsHeads g live heads → id < 0x8000 → get_or heads id None ≡ index_page g (own live id) 0
head_known g live heads id is low = is.each id low

-- the first of some numbers that passes isn't one that fails
find_other : (test : ℕ → Bool) (xs : List ℕ) (p : ℕ) → test p ≡ false → is_number (find test xs) p ≡ false
find_other test [] p h = refl
find_other test (x ∷ xs) p h =
    ⊎_elim
    (λ (yes' : test x ≡ true). rw yes' (ne_eqb x p (λ (e : x ≡ p). let bad : true ≡ false = sym yes' ∙ ap test e ∙ h in absurd (cc))))
    (λ (no' : test x ≡ false). rw no' (find_other test xs p h))
    (cases_Bool (test x))

-- a page that doesn't say a span isn't its index page
pub index_other : (g : Geometry) (pages : Live) (span p : ℕ) → is_index (pages p) span ≡ false → is_number (index_page g pages span) p ≡ false
unfolding index_page
index_other g pages span p h = find_other (λ (q : ℕ). is_index (pages q) span) (range_with_len 0 (page_count g)) p h

-- ---- live index pages of an id, by their own bytes

index_if : (page : List ℕ) (mine : Bool) (span : ℕ) → is_index (if mine then Some page else None) span ≡ (is_index (Some page) span && mine)
index_if page true span = sym (and_true (is_index (Some page) span))
index_if page false span = sym (and_false (is_index (Some page) span))

index_parts : (page : List ℕ) (live : Bool) (id span : ℕ) →
    is_index (option_and_then (λ x. if obj_id x % 0x8000 == id then Some x else None) (if live then Some page else None)) span ≡ ((is_index (Some page) span && (obj_id page % 0x8000 == id)) && live)
index_parts page true id span = index_if page (obj_id page % 0x8000 == id) span ∙ sym (and_true (is_index (Some page) span && (obj_id page % 0x8000 == id)))
index_parts page false id span = sym (and_false (is_index (Some page) span && (obj_id page % 0x8000 == id)))

both_of : (x y a b : Bool) → x ≡ (a && b) → a ≡ y → x ≡ (y && b)
both_of x y a b e f = rw (← f) e

-- a page is a live index page of an id where its bytes say so and it is live
pub index_told : (g : Geometry) (image page : List ℕ) (id p span : ℕ) (told : Bool) → page ≡ page_of g image p → told ≡ (is_index (Some page) span && (obj_id page % 0x8000 == id)) →
    is_index (own (live_at g image) id p) span ≡ (told && is_live g image p)
unfolding own live_at
index_told g image page id p span told at is =
    both_of _ told _ (is_live g image p) (index_parts (page_of g image p) (is_live g image p) id span) (sym (is ∙ ap (λ (bytes : List ℕ). is_index (Some bytes) span && (obj_id bytes % 0x8000 == id)) at))
