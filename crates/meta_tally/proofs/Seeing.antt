-- Header pages and their ids.
use Rattle.std.proofs.Common.{◌≡◌, ℕ, ◌+◌, ◌%◌, ◌<◌, ◌==◌, ◌&&◌, ◌||◌, not, Bool, true, false, List, Option, Some, None, length, slice_index, slice_set, if◌then◌else◌, refl, sym, ◌∙◌, arith, ⊎_elim, length-set}
use Rattle.std.proofs.Math.Nat.{sub-zero}
use Rattle.std.proofs.lemmas.Bool.{cases_eq, cases_Bool, eq-eqb, ne_eqb}
use Rattle.std.proofs.lemmas.List.{get_or-set_same, get_or-set_other}
use Rattle.std.proofs.lemmas.Option.{none-some, same_Some}
use Rattle.geometry.specs.declared.geometry.Geometry.{Geometry}
use Rattle.geometry.specs.Numbers.{page_count}
use Rattle.image_model.specs.Places.{page_of}
use Rattle.image_model.specs.Headers.{obj_id, name_of}
use Rattle.image_model.specs.Live.{Live, live_at, own}
use Rattle.image_model.specs.Files.{is_index, index_page}
use Rattle.image_model.specs.Tidy.{is_number}
use Rattle.image_laws.proofs.Frames.{live_parts}
use Rattle.plain_image.specs.Counted.{Counts}
use Rattle.plain_image.proofs.Ranges.{count_yes, count_no}
use Rattle.meta_tally.specs.Names.{mark_by, mark_at}
use Rattle.std.specs.Prelude.{is_some}
use Rattle.plain_image.proofs.Headed.{index_is, index_not, index_none}
use Rattle.meta_tally.specs.Heads.{says, is_seen, Seen, unseen, with_seen, head_at}
use Rattle.meta_tally.proofs.Finds.{find_is, any_more}

-- what a page says of itself
pub says_is : (live : Live) (p id : ℕ) → is_index (own live id p) 0 ≡ is_number (says (live p)) id
says_is live p id = by_live (live p) refl where
  by_live : (o : Option (List ℕ)) → live p ≡ o → is_index (own live id p) 0 ≡ is_number (says o) id
  by_live None e = index_none live p id e
  by_live (Some page) e = ⊎_elim
      (λ (yes : is_index (Some page) 0 ≡ true). index_is live p id page e yes ∙ (rw yes refl))
      (λ (no : is_index (Some page) 0 ≡ false). index_not live p id page e no ∙ (rw no refl))
      (cases_Bool (is_index (Some page) 0))

-- the id that a live page says is that of its bytes
said_by : (o : Option (List ℕ)) (id : ℕ) → says o ≡ Some id → (page : List ℕ) × (o ≡ Some page) × (obj_id page % 0x8000 ≡ id)
said_by None id e = absurd (none-some id e)
said_by (Some page) id e = ⊎_elim
    (λ (yes : is_index (Some page) 0 ≡ true). (page, refl, same_Some _ id (rw yes at e)))
    (λ (no : is_index (Some page) 0 ≡ false). absurd (none-some id (rw no at e)))
    (cases_Bool (is_index (Some page) 0))

or_never : (b : Bool) → (b || false) ≡ b
or_never true = refl
or_never false = refl

or_always : (b : Bool) → (b || true) ≡ true
or_always true = refl
or_always false = refl

module _ (g : Geometry) (image : List ℕ) (p : ℕ) where
  -- a page is the header page of an id where it says so, and no page below it does
  pub is_head : (id : ℕ) → p < page_count g → is_number (index_page g (own (live_at g image) id) 0) p ≡ (is_number (says (live_at g image p)) id && not (is_seen (live_at g image) p id))
  unfolding index_page is_seen
  is_head id low =
      let found = find_is (λ (q : ℕ). is_index (own (live_at g image) id q) 0) 0 (page_count g) p (omega arith) (omega arith) in
      rw (sub-zero p, says_is (live_at g image) p id) at found

  -- one page more is looked at
  seen_step : (id : ℕ) → is_seen (live_at g image) (p + 1) id ≡ (is_seen (live_at g image) p id || is_number (says (live_at g image p)) id)
  unfolding is_seen
  seen_step id =
      let more = any_more (λ (q : ℕ). is_index (own (live_at g image) id q) 0) 0 p in
      let at : 0 + p ≡ p = omega arith in
      rw (at, says_is (live_at g image) p id) at more

  pub head_seen : (ids : List ℕ) (o : Option ℕ) → p < page_count g → Seen (live_at g image) p ids → o ≡ says (live_at g image p) → unseen ids o ≡ head_at g image p
  unfolding head_at
  head_seen ids None low seen is =
      let test = is_head (obj_id (page_of g image p) % 0x8000) low in
      rw (test, ← is) refl
  head_seen ids (Some id) low seen is =
      let w = said_by (live_at g image p) id (sym is) in
      let page : page_of g image p ≡ w.0 = (live_parts g image p w.0 w.1).bytes in
      let same : obj_id (page_of g image p) % 0x8000 ≡ id = rw page w.2 in
      let test = is_head id low in
      let few : id < 0x8000 = omega (arith, w.2) in
      rw (same, test, ← is, eq-eqb id id refl, seen.each id few) (by_seen (is_seen (live_at g image) p id))
    where
      by_seen : (b : Bool) → (if (if b then 1 else 0) == 0 then Some id else None) ≡ (if not b then Some id else None)
      by_seen true = refl
      by_seen false = refl

  pub seen_more : (ids : List ℕ) (o : Option ℕ) → Seen (live_at g image) p ids → o ≡ says (live_at g image p) → Seen (live_at g image) (p + 1) (with_seen ids o)
  seen_more ids None seen is = record {
    len = seen.len;
    each = λ id few. seen.each id few ∙ (rw (seen_step id, ← is, or_never (is_seen (live_at g image) p id)) refl);
  }
  seen_more ids (Some k) seen is = record {
    len = length-set ids k 1 ∙ seen.len;
    each = λ id few. ⊎_elim
        (λ (same : k ≡ id). rw (seen_step id, ← is, eq-eqb k id same, or_always (is_seen (live_at g image) p id), same) (get_or-set_same ids id 1 0 (omega (arith, few, seen.len))))
        (λ (differ : k ≡ id → ⊥). rw (seen_step id, ← is, ne_eqb k id differ, or_never (is_seen (live_at g image) p id)) (get_or-set_other ids k id 1 0 (λ e. differ (sym e)) ∙ seen.each id few))
        (cases_eq k id);
  }

pub none_seen : (live : Live) (ids : List ℕ) → length ids ≡ 0x8000 → ((k : ℕ) → slice_index ids k ≡ 0) → Seen live 0 ids
unfolding is_seen
none_seen live ids len zero = record { len = len; each = λ id few. zero id }

-- one page more is marked
pub marked_more : (g : Geometry) (image marks : List ℕ) (p m : ℕ) → p < length marks → ((q : ℕ) → q < p → slice_index marks q ≡ mark_at g image q) → m ≡ mark_at g image p → (q : ℕ) → q < p + 1 → slice_index (slice_set marks p m) q ≡ mark_at g image q
marked_more g image marks p m inside was is q low = ⊎_elim
    (λ (here : p ≡ q). rw (← here) (get_or-set_same marks p m 0 inside ∙ is))
    (λ (there : p ≡ q → ⊥). get_or-set_other marks p q m 0 (λ e. there (sym e)) ∙ was q (omega (arith, low, there)))
    (cases_eq p q)

-- the mark of a page by the id whose header page it is
pub mark_is : (g : Geometry) (image : List ℕ) (p m : ℕ) (first : Option ℕ) → first ≡ head_at g image p → m ≡ mark_by first (name_of (page_of g image p)) → m ≡ mark_at g image p
unfolding mark_at
mark_is g image p m first head is = rw (← head) is

-- one head more is counted, where there is one
pub counted_more : (g : Geometry) (image : List ℕ) (p count more : ℕ) (first : Option ℕ) → p < page_count g → Counts (λ (q : ℕ). is_some (head_at g image q)) count p (page_count g) → first ≡ head_at g image p →
    (is_some first ≡ true → more ≡ count + 1) → (is_some first ≡ false → more ≡ count) → Counts (λ (q : ℕ). is_some (head_at g image q)) more (p + 1) (page_count g)
counted_more g image p count more first low was head one same = ⊎_elim
    (λ (some : is_some first ≡ true). count_yes (λ (q : ℕ). is_some (head_at g image q)) count more p (page_count g) low was (rw head at some) (one some))
    (λ (none : is_some first ≡ false). count_no (λ (q : ℕ). is_some (head_at g image q)) count more p (page_count g) low was (rw head at none) (same none))
    (cases_Bool (is_some first))
