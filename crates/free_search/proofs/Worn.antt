-- The least worn free block of those below a loop's counter.
use Rattle.std.proofs.Common.{◌≡◌, ◌≢◌, ℕ, zero, suc, ◌+◌, ◌<◌, ◌≤◌, ⊎_elim, inl, inr, ◌⊎◌, List, Bool, true, false, ◌&&◌, nat_le, refl, sym, ◌∙◌, ap, arith, subst, if◌then◌else◌}
use Rattle.std.specs.Prelude.{Option, Some, None}
use Rattle.std.specs.Option.{option_map}
use Rattle.std.proofs.lemmas.Option.{same_Some}
use Rattle.std.proofs.lemmas.Bool.{cases_lt, cases_eq, le-leb, leb-true, leb-false, ne_eqb, eq-eqb, and_parts, false_from_ne_true}
use Rattle.geometry.specs.declared.geometry.Geometry.{Geometry}
use Rattle.image_model.specs.Places.{erase_count}
use Rattle.image_model.specs.Tidy.{is_free_block}
use Rattle.free_search.specs.declared.pages.Worn.{Worn}
use Rattle.free_search.specs.Free.{may_choose, less_worn_of, worn_with, the_least_worn}
use Rattle.free_search.proofs.FirstBest.{none_pass, find_best}

-- ---- the block that is never chosen

pub may_take : (not_in : Option ℕ) (block : ℕ) → Some block ≢ not_in → may_choose not_in block ≡ true
may_take None block other = refl
may_take (Some q) block other = rw (ne_eqb q block (λ e. other (ap (λ (n : ℕ). Some n) (sym e)))) refl

pub may_not : (not_in : Option ℕ) (block : ℕ) → Some block ≡ not_in → may_choose not_in block ≡ false
may_not None block same = absurd (cc)
may_not (Some q) block same = let at : q ≡ block = cc in rw (eq-eqb q block at) refl

pub is_other : (not_in : Option ℕ) (block : ℕ) → may_choose not_in block ≡ true → Some block ≢ not_in
is_other not_in block may same = let never = may_not not_in block same in absurd (cc)

-- ---- the blocks one after the other

last_or : (P : ℕ → Type 0) (n b : ℕ) → b < n + 1 → (b < n → P b) → P n → P b
last_or P n b below low last = ⊎_elim (λ (less : b < n). low less) (λ (more : n ≤ b). let same : b ≡ n = omega arith in rw same last) (cases_lt b n)

-- a free block that may be chosen
abbrev pub is_choice : Geometry → List ℕ → Option ℕ → ℕ → Bool
is_choice g image not_in block = may_choose not_in block && is_free_block g image block

-- no choice is less worn, and none before it is worn as little
pub record Leads (g : Geometry) (image : List ℕ) (not_in : Option ℕ) (end : ℕ) (worn : Worn) : Type 0 where
  pub below : worn.block < end
  pub passes : is_choice g image not_in worn.block ≡ true
  pub erases : worn.erases ≡ erase_count g image worn.block
  pub least : (b : ℕ) → b < end → is_choice g image not_in b ≡ true → erase_count g image worn.block ≤ erase_count g image b
  pub first : (b : ℕ) → b < worn.block → is_choice g image not_in b ≡ true → erase_count g image worn.block < erase_count g image b

-- that block, or none of those below the counter is a choice
abbrev pub WornBelow : Geometry → List ℕ → Option ℕ → ℕ → Option Worn → Type 0
WornBelow g image not_in end None = (block : ℕ) → block < end → is_choice g image not_in block ≡ false
WornBelow g image not_in end (Some worn) = Leads g image not_in end worn

module _ (g : Geometry) (image : List ℕ) (not_in : Option ℕ) where
  abbrev worn_at : ℕ → Worn
  worn_at p = record { block = p; erases = erase_count g image p }

  worn_yes : (p : ℕ) (least : Option Worn) → is_choice g image not_in p ≡ true → WornBelow g image not_in p least → WornBelow g image not_in (p + 1) (less_worn_of least (worn_at p))
  worn_yes p None passes was = record {
    below = omega arith;
    passes = passes;
    erases = refl;
    least = λ b below ok. last_or (λ (k : ℕ). erase_count g image p ≤ erase_count g image k) p b below (λ less. absurd (let no : is_choice g image not_in b ≡ false = was b less in cc)) (omega arith);
    first = λ b below ok. absurd (let no : is_choice g image not_in b ≡ false = was b below in cc);
  }
  worn_yes p (Some s) passes was = turn (nat_le s.erases (erase_count g image p)) refl
    where
      turn : (keep : Bool) → nat_le s.erases (erase_count g image p) ≡ keep → WornBelow g image not_in (p + 1) (if keep then Some s else Some (worn_at p))
      turn true e =
          let less = leb-true _ _ e in
          record {
            below = omega (arith, was.below);
            passes = was.passes;
            erases = was.erases;
            least = λ b below ok. last_or (λ (k : ℕ). erase_count g image s.block ≤ erase_count g image k) p b below (λ low. was.least b low ok) (omega (arith, less, was.erases));
            first = was.first;
          }
      turn false e =
          let more = leb-false _ _ e in
          record {
            below = omega arith;
            passes = passes;
            erases = refl;
            least = λ b below ok. last_or (λ (k : ℕ). erase_count g image p ≤ erase_count g image k) p b below (λ low. let w = was.least b low ok in omega (arith, w, more, was.erases)) (omega arith);
            first = λ b below ok. let w = was.least b below ok in omega (arith, w, more, was.erases);
          }

  worn_no : (p : ℕ) (least : Option Worn) → is_choice g image not_in p ≡ false → WornBelow g image not_in p least → WornBelow g image not_in (p + 1) least
  worn_no p None fails was = λ b below. last_or (λ (k : ℕ). is_choice g image not_in k ≡ false) p b below (λ low. was b low) fails
  worn_no p (Some s) fails was = record {
    below = omega (arith, was.below);
    passes = was.passes;
    erases = was.erases;
    least = λ b below. last_or (λ (k : ℕ). is_choice g image not_in k ≡ true → erase_count g image s.block ≤ erase_count g image k) p b below (λ low ok. was.least b low ok) (λ ok. absurd (cc));
    first = was.first;
  }

  -- the block that is never chosen is passed over
  pub worn_over : (p : ℕ) (least : Option Worn) → Some p ≡ not_in → WornBelow g image not_in p least → WornBelow g image not_in (p + 1) least
  worn_over p least never was = worn_no p least (rw (may_not not_in p never) refl) was

  -- another is taken where it is free, and less worn
  pub worn_more : (p : ℕ) (least : Option Worn) → Some p ≢ not_in → WornBelow g image not_in p least → WornBelow g image not_in (p + 1) (worn_with g image least p)
  worn_more p least other was = turn (is_free_block g image p) refl
    where
      turn : (free : Bool) → is_free_block g image p ≡ free → WornBelow g image not_in (p + 1) (if free then less_worn_of least (worn_at p) else least)
      turn true e = worn_yes p least (rw (may_take not_in p other, e) refl) was
      turn false e = worn_no p least (rw (may_take not_in p other, e) refl) was

  -- of all blocks it is the least worn
  pub worn_all : (end : ℕ) (least : Option Worn) → end ≡ g.blocks → WornBelow g image not_in end least → option_map (λ worn. worn.block) least ≡ the_least_worn g image not_in
  unfolding the_least_worn
  worn_all end None all none = sym (rw (none_pass (is_choice g image not_in) 0 g.blocks (λ b low high. none b (omega (arith, all, high)))) refl)
  worn_all end (Some s) all is =
      sym
      (find_best (is_choice g image not_in) (λ block other. nat_le (erase_count g image block) (erase_count g image other)) g.blocks s.block (omega (arith, all, is.below)) is.passes
      (λ b below ok. le-leb _ _ (is.least b (omega (arith, all, below)) ok))
      (λ b below ok. not_as_good (is.first b below ok)))
    where
      not_as_good : {m n : ℕ} → n < m → nat_le m n ≡ false
      not_as_good {m} {n} less = false_from_ne_true (nat_le m n) (λ yes. let most = leb-true _ _ yes in absurd (omega (arith, most, less)))

  -- one that was never erased is the least worn of all blocks
  pub worn_new : (end : ℕ) (least : Option Worn) → end ≤ g.blocks → option_map (λ worn. worn.erases) least ≡ Some 0 → WornBelow g image not_in end least → option_map (λ worn. worn.block) least ≡ the_least_worn g image not_in
  worn_new end None low none is = absurd (cc)
  worn_new end (Some s) low none is =
      let e : erase_count g image s.block ≡ 0 = sym is.erases ∙ same_Some s.erases 0 none in
      worn_all g.blocks (Some s) refl (record {
        below = omega (arith, low, is.below);
        passes = is.passes;
        erases = is.erases;
        least = λ b below ok. omega (arith, e);
        first = is.first;
      })

  -- there is one, or no free block may be chosen
  walk : (n : ℕ) → (least : Option Worn) × WornBelow g image not_in n least
  walk zero = (None, λ b below. absurd (omega (arith, below)))
  walk (suc n) =
      let w = walk n in
      let next : n + 1 ≡ suc n = omega arith in
      ⊎_elim
      (λ (never : Some n ≡ not_in). (w.0, subst (λ (k : ℕ). WornBelow g image not_in k w.0) next (worn_over n w.0 never w.1)))
      (λ (other : Some n ≡ not_in → ⊥). (worn_with g image w.0 n, subst (λ (k : ℕ). WornBelow g image not_in k (worn_with g image w.0 n)) next (worn_more n w.0 other w.1)))
      (is_never n not_in)
    where
      is_never : (n : ℕ) (o : Option ℕ) → (Some n ≡ o) ⊎ (Some n ≡ o → ⊥)
      is_never n None = inr (λ e. absurd (cc))
      is_never n (Some q) = ⊎_elim (λ (here : n ≡ q). inl (ap (λ (k : ℕ). Some k) here)) (λ (there : n ≡ q → ⊥). inr (λ e. there (cc))) (cases_eq n q)

  pub none_free : the_least_worn g image not_in ≡ None → (block : ℕ) → block < g.blocks → Some block ≢ not_in → is_free_block g image block ≡ false
  none_free none block below other = by_walk (walk g.blocks).0 (walk g.blocks).1
    where
      by_walk : (least : Option Worn) → WornBelow g image not_in g.blocks least → is_free_block g image block ≡ false
      by_walk None all = rw (may_take not_in block other) at (all block below)
      by_walk (Some s) is = absurd (let some : Some s.block ≡ the_least_worn g image not_in = worn_all g.blocks (Some s) refl is in cc)

  pub least_parts : (block : ℕ) → the_least_worn g image not_in ≡ Some block → (block < g.blocks) × (Some block ≢ not_in) × (is_free_block g image block ≡ true)
  least_parts block found = by_walk (walk g.blocks).0 (walk g.blocks).1
    where
      by_walk : (least : Option Worn) → WornBelow g image not_in g.blocks least → (block < g.blocks) × (Some block ≢ not_in) × (is_free_block g image block ≡ true)
      by_walk None all = absurd (let none : None ≡ the_least_worn g image not_in = worn_all g.blocks None refl all in cc)
      by_walk (Some s) is =
          let some : Some s.block ≡ the_least_worn g image not_in = worn_all g.blocks (Some s) refl is in
          let at : s.block ≡ block = cc in
          let w = and_parts (may_choose not_in s.block) _ is.passes in
          (rw (← at) is.below, is_other not_in block (rw (← at) w.0), rw (← at) w.1)
