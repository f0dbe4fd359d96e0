-- The oldest of the blocks that may be moved, one block after the other.
use Rattle.std.proofs.Common.{◌≡◌, ℕ, ◌+◌, ◌<◌, ◌≤◌, ⊎_elim, inl, inr, List, Bool, true, false, not, nat_le, ◌==◌, ◌&&◌, refl, ◌∙◌, sym, ap, arith}
use Rattle.std.specs.Prelude.{Option, Some, None}
use Rattle.std.proofs.lemmas.Bool.{cases_lt, and_parts, ltb-true, lt-ltb, leb-true, le-leb}
use Rattle.geometry.specs.declared.geometry.Geometry.{Geometry}
use Rattle.geometry.specs.Numbers.{entries}
use Rattle.image_model.specs.Places.{next_count}
use Rattle.image_model.specs.Tidy.{IsTidy, is_free_block}
use Rattle.image_model.specs.Collect.{age_of}
use Rattle.flash_view.specs.declared.counts.BlockCounts.{BlockCounts}
use Rattle.flash_view.specs.Counts.{AreCounts}
use Rattle.block_gc.specs.Spares.{MayMove}
use Rattle.block_gc.proofs.Rooms.{block_is}
use Rattle.wear_scrub.specs.declared.ages.Aged.{Aged}
use Rattle.wear_scrub.specs.Ages.{age_by}
use Rattle.wear_scrub.specs.Victims.{is_above, rival_by, Wins, TurnsTo, IsOldestMay, IsOldestOf}

-- ---- the turn of a block, by its counts

module _ (g : Geometry) (image : List ℕ) (block : ℕ) (c : BlockCounts) (whole next : ℕ) (tidy : IsTidy g image) (low : block < g.blocks) (counts : AreCounts g image block c) (is_whole : whole ≡ entries g) (is_next : next ≡ next_count g image) (least : ℕ) (oldest : Option Aged) where
  free_is : (c.free == whole) ≡ is_free_block g image block
  free_is = rw is_whole (block_is g image block c counts tidy low)

  age_is : age_by c.erases next ≡ age_of g image block
  age_is = rw (counts.erases, is_next) refl

  rival_is : rival_by c whole oldest (age_by c.erases next) least ≡ (not (is_free_block g image block) && nat_le least (age_of g image block) && is_above oldest (age_of g image block))
  rival_is = rw (free_is, age_is) refl

  not_is : (b : Bool) → not b ≡ true → b ≡ false
  not_is true e = absurd (cc)
  not_is false e = refl

  -- a block that is no such rival leaves the oldest
  pub turns_past : rival_by c whole oldest (age_by c.erases next) least ≡ false → TurnsTo g image least block oldest oldest
  turns_past isnt = inr ((λ wins. let is : (not (is_free_block g image block) && nat_le least (age_of g image block) && is_above oldest (age_of g image block)) ≡ true = rw (wins.used, le-leb _ _ wins.old, wins.above) refl in absurd (let bad : true ≡ false = sym is ∙ sym rival_is ∙ isnt in cc)), refl)

  -- one that may not be moved too
  pub turns_kept : (MayMove g image block → ⊥) → TurnsTo g image least block oldest oldest
  turns_kept isnt = inr ((λ wins. isnt wins.may), refl)

  -- another one is the oldest then
  pub turns_to : rival_by c whole oldest (age_by c.erases next) least ≡ true → MayMove g image block → TurnsTo g image least block oldest (Some (record { block = block; age = age_by c.erases next }))
  turns_to rival may =
      let both = and_parts _ _ (sym rival_is ∙ rival) in
      let front = and_parts _ _ both.0 in
      inl (record { used = not_is (is_free_block g image block) front.0; old = leb-true _ _ front.1; above = both.1; may = may }, ap (λ (age : ℕ). Some (record { block = block; age = age })) age_is)

-- ---- a block more

module _ (g : Geometry) (image : List ℕ) (least n : ℕ) where
  last_or : (P : ℕ → Type 0) (b : ℕ) → b < n + 1 → (b < n → P b) → P n → P b
  last_or P b below low last = ⊎_elim (λ (less : b < n). low less) (λ (more : n ≤ b). let same : b ≡ n = omega arith in rw same last) (cases_lt b n)

  -- a block before one that wins is younger
  under : (oldest : Option Aged) → IsOldestOf g image least n oldest → Wins g image least n oldest → (b : ℕ) → b < n → is_free_block g image b ≡ false → MayMove g image b → age_of g image b < age_of g image n
  under None was wins b low used may = ⊎_elim
      (λ (less : age_of g image b < least). omega (arith, less, wins.old))
      (λ (old : least ≤ age_of g image b). absurd (was b low used old may))
      (cases_lt (age_of g image b) least)
  under (Some first) was wins b low used may = let m = was.most b low used may in let a : first.age < age_of g image n = ltb-true _ _ wins.above in omega (arith, m, a)

  won : (oldest : Option Aged) → IsOldestOf g image least n oldest → Wins g image least n oldest → IsOldestMay g image least (n + 1) (record { block = n; age = age_of g image n })
  won oldest was wins = record {
    below = omega arith;
    used = wins.used;
    age = refl;
    old = wins.old;
    may = wins.may;
    most = λ b low used may. last_or (λ (k : ℕ). age_of g image k ≤ age_of g image n) b low (λ less. let u = under oldest was wins b less used may in omega (arith, u)) (omega arith);
    first = λ b low used may. under oldest was wins b low used may;
  }

  stays : (oldest : Option Aged) → IsOldestOf g image least n oldest → (Wins g image least n oldest → ⊥) → IsOldestOf g image least (n + 1) oldest
  stays None was isnt = λ b low. last_or (λ (k : ℕ). is_free_block g image k ≡ false → least ≤ age_of g image k → MayMove g image k → ⊥) b low (λ less. was b less)
      (λ used old may. isnt (record { used = used; old = old; above = refl; may = may }))
  stays (Some first) was isnt = record {
    below = omega (arith, was.below);
    used = was.used;
    age = was.age;
    old = was.old;
    may = was.may;
    most = λ b low. last_or (λ (k : ℕ). is_free_block g image k ≡ false → MayMove g image k → age_of g image k ≤ first.age) b low (λ less. was.most b less)
        (λ used may. ⊎_elim
        (λ (less : first.age < age_of g image n). absurd (isnt (record { used = used; old = omega (arith, was.old, less); above = lt-ltb _ _ less; may = may })))
        (λ (more : age_of g image n ≤ first.age). more)
        (cases_lt first.age (age_of g image n)));
    first = was.first;
  }

  pub oldest_more : (oldest found : Option Aged) → IsOldestOf g image least n oldest → TurnsTo g image least n oldest found → IsOldestOf g image least (n + 1) found
  oldest_more oldest found was turns = ⊎_elim (λ wins. rw wins.1 (won oldest was wins.0)) (λ lost. rw lost.1 (stays oldest was lost.0)) turns

pub oldest_none : (g : Geometry) (image : List ℕ) (least : ℕ) → IsOldestOf g image least 0 None
oldest_none g image least = λ b below. absurd (omega (arith, below))

pub oldest_end : (g : Geometry) (image : List ℕ) (least p : ℕ) (oldest : Option Aged) → p ≡ g.blocks → IsOldestOf g image least p oldest → IsOldestOf g image least g.blocks oldest
oldest_end g image least p oldest at was = rw at at was
