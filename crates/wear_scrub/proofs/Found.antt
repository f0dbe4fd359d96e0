-- The ages of all blocks, one block after the other, and what a scrub step does by them.
use Rattle.std.proofs.Common.{◌≡◌, ℕ, zero, suc, ◌+◌, ◌-◌, ◌<◌, ◌≤◌, ⊎_elim, inl, List, Bool, true, false, not, nat_lt, nat_le, ◌==◌, ◌&&◌, length, max, map, refl, ◌∙◌, ap, arith, if◌then◌else◌}
use Rattle.std.specs.Prelude.{Option, Some, None, filter, option_and_then}
use Rattle.std.specs.Option.{option_map}
use Rattle.std.specs.List.{range_with_len, fold}
use Rattle.std.proofs.Math.Nat.{sub-zero}
use Rattle.std.proofs.lemmas.Bool.{cases_lt, ltb-true, ltb-false, leb-true, leb-false, lt-leb, le-leb}
use Rattle.geometry.specs.declared.geometry.Geometry.{Geometry}
use Rattle.geometry.specs.Numbers.{entries}
use Rattle.image_model.specs.Places.{next_count}
use Rattle.image_model.specs.Tidy.{IsTidy, is_free_block, free_blocks, HasReserve}
use Rattle.image_model.specs.Collect.{is_fitting, age_of}
use Rattle.image_model.specs.Wear.{young, movable, oldest_of, scrub_victim}
use Rattle.flash_view.specs.declared.counts.BlockCounts.{BlockCounts}
use Rattle.flash_view.specs.Counts.{AreCounts}
use Rattle.free_search.proofs.FirstBest.{none_pass, find_best}
use Rattle.free_search.proofs.Greatest.{greatest_more, greatest_end}
use Rattle.room_laws.proofs.Stops.{reserve_fits_each}
use Rattle.block_gc.proofs.Rooms.{block_is, count_more, count_end}
use Rattle.wear_scrub.specs.declared.ages.Aged.{Aged}
use Rattle.wear_scrub.specs.declared.ages.Ages.{Ages}
use Rattle.wear_scrub.specs.declared.scrubs.Scrub.TheVariants.{Rested}
use Rattle.wear_scrub.specs.Ages.{age_by, older_of, with_one, ages_by, IsOldest, IsFirst, AreAges, IsBelow, older_by, level_by, moved_or_none, pick_of}
use Rattle.wear_scrub.specs.Victims.{IsOldestMay, IsOldestOf}
use Rattle.wear_scrub.specs.Scrubs.{IsInside, IsLevel, IfLevel, IsPick}

-- ---- a block more

module _ (g : Geometry) (image : List ℕ) (n : ℕ) where
  last_or : (P : ℕ → Type 0) (b : ℕ) → b < n + 1 → (b < n → P b) → P n → P b
  last_or P b below low last = ⊎_elim (λ (less : b < n). low less) (λ (more : n ≤ b). let same : b ≡ n = omega arith in rw same last) (cases_lt b n)

  first_used : (oldest : Option Aged) → is_free_block g image n ≡ false → IsFirst g image n oldest → IsFirst g image (n + 1) (older_of oldest (record { block = n; age = age_of g image n }))
  first_used None used was = record {
    below = omega arith;
    used = used;
    age = refl;
    most = λ b below ok. last_or (λ (k : ℕ). age_of g image k ≤ age_of g image n) b below (λ less. absurd (let free : is_free_block g image b ≡ true = was b less in cc)) (omega arith);
    first = λ b below ok. absurd (let free : is_free_block g image b ≡ true = was b below in cc);
  }
  first_used (Some first) used was = turn (nat_le (age_of g image n) first.age) refl
    where
      turn : (b : Bool) → nat_le (age_of g image n) first.age ≡ b → IsFirst g image (n + 1) (if b then Some first else Some (record { block = n; age = age_of g image n }))
      turn true e =
          let least : age_of g image n ≤ first.age = leb-true _ _ e in
          record {
            below = omega (arith, was.below);
            used = was.used;
            age = was.age;
            most = λ b below ok. last_or (λ (k : ℕ). age_of g image k ≤ first.age) b below (λ less. was.most b less ok) least;
            first = was.first;
          }
      turn false e =
          let above : first.age < age_of g image n = leb-false _ _ e in
          record {
            below = omega arith;
            used = used;
            age = refl;
            most = λ b below ok. last_or (λ (k : ℕ). age_of g image k ≤ age_of g image n) b below (λ less. let m = was.most b less ok in omega (arith, m, above)) (omega arith);
            first = λ b below ok. let m = was.most b below ok in omega (arith, m, above);
          }

  first_free : (oldest : Option Aged) → is_free_block g image n ≡ true → IsFirst g image n oldest → IsFirst g image (n + 1) oldest
  first_free None free was = λ b below. last_or (λ (k : ℕ). is_free_block g image k ≡ true) b below (λ less. was b less) free
  first_free (Some first) free was = record {
    below = omega (arith, was.below);
    used = was.used;
    age = was.age;
    most = λ b below ok. last_or (λ (k : ℕ). is_free_block g image k ≡ false → age_of g image k ≤ first.age) b below (λ less. was.most b less) (λ used. absurd (cc)) ok;
    first = was.first;
  }

-- the first of the oldest blocks in use is found
first_found : (g : Geometry) (image : List ℕ) (oldest : Option Aged) → IsFirst g image g.blocks oldest →
    oldest_of g image (filter (λ b. not (is_free_block g image b)) (range_with_len 0 g.blocks)) ≡ option_map (λ (aged : Aged). aged.block) oldest
first_found g image None none = rw (none_pass (λ b. not (is_free_block g image b)) 0 g.blocks (λ b low high. rw (none b (omega arith)) refl)) refl
first_found g image (Some aged) is =
    find_best (λ b. not (is_free_block g image b)) (λ k other. nat_le (age_of g image other) (age_of g image k)) g.blocks aged.block is.below (rw is.used refl)
    (λ b below ok. le-leb _ _ (let m = is.most b below (used b ok) in let a = is.age in omega (arith, m, a)))
    (λ b below ok. lt-leb _ _ (let m = is.first b below (used b ok) in let a = is.age in omega (arith, m, a)))
  where
    used : (b : ℕ) → not (is_free_block g image b) ≡ true → is_free_block g image b ≡ false
    used b ok = not_is (is_free_block g image b) ok
      where
        not_is : (x : Bool) → not x ≡ true → x ≡ false
        not_is true e = absurd (cc)
        not_is false e = refl

pub below_more : (n : ℕ) (found : Ages) (c : BlockCounts) (whole next block : ℕ) → block < n → IsBelow n found.oldest → IsBelow n (ages_by found c whole next block).oldest
below_more n found c whole next block low was = by (c.free == whole)
  where
    older : (oldest : Option Aged) (age : ℕ) → IsBelow n oldest → IsBelow n (older_of oldest (record { block = block; age = age }))
    older None age h = low
    older (Some first) age h = either (nat_le age first.age)
      where
        either : (b : Bool) → IsBelow n (if b then Some first else Some (record { block = block; age = age }))
        either true = h
        either false = low

    by : (b : Bool) → IsBelow n (with_one b found (age_by c.erases next) block).oldest
    by true = was
    by false = older found.oldest (age_by c.erases next) was

pub few_more : (found : Ages) (c : BlockCounts) (whole next block n : ℕ) → found.free ≤ n → (ages_by found c whole next block).free ≤ n + 1
few_more found c whole next block n was = by (c.free == whole)
  where
    by : (b : Bool) → (with_one b found (age_by c.erases next) block).free ≤ n + 1
    by true = omega (arith, was)
    by false = omega (arith, was)

-- What was found of the blocks below p.
pub record Aging (g : Geometry) (image : List ℕ) (p e : ℕ) (found : Ages) : Type 0 where
  pub free : found.free + length (filter (λ b. is_free_block g image b) (range_with_len p (e - p))) ≡ free_blocks g image
  pub young_is : fold max found.young (map (λ b. age_of g image b) (filter (λ b. is_free_block g image b) (range_with_len p (e - p)))) ≡ young g image
  pub oldest : IsFirst g image p found.oldest

pub aging_start : (g : Geometry) (image : List ℕ) (e : ℕ) → e ≡ g.blocks → Aging g image 0 e (record { free = 0; young = 0; oldest = None })
unfolding free_blocks young
aging_start g image e at = record {
  free = rw (at, sub-zero g.blocks) (omega arith);
  young_is = rw (at, sub-zero g.blocks) refl;
  oldest = λ b below. absurd (omega (arith, below));
}

pub aging_more : (g : Geometry) (image : List ℕ) (p e : ℕ) (found : Ages) (c : BlockCounts) (n next : ℕ) → p < e → p < g.blocks → IsTidy g image → AreCounts g image p c → n ≡ entries g → next ≡ next_count g image →
    Aging g image p e found → Aging g image (p + 1) e (ages_by found c n next p)
aging_more g image p e found c n next h low tidy counts whole is was = rw (free, age) (by (is_free_block g image p) refl)
  where
    free : (c.free == n) ≡ is_free_block g image p
    free = rw whole (block_is g image p c counts tidy low)

    age : age_by c.erases next ≡ age_of g image p
    age = rw (counts.erases, is) refl

    by : (b : Bool) → is_free_block g image p ≡ b → Aging g image (p + 1) e (with_one b found (age_of g image p) p)
    by true free_too = record {
      free = count_more (λ b. is_free_block g image b) p e found.free 1 _ h was.free (rw free_too refl);
      young_is = greatest_more (λ b. is_free_block g image b) (λ b. age_of g image b) found.young p e _ was.young_is (age_of g image p) (max (age_of g image p) found.young) h (rw free_too refl) refl;
      oldest = first_free g image p found.oldest free_too was.oldest;
    }
    by false used = record {
      free = (let more = count_more (λ b. is_free_block g image b) p e found.free 0 _ h was.free (rw used refl) in omega (arith, more));
      young_is = greatest_more (λ b. is_free_block g image b) (λ b. age_of g image b) found.young p e _ was.young_is 0 found.young h (rw used refl) (omega arith);
      oldest = first_used g image p found.oldest used was.oldest;
    }

pub aging_end : (g : Geometry) (image : List ℕ) (p e : ℕ) (found : Ages) → p ≡ g.blocks → e ≤ p → Aging g image p e found → AreAges g image found
aging_end g image p e found at h was = record {
  free = count_end (λ b. is_free_block g image b) p e found.free _ h was.free;
  young_is = greatest_end (λ b. is_free_block g image b) (λ b. age_of g image b) found.young p e _ was.young_is h;
  oldest = rw at at was.oldest;
}

-- ---- the pick

-- where two blocks are free each block in use may be moved
all_move : (g : Geometry) (image : List ℕ) → IsTidy g image → HasReserve g image → movable g image ≡ filter (λ b. not (is_free_block g image b)) (range_with_len 0 g.blocks)
unfolding movable
all_move g image tidy two = same 0 g.blocks (λ q low. omega (arith, low))
  where
    passes : (used fits : Bool) → fits ≡ true → (used && fits) ≡ used
    passes true fits h = h
    passes false fits h = refl

    same : (a n : ℕ) → ((q : ℕ) → q < a + n → q < g.blocks) → filter (λ b. not (is_free_block g image b) && is_fitting g image b) (range_with_len a n) ≡ filter (λ b. not (is_free_block g image b)) (range_with_len a n)
    same a zero below = refl
    same a (suc n) below =
        let rest = same (a + 1) n (λ q low. below q (omega (arith, low))) in
        rw (passes (not (is_free_block g image a)) (is_fitting g image a) (reserve_fits_each g image a tidy two (below a (omega arith))), rest) refl

-- the oldest block in use is the first of the oldest that may be moved
oldest_is : (g : Geometry) (image : List ℕ) (found : Ages) → IsTidy g image → HasReserve g image → AreAges g image found → oldest_of g image (movable g image) ≡ option_map (λ (aged : Aged). aged.block) found.oldest
oldest_is g image found tidy two are = rw (all_move g image tidy two) (first_found g image found.oldest are.oldest)

-- by the oldest block, whether each block in use is less than so many counts older than the free ones
pub level_told : (g : Geometry) (image : List ℕ) (found : Ages) (limit : ℕ) → AreAges g image found → IfLevel g image limit (level_by found limit)
level_told g image found limit are = by found.oldest are.oldest
  where
    by : (oldest : Option Aged) → IsFirst g image g.blocks oldest → IfLevel g image limit (older_by (found.young + limit) oldest)
    by None none = λ b low used. absurd (let free : is_free_block g image b ≡ true = none b low in cc)
    by (Some aged) is = turn (nat_lt aged.age (found.young + limit)) refl
      where
        turn : (b : Bool) → nat_lt aged.age (found.young + limit) ≡ b → IfLevel g image limit b
        turn true e =
            let less : aged.age < found.young + limit = ltb-true _ _ e in
            λ b low used. let m = is.most b low used in omega (arith, m, less, are.young_is)
        turn false e =
            let more : found.young + limit ≤ aged.age = ltb-false _ _ e in
            λ level. let young_one = level aged.block is.below is.used in absurd (omega (arith, is.age, young_one, more, are.young_is))

-- where that is so and two blocks are free there is no victim
level_is : (g : Geometry) (image : List ℕ) (found : Ages) (limit : ℕ) → IsTidy g image → HasReserve g image → AreAges g image found → level_by found limit ≡ true → scrub_victim g image limit ≡ None
unfolding scrub_victim
level_is g image found limit tidy two are level = by found.oldest refl level
  where
    by : (oldest : Option Aged) → found.oldest ≡ oldest → older_by (found.young + limit) oldest ≡ true →
        option_and_then (λ block. if nat_le (young g image + limit) (age_of g image block) then Some block else None) (oldest_of g image (movable g image)) ≡ None
    by None none is = let victim = oldest_is g image found tidy two are in rw (victim, none) refl
    by (Some aged) some is =
        let victim : oldest_of g image (movable g image) ≡ Some aged.block = oldest_is g image found tidy two are ∙ ap (λ (o : Option Aged). option_map (λ (a : Aged). a.block) o) some in
        let first : IsOldest g image g.blocks aged = rw some at are.oldest in
        let less : aged.age < found.young + limit = ltb-true _ _ is in
        let tested : nat_le (young g image + limit) (age_of g image aged.block) ≡ false = lt-leb _ _ (omega (arith, less, first.age, are.young_is)) in
        rw (victim, tested) refl

-- where three are free the oldest block that may be moved is the victim
three_is : (g : Geometry) (image : List ℕ) (limit : ℕ) (aged : Aged) → IsTidy g image → 3 ≤ free_blocks g image → IsOldestMay g image (young g image + limit) g.blocks aged → scrub_victim g image limit ≡ Some aged.block
unfolding scrub_victim
three_is g image limit aged tidy three is =
    let first : IsOldest g image g.blocks aged = record { below = is.below; used = is.used; age = is.age; most = λ b low used. is.most b low used (inl three); first = λ b low used. is.first b low used (inl three) } in
    let victim : oldest_of g image (movable g image) ≡ Some aged.block = ap (λ (l : List ℕ). oldest_of g image l) (all_move g image tidy (omega (arith, three))) ∙ first_found g image (Some aged) first in
    let tested : nat_le (young g image + limit) (age_of g image aged.block) ≡ true = le-leb _ _ (omega (arith, is.old, is.age)) in
    rw (victim, tested) refl

-- what is picked by the ages of all blocks and the oldest that may be moved is the pick
pub picked : (g : Geometry) (image : List ℕ) (found : Ages) (limit : ℕ) (oldest : Option Aged) → IsTidy g image → AreAges g image found → IsOldestOf g image (found.young + limit) g.blocks oldest →
    IsPick g image limit (pick_of found limit oldest)
picked g image found limit oldest tidy are is = by (level_by found limit) refl (level_told g image found limit are)
  where
    either : (o : Option Aged) → IsOldestOf g image (young g image + limit) g.blocks o → (IsLevel g image limit → ⊥) → IsPick g image limit (moved_or_none found.free o)
    either None none old = (are.free, old, none)
    either (Some aged) victim old = (
      record { below = victim.below; used = victim.used; age = victim.age; old = victim.old; may = victim.may; most = victim.most; first = victim.first },
      λ three. three_is g image limit aged tidy three victim,
    )

    by : (b : Bool) → level_by found limit ≡ b → IfLevel g image limit b → IsPick g image limit (if b then Rested else moved_or_none found.free oldest)
    by true e level = (level, λ two. level_is g image found limit tidy two are e)
    by false e old = either oldest (rw are.young_is at is) old

-- a block that is moved is inside, where the oldest is
pub inside : (n : ℕ) (found : Ages) (limit : ℕ) (oldest : Option Aged) → IsBelow n oldest → IsInside n (pick_of found limit oldest)
inside n found limit oldest low = by (level_by found limit)
  where
    either : (o : Option Aged) → IsBelow n o → IsInside n (moved_or_none found.free o)
    either None h = tt
    either (Some aged) h = h

    by : (b : Bool) → IsInside n (if b then Rested else moved_or_none found.free oldest)
    by true = tt
    by false = either oldest low
