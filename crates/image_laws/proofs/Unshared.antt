-- Images without a shared block, and images that fit over.
use Rattle.std.proofs.Common.{◌≡◌, ◌≢◌, ℕ, zero, suc, ◌+◌, ◌-◌, ◌*◌, ◌<◌, ◌≤◌, List, length, Bool, true, false, not, cond, ◌==◌, ◌&&◌, Some, ap, refl, sym, ◌∙◌, subst, arith, ⊎_elim, inl, inr}
use Rattle.std.specs.Prelude.{filter, sum_by, nat_le}
use Rattle.std.specs.List.{range_with_len}
use Rattle.std.proofs.Math.Bool.{and-false}
use Rattle.std.proofs.lemmas.Bool.{cases_Bool, cases_eq, and_parts, and_from, false_from_ne_true, eqb-true, eq-eqb, ne_eqb, leb-true, le-leb, or_cases, or_left, or_right}
use Rattle.std.proofs.lemmas.List.Sums.{sum_by-cons}
use Rattle.geometry.specs.declared.geometry.Geometry.{Geometry}
use Rattle.geometry.specs.Numbers.{per_block, lookups, entries}
use Rattle.image_model.specs.Live.{live_at}
use Rattle.image_model.specs.Places.{has_magic}
use Rattle.image_model.specs.Kinds.{is_index_page, is_data_page, is_index_block, is_data_block, is_mixed, mixed_blocks, spoiled_blocks}
use Rattle.image_model.specs.Tidy.{IsTidy, IsNeat, is_wanted, free_blocks}
use Rattle.image_model.specs.Within.{entry_of_block, block_number, page_number}
use Rattle.image_model.specs.Sound.{IsMixed, IsSound}
use Rattle.image_model.specs.Shared.{is_wanted_index, is_wanted_data, wanted_index_in, wanted_data_in, is_shared, shared_blocks, shared_index, open_entries, blocks_to_use, fits_over, FitsWith}
use Rattle.image_laws.specs.Sharing.{UnmixedIsUnshared, SoundIsUnshared, NeatIsTidy, FitsIsTested}
use Rattle.image_laws.proofs.Frames.{live_parts}
use Rattle.image_laws.proofs.Matching.{filter-none_in}
use Rattle.image_laws.proofs.MixedBlocks.{mixed-tested, mixed-none, unmixed-from}
use Rattle.image_laws.proofs.Records.{list_any-at}
use Rattle.image_laws.proofs.SpareKill.{wanted-or_spare}
use Rattle.image_laws.proofs.TidySteps.{neat-none}

-- where none of some numbers is counted, none passes
pub counted-none : (test : ℕ → Bool) (a n : ℕ) → length (filter test (range_with_len a n)) ≡ 0 → (q : ℕ) → a ≤ q → q < a + n → test q ≡ false
counted-none test a zero none q low high = absurd (omega (arith, low, high))
counted-none test a (suc n) none q low high = ⊎_elim
    (λ (yes : test a ≡ true). let bad = rw yes at none in absurd (omega (arith, bad)))
    (λ (no : test a ≡ false).
    let rest = rw no at none in
    ⊎_elim
    (λ (here : a ≡ q). ap test (sym here) ∙ no)
    (λ (there : a ≡ q → ⊥). counted-none test (a + 1) n rest q (omega (arith, there, low)) (omega (arith, high)))
    (cases_eq a q))
    (cases_Bool (test a))

pub sums-none : (f : ℕ → ℕ) (a n : ℕ) → ((q : ℕ) → a ≤ q → q < a + n → f q ≡ 0) → sum_by f (range_with_len a n) ≡ 0
sums-none f a zero none = refl
sums-none f a (suc n) none =
    let rest = sums-none f (a + 1) n (λ q low high. none q (omega (arith, low)) (omega (arith, high))) in
    omega (arith, rest, none a (omega arith) (omega arith), sum_by-cons f a (range_with_len (a + 1) n))

-- where all pass all are counted
pub counted-all : (test : ℕ → Bool) (a n : ℕ) → ((q : ℕ) → a ≤ q → q < a + n → test q ≡ true) → length (filter test (range_with_len a n)) ≡ n
counted-all test a zero every = refl
counted-all test a (suc n) every = rw (every a (omega arith) (omega arith)) (ap suc (counted-all test (a + 1) n (λ q low high. every q (omega (arith, low)) (omega (arith, high)))))

-- and where more pass more are
pub counted-le : (test more : ℕ → Bool) (a n : ℕ) → ((q : ℕ) → a ≤ q → q < a + n → test q ≡ true → more q ≡ true) → length (filter test (range_with_len a n)) ≤ length (filter more (range_with_len a n))
counted-le test more a zero each = omega arith
counted-le test more a (suc n) each =
    let rest = counted-le test more (a + 1) n (λ q low high yes. each q (omega (arith, low)) (omega (arith, high)) yes) in
    ⊎_elim
    (λ (yes : test a ≡ true). rw (yes, each a (omega arith) (omega arith) yes) (omega (arith, rest)))
    (λ (no : test a ≡ false). rw no (⊎_elim (λ (y : more a ≡ true). rw y (omega (arith, rest))) (λ (n : more a ≡ false). rw n rest) (cases_Bool (more a))))
    (cases_Bool (test a))

summed-none : (f : ℕ → ℕ) (a n : ℕ) → sum_by f (range_with_len a n) ≡ 0 → (q : ℕ) → a ≤ q → q < a + n → f q ≡ 0
summed-none f a zero none q low high = absurd (omega (arith, low, high))
summed-none f a (suc n) none q low high =
    let parts = sum_by-cons f a (range_with_len (a + 1) n) in
    ⊎_elim
    (λ (here : a ≡ q). ap f (sym here) ∙ omega (arith, none, parts))
    (λ (there : a ≡ q → ⊥). summed-none f (a + 1) n (omega (arith, none, parts)) q (omega (arith, there, low)) (omega (arith, high)))
    (cases_eq a q)

some-of : (n : ℕ) → not (n == 0) ≡ true → n ≢ 0
some-of n some none = let bad : false ≡ true = rw none at some in absurd (cc)

-- nothing is counted where a test fails
pub shut : (b : Bool) (n : ℕ) → cond (b && false) n 0 ≡ 0
shut true n = refl
shut false n = refl

module _ (g : Geometry) (image : List ℕ) where
  -- a block without a live page of a kind has no wanted one of it
  no-index : (block : ℕ) → is_index_block g image block ≡ false → wanted_index_in g image block ≡ 0
  unfolding is_index_block wanted_index_in
  no-index block none =
      filter-none_in (λ p. is_wanted_index g image p) (block * per_block g + lookups g) (entries g) (λ q low high.
      let no : is_index_page (live_at g image q) ≡ false = list_any-at (λ (r : ℕ). is_index_page (live_at g image r)) _ _ none q low high in rw no refl)

  pub no-data : (block : ℕ) → is_data_block g image block ≡ false → wanted_data_in g image block ≡ 0
  unfolding is_data_block wanted_data_in
  no-data block none =
      filter-none_in (λ p. is_wanted_data g image p) (block * per_block g + lookups g) (entries g) (λ q low high.
      let no : is_data_page (live_at g image q) ≡ false = list_any-at (λ (r : ℕ). is_data_page (live_at g image r)) _ _ none q low high in rw no refl)

  -- a block that isn't mixed isn't shared
  pub unmixed-unshared : (block : ℕ) → is_mixed g image block ≡ false → is_shared g image block ≡ false
  unfolding is_mixed is_shared
  unmixed-unshared block none = ⊎_elim
      (λ (index : is_index_block g image block ≡ true). let no : is_data_block g image block ≡ false = rw index at none in rw (no-data block no) (and-false _))
      (λ (no : is_index_block g image block ≡ false). rw (no-index block no) refl)
      (cases_Bool (is_index_block g image block))

  none_shared : ((block : ℕ) → IsMixed g (live_at g image) block → ⊥) → shared_blocks g image ≡ 0
  unfolding shared_blocks
  none_shared none =
      filter-none_in (λ b. is_shared g image b) 0 g.blocks (λ block low high.
      unmixed-unshared block (false_from_ne_true _ (λ yes. none block ((mixed-tested g image block (omega (arith, high))).0 yes))))

  pub no_mixed-unshared : mixed_blocks g image ≡ 0 → shared_blocks g image ≡ 0
  unfolding mixed_blocks shared_blocks
  no_mixed-unshared none =
      filter-none_in (λ b. is_shared g image b) 0 g.blocks (λ block low high. unmixed-unshared block (counted-none (λ b. is_mixed g image b) 0 g.blocks none block low high))

  -- Where none is shared, no index page of one is counted.
  pub unshared-index : shared_blocks g image ≡ 0 → shared_index g image ≡ 0
  unfolding shared_blocks shared_index
  unshared-index none =
      sums-none (λ b. cond (is_shared g image b) (wanted_index_in g image b) 0) 0 g.blocks (λ block low high.
      let no : is_shared g image block ≡ false = counted-none (λ b. is_shared g image b) 0 g.blocks none block low high in rw no refl)

  -- a shared block holds some of each kind
  pub shared-parts : (block : ℕ) → is_shared g image block ≡ true → (wanted_index_in g image block ≢ 0) × (wanted_data_in g image block ≢ 0)
  unfolding is_shared
  shared-parts block both =
      let w = and_parts (not (wanted_index_in g image block == 0)) (not (wanted_data_in g image block == 0)) both in
      (some-of (wanted_index_in g image block) w.0, some-of (wanted_data_in g image block) w.1)

  pub shared-from : (block : ℕ) → wanted_index_in g image block ≢ 0 → wanted_data_in g image block ≢ 0 → is_shared g image block ≡ true
  unfolding is_shared
  shared-from block index some = rw (ne_eqb (wanted_index_in g image block) 0 index, ne_eqb (wanted_data_in g image block) 0 some) refl

  -- Where no index page of a shared block is counted, none is shared.
  pub index-unshared : shared_index g image ≡ 0 → shared_blocks g image ≡ 0
  unfolding shared_blocks shared_index
  index-unshared none =
      filter-none_in (λ b. is_shared g image b) 0 g.blocks (λ block low high.
      let term : cond (is_shared g image block) (wanted_index_in g image block) 0 ≡ 0 = summed-none (λ b. cond (is_shared g image b) (wanted_index_in g image b) 0) 0 g.blocks none block low high in
      false_from_ne_true _ (λ yes. let no : wanted_index_in g image block ≡ 0 = rw yes at term in (shared-parts block yes).0 no))

-- Where all blocks have their magic the blocks to use are the free ones.
none-spoiled : (g : Geometry) (image : List ℕ) → ((block : ℕ) → block < g.blocks → has_magic g image block ≡ true) → spoiled_blocks g image ≡ 0
unfolding spoiled_blocks
none-spoiled g image magics = filter-none_in (λ b. not (has_magic g image b)) 0 g.blocks (λ b low high. rw (magics b (omega (arith, high))) refl)

pub use-free : (g : Geometry) (image : List ℕ) → ((block : ℕ) → block < g.blocks → has_magic g image block ≡ true) → blocks_to_use g image ≡ free_blocks g image
use-free g image magics = rw (none-spoiled g image magics) (omega arith)

-- ---- tidy images

pub none-shared : (g : Geometry) → UnmixedIsUnshared g
none-shared g image none = none_shared g image none

pub tidy-unshared : (g : Geometry) (image : List ℕ) → IsTidy g image → shared_blocks g image ≡ 0
tidy-unshared g image t = none-shared g image (λ block m. mixed-none g (live_at g image) t.unmixed block m)

-- Nor has one that is sound with respect to a tidy one.
pub sound-unshared : (g : Geometry) → SoundIsUnshared g
sound-unshared g was now t s = none-shared g now (λ block m. mixed-none g (live_at g was) t.unmixed block (s.mixed block m))

-- A neat image without a mixed block is tidy.
pub neat-tidy : (g : Geometry) (image : List ℕ) → IsNeat g image → ((block : ℕ) → IsMixed g (live_at g image) block → ⊥) → IsTidy g image
neat-tidy g image n none = record { magic = n.magic; entries = n.entries; undamaged = n.undamaged; unmixed = unmixed-from g (live_at g image) none }

-- So is one that is sound with respect to a tidy one.
pub sound-tidy : (g : Geometry) (was now : List ℕ) → IsTidy g was → IsSound g now was → IsNeat g now → IsTidy g now
sound-tidy g was now t s n = neat-tidy g now n (λ block m. mixed-none g (live_at g was) t.unmixed block (s.mixed block m))

-- ---- neat images

-- Their live pages are wanted.
pub neat_wanted : (g : Geometry) (image : List ℕ) → IsNeat g image → (p : ℕ) (x : List ℕ) → live_at g image p ≡ Some x → is_wanted g image p ≡ true
neat_wanted g image n p x e = ⊎_elim
    (λ (spare : false ≡ true). absurd (cc))
    (λ (wanted : is_wanted g image p ≡ true). wanted)
    (wanted-or_spare g image (λ (r : ℕ). false) (neat-none (λ (r : ℕ). false) n) p x e)

module _ (g : Geometry) (image : List ℕ) (n : IsNeat g image) (block : ℕ) (m : IsMixed g (live_at g image) block) where
  index-lies : (block * per_block g + lookups g ≤ m.p) × (m.p < block * per_block g + lookups g + entries g)
  index-lies = subst (λ (b : ℕ). (b * per_block g + lookups g ≤ m.p) × (m.p < b * per_block g + lookups g + entries g)) m.p_at (entry_of_block g m.p (live_parts g image m.p m.x m.p_is).entry_page)

  data-lies : (block * per_block g + lookups g ≤ m.q) × (m.q < block * per_block g + lookups g + entries g)
  data-lies = subst (λ (b : ℕ). (b * per_block g + lookups g ≤ m.q) × (m.q < b * per_block g + lookups g + entries g)) m.q_at (entry_of_block g m.q (live_parts g image m.q m.y m.q_is).entry_page)

  -- a mixed block holds a wanted page of each kind
  index-wanted : is_wanted_index g image m.p ≡ true
  index-wanted = let kind : is_index_page (live_at g image m.p) ≡ true = rw m.p_is m.names in and_from _ _ kind (neat_wanted g image n m.p m.x m.p_is)

  data-wanted : is_wanted_data g image m.q ≡ true
  data-wanted = let kind : is_data_page (live_at g image m.q) ≡ true = rw (m.q_is, m.holds) refl in and_from _ _ kind (neat_wanted g image n m.q m.y m.q_is)

  some-index_in : wanted_index_in g image block ≡ 0 → ⊥
  unfolding wanted_index_in
  some-index_in none =
      let no : is_wanted_index g image m.p ≡ false = counted-none (λ p. is_wanted_index g image p) (block * per_block g + lookups g) (entries g) none m.p index-lies.0 index-lies.1 in
      let bad : true ≡ false = sym index-wanted ∙ no in absurd (cc)

  some-data_in : wanted_data_in g image block ≡ 0 → ⊥
  unfolding wanted_data_in
  some-data_in none =
      let no : is_wanted_data g image m.q ≡ false = counted-none (λ p. is_wanted_data g image p) (block * per_block g + lookups g) (entries g) none m.q data-lies.0 data-lies.1 in
      let bad : true ≡ false = sym data-wanted ∙ no in absurd (cc)

  pub mixed-shared : is_shared g image block ≡ true
  mixed-shared = shared-from g image block some-index_in some-data_in

-- So a neat image without a shared block is tidy.
pub neat-unshared : (g : Geometry) → NeatIsTidy g
unfolding shared_blocks
neat-unshared g image n none = neat-tidy g image n (λ block m.
    let low : block < g.blocks = subst (λ (b : ℕ). b < g.blocks) m.p_at (block_number g m.p (page_number g m.p (live_parts g image m.p m.x m.p_is).entry_page)) in
    let no : is_shared g image block ≡ false = counted-none (λ b. is_shared g image b) 0 g.blocks none block (omega arith) (omega (arith, low)) in
    let yes = mixed-shared g image n block m in absurd (cc))

-- ---- what fits over

module _ (g : Geometry) (image : List ℕ) where
  pub fits-less : (spare less : ℕ) → less ≤ spare → FitsWith g image spare → FitsWith g image less
  fits-less spare less few fits = ⊎_elim
      (λ (none : shared_blocks g image ≡ 0). inl none)
      (λ (room : shared_index g image + spare ≤ open_entries g image + (blocks_to_use g image - 2) * entries g). inr (omega (arith, room, few)))
      fits

  with-fits : fits_over g image ≡ true → FitsWith g image 0
  unfolding fits_over
  with-fits fits = ⊎_elim
      (λ (none : (shared_blocks g image == 0) ≡ true). inl (eqb-true _ 0 none))
      (λ (room : nat_le (shared_index g image) (open_entries g image + (blocks_to_use g image - 2) * entries g) ≡ true). let le = leb-true _ _ room in inr (omega (arith, le)))
      (or_cases _ _ fits)

  fits-with : FitsWith g image 0 → fits_over g image ≡ true
  unfolding fits_over
  fits-with fits = ⊎_elim
      (λ (none : shared_blocks g image ≡ 0). or_left _ _ (eq-eqb (shared_blocks g image) 0 none))
      (λ (room : shared_index g image + 0 ≤ open_entries g image + (blocks_to_use g image - 2) * entries g). or_right _ _ (le-leb (shared_index g image) (open_entries g image + (blocks_to_use g image - 2) * entries g) (omega (arith, room))))
      fits

-- It fits over where it does so with none to spare.
pub fits-tested : (g : Geometry) → FitsIsTested g
fits-tested g image = (with-fits g image, fits-with g image)
