-- What is kept beside the rows: their sums, and the first blocks that take pages.
use Rattle.std.proofs.Common.{◌≡◌, ◌≢◌, ℕ, zero, suc, ◌+◌, ◌-◌, ◌*◌, ◌%◌, ◌<◌, ◌≤◌, ◌==◌, ◌&&◌, nat_lt, not, List, Bool, true, false, length, min, refl, sym, ◌∙◌, ap, subst, arith, ⊎_elim, if◌then◌else◌}
use Rattle.std.specs.Prelude.{sum_by, slice_index, filter}
use Rattle.std.specs.List.{range_with_len}
use Rattle.std.proofs.Math.Nat.{mod-eq_of_lt, mul-le-mul_left}
use Rattle.std.proofs.lemmas.Bool.{cases_eq, cases_lt, ne_eqb}
use Rattle.std.proofs.lemmas.List.Sums.{sum_by-cons, length-filter, count_by-le-length}
use Rattle.std.proofs.lemmas.List.FromFn.{length-range_with_len}
use Rattle.geometry.specs.declared.geometry.Geometry.{Geometry}
use Rattle.geometry.specs.Numbers.{entries, per_block, lookups}
use Rattle.geometry.proofs.Bounds.{few_usable, entry_left}
use Rattle.nor_core.specs.Flash.{word_at}
use Rattle.nor_core.specs.declared.state.NorState.{Ghosts as NorOf}
use Rattle.image_model.specs.Collect.{count_in, index_in, data_in}
use Rattle.image_model.specs.Places.{entry_of}
use Rattle.flash_view.specs.declared.counts.BlockCounts.{BlockCounts}
use Rattle.flash_view.specs.declared.kinds.Kind.{Kind}
use Rattle.flash_view.specs.declared.kinds.Kind.TheVariants.{Index, Data}
use Rattle.flash_view.specs.declared.sums.Sums.{Sums}
use Rattle.flash_view.specs.Counts.{AreCounts, part_of, moved_by, in_words, takes, IsFirst}
use Rattle.flash_view.specs.Firsts.{IsFirstBut, IsFirstFrom}
use Rattle.flash_view.specs.Table.{row_of, sum_rows, totals_of, sums_in, first_in, row_takes, IsSummed, IsTable, HasTable}

-- ---- sums of numbers in a row

sum_same : (f h : ℕ → ℕ) (a n : ℕ) → ((k : ℕ) → a ≤ k → h k ≡ f k) → sum_by h (range_with_len a n) ≡ sum_by f (range_with_len a n)
sum_same f h a zero same = refl
sum_same f h a (suc n) same =
    let first = sum_by-cons f a (range_with_len (a + 1) n) in
    let other = sum_by-cons h a (range_with_len (a + 1) n) in
    let rest = sum_same f h (a + 1) n (λ k low. same k (omega (arith, low))) in
    omega (arith, first, other, rest, same a (omega arith))

-- of one of them another number
sum_moves : (f h : ℕ → ℕ) (b a n : ℕ) → a ≤ b → b < a + n → ((k : ℕ) → k ≢ b → h k ≡ f k) → sum_by h (range_with_len a n) + f b ≡ sum_by f (range_with_len a n) + h b
sum_moves f h b a zero low high same = absurd (omega (arith, low, high))
sum_moves f h b a (suc n) low high same =
    let first = sum_by-cons f a (range_with_len (a + 1) n) in
    let other = sum_by-cons h a (range_with_len (a + 1) n) in
    ⊎_elim
    (λ (here : a ≡ b).
    let rest = sum_same f h (a + 1) n (λ k above. same k (λ e. omega (arith, above, e, here))) in
    let x : f a ≡ f b = ap f here in
    let y : h a ≡ h b = ap h here in
    omega (arith, first, other, rest, x, y))
    (λ (there : a ≡ b → ⊥). let rest = sum_moves f h b (a + 1) n (omega (arith, low, there)) (omega (arith, high)) same in omega (arith, first, other, rest, same a there))
    (cases_eq a b)

pub sum_most : (f : ℕ → ℕ) (m a n : ℕ) → ((k : ℕ) → a ≤ k → k < a + n → f k ≤ m) → sum_by f (range_with_len a n) ≤ n * m
sum_most f m a zero most = omega arith
sum_most f m a (suc n) most =
    let first = sum_by-cons f a (range_with_len (a + 1) n) in
    let rest = sum_most f m (a + 1) n (λ k low high. most k (omega (arith, low)) (omega (arith, high))) in
    omega (arith, first, rest, most a (omega arith) (omega arith))

-- a sum in a word of 16 bits, once a part of it became another one
word_moves : (w s t a b : ℕ) → w ≡ s % 65536 → t + a ≡ s + b → (w + 65535 * a + b) % 65536 ≡ t % 65536
word_moves w s t a b is move = omega (arith, is, move)

-- sums by their numbers
sums_are : (i d f b x y z : ℕ) (t : Sums) → i ≡ t.index_live → d ≡ t.data_live → f ≡ t.free → b ≡ t.blocks → x ≡ t.for_index → y ≡ t.for_data → z ≡ t.beside →
    ◌≡◌ {A = Sums} (record { index_live = i; data_live = d; free = f; blocks = b; for_index = x; for_data = y; beside = z }) t
sums_are i d f b x y z t p q r s u v w = rw (p, q, r, s, u, v, w) refl

-- ---- the sums once a row was put

module _ (g : Geometry) (old new : List ℕ) (block : ℕ) (c : BlockCounts) (low : block < g.blocks) (own : row_of new block ≡ c) (others : (k : ℕ) → k ≢ block → row_of new k ≡ row_of old k) where
  one_moves : (f : BlockCounts → ℕ) (w : ℕ) → w ≡ sum_rows old g.blocks f % 65536 → (w + 65535 * f (row_of old block) + f c) % 65536 ≡ sum_rows new g.blocks f % 65536
  one_moves f w is =
      let moves = sum_moves (λ b. f (row_of old b)) (λ b. f (row_of new b)) block 0 g.blocks (omega arith) (omega (arith, low)) (λ k out. ap f (others k out)) in
      let here : f (row_of new block) ≡ f c = ap f own in
      word_moves w (sum_rows old g.blocks f) (sum_rows new g.blocks f) (f (row_of old block)) (f c) is (omega (arith, moves, here))

  pub sums_move : (s : Sums) → s ≡ in_words (totals_of g old) → moved_by s (part_of (row_of old block) (entries g)) (part_of c (entries g)) ≡ in_words (totals_of g new)
  sums_move s is = sums_are _ _ _ _ _ _ _ (in_words (totals_of g new))
      (one_moves (λ k. (part_of k (entries g)).index_live) s.index_live (ap (λ (t : Sums). t.index_live) is))
      (one_moves (λ k. (part_of k (entries g)).data_live) s.data_live (ap (λ (t : Sums). t.data_live) is))
      (one_moves (λ k. (part_of k (entries g)).free) s.free (ap (λ (t : Sums). t.free) is))
      (one_moves (λ k. (part_of k (entries g)).blocks) s.blocks (ap (λ (t : Sums). t.blocks) is))
      (one_moves (λ k. (part_of k (entries g)).for_index) s.for_index (ap (λ (t : Sums). t.for_index) is))
      (one_moves (λ k. (part_of k (entries g)).for_data) s.for_data (ap (λ (t : Sums). t.for_data) is))
      (one_moves (λ k. (part_of k (entries g)).beside) s.beside (ap (λ (t : Sums). t.beside) is))

  -- the first block that takes a page is the first still, but for the one whose row was put
  pub first_but : (kind : Kind) (first : ℕ) → IsFirst g.blocks (row_takes g old kind) first → IsFirstBut g.blocks (row_takes g new kind) block first
  first_but kind first was = record {
    most = was.most;
    below = λ k less out. ap (λ (r : BlockCounts). takes r kind (entries g)) (others k out) ∙ was.below k less;
    here = λ less out. ap (λ (r : BlockCounts). takes r kind (entries g)) (others first out) ∙ was.here less;
  }

-- ---- the first block that takes a page once a row was put

pub first_lowers : (end : ℕ) (test : ℕ → Bool) (block first least : ℕ) → block < end → test block ≡ true → IsFirstBut end test block first → least ≡ min first block → IsFirst end test least
first_lowers end test block first least inside passes was is = record {
  most = omega (arith, is, inside);
  below = λ k less. was.below k (omega (arith, is, less)) (λ e. omega (arith, is, less, e));
  here = λ less. ⊎_elim
      (λ (same : least ≡ block). subst (λ (k : ℕ). test k ≡ true) (sym same) passes)
      (λ (other : least ≡ block → ⊥). let is_first : first ≡ least = omega (arith, is, other) in subst (λ (k : ℕ). test k ≡ true) is_first (was.here (omega (arith, is_first, less)) (λ e. omega (arith, is_first, other, e))))
      (cases_eq least block);
}

pub first_stays : (end : ℕ) (test : ℕ → Bool) (block first : ℕ) → test block ≡ false → block ≢ first → IsFirstBut end test block first → IsFirst end test first
first_stays end test block first fails out was = record {
  most = was.most;
  below = λ k less. ⊎_elim (λ (same : k ≡ block). subst (λ (i : ℕ). test i ≡ false) (sym same) fails) (λ (other : k ≡ block → ⊥). was.below k less other) (cases_eq k block);
  here = λ less. was.here less (λ e. out (sym e));
}

pub first_rises : (end : ℕ) (test : ℕ → Bool) (block first found : ℕ) → test block ≡ false → block ≡ first → IsFirstFrom end test (block + 1) found → IsFirstBut end test block first → IsFirst end test found
first_rises end test block first found fails is scan was = record {
  most = scan.most;
  below = λ k less. ⊎_elim
      (λ (same : k ≡ block). subst (λ (i : ℕ). test i ≡ false) (sym same) fails)
      (λ (other : k ≡ block → ⊥). ⊎_elim
      (λ (low : k < block). was.below k (omega (arith, is, low)) other)
      (λ (high : block ≤ k). scan.below k (omega (arith, high, other)) less)
      (cases_lt k block))
      (cases_eq k block);
  here = scan.here;
}

-- ---- rows of zeros

module _ (rows : List ℕ) (n : ℕ) (none : (k : ℕ) → k < n → slice_index rows k ≡ 0) where
  pub row_none : (block : ℕ) → 16 * block + 10 ≤ n → row_of rows block ≡ record { index_live = 0; data_live = 0; deleted = 0; free = 0; erases = 0 }
  row_none block inside =
      let byte : (i : ℕ) → i < 10 → slice_index rows (16 * block + i) ≡ 0 = λ i low. none (16 * block + i) (omega (arith, low, inside)) in
      let first : slice_index rows (16 * block) ≡ 0 = none (16 * block) (omega (arith, inside)) in
      rw (first, byte 1 (omega arith), byte 2 (omega arith), none (16 * block + 2 + 1) (omega (arith, inside)), byte 4 (omega arith), none (16 * block + 4 + 1) (omega (arith, inside)), byte 6 (omega arith), none (16 * block + 6 + 1) (omega (arith, inside)), byte 8 (omega arith), none (16 * block + 8 + 1) (omega (arith, inside))) refl

  pub sums_none : 48 ≤ n → sums_in rows ≡ record { index_live = 0; data_live = 0; free = 0; blocks = 0; for_index = 0; for_data = 0; beside = 0 }
  sums_none long =
      let byte : (i : ℕ) → i < 48 → slice_index rows i ≡ 0 = λ i low. none i (omega (arith, low, long)) in
      rw (byte 10 (omega arith), byte 11 (omega arith), byte 12 (omega arith), byte 13 (omega arith), byte 14 (omega arith), byte 15 (omega arith), byte 26 (omega arith), byte 27 (omega arith), byte 28 (omega arith), byte 29 (omega arith), byte 30 (omega arith), byte 31 (omega arith), byte 42 (omega arith), byte 43 (omega arith)) refl

module _ (g : Geometry) (rows : List ℕ) (none : (k : ℕ) → k < g.blocks → row_of rows k ≡ record { index_live = 0; data_live = 0; deleted = 0; free = 0; erases = 0 }) where
  sum_none : (f : BlockCounts → ℕ) → f (record { index_live = 0; data_live = 0; deleted = 0; free = 0; erases = 0 }) ≡ 0 → sum_rows rows g.blocks f ≡ 0
  sum_none f zeros = let most = sum_most (λ b. f (row_of rows b)) 0 0 g.blocks (λ k low high. let e : f (row_of rows k) ≡ 0 = ap f (none k (omega (arith, high))) ∙ zeros in omega (arith, e)) in omega (arith, most)

  no_block : ◌≡◌ {A = ℕ} (if 0 == entries g then 1 else 0) 0
  no_block = let other : (0 == entries g) ≡ false = ne_eqb 0 (entries g) (λ e. let some = entry_left g in omega (arith, e, some)) in rw other refl

  none_index : ◌≡◌ {A = ℕ} (if not (0 == entries g) then 0 else 0) 0
  none_index = by (not (0 == entries g))
    where
      by : (b : Bool) → ◌≡◌ {A = ℕ} (if b then 0 else 0) 0
      by true = refl
      by false = refl

  pub summed_none : sums_in rows ≡ record { index_live = 0; data_live = 0; free = 0; blocks = 0; for_index = 0; for_data = 0; beside = 0 } → first_in rows Index ≡ g.blocks → first_in rows Data ≡ g.blocks → IsSummed g rows
  summed_none zeros index pages = record {
    sums = zeros ∙ sums_are 0 0 0 0 0 0 0 (in_words (totals_of g rows))
        (word (λ k. (part_of k (entries g)).index_live) refl)
        (word (λ k. (part_of k (entries g)).data_live) refl)
        (word (λ k. (part_of k (entries g)).free) refl)
        (word (λ k. (part_of k (entries g)).blocks) no_block)
        (word (λ k. (part_of k (entries g)).for_index) none_index)
        (word (λ k. (part_of k (entries g)).for_data) refl)
        (word (λ k. (part_of k (entries g)).beside) refl);
    index = first Index index refl;
    pages = first Data pages refl;
  }
    where
      word : (f : BlockCounts → ℕ) → f (record { index_live = 0; data_live = 0; deleted = 0; free = 0; erases = 0 }) ≡ 0 → 0 ≡ sum_rows rows g.blocks f % 65536
      word f is = let e = sum_none f is in rw e refl

      first : (kind : Kind) → first_in rows kind ≡ g.blocks → takes (record { index_live = 0; data_live = 0; deleted = 0; free = 0; erases = 0 }) kind (entries g) ≡ false → IsFirst g.blocks (row_takes g rows kind) (first_in rows kind)
      first kind is fails = record {
        most = omega (arith, is);
        below = λ k less. ap (λ (r : BlockCounts). takes r kind (entries g)) (none k (omega (arith, is, less))) ∙ fails;
        here = λ less. absurd (omega (arith, is, less));
      }

-- ---- where the table stands the sums are those of its rows

count_most : (g : Geometry) (block : ℕ) (test : ℕ → Bool) → count_in g block test ≤ entries g
count_most g block test =
    let places = range_with_len (block * per_block g + lookups g) (entries g) in
    let n : length places ≡ entries g = length-range_with_len (block * per_block g + lookups g) (entries g) in
    let few = count_by-le-length test places in
    let same = length-filter test places in
    omega (arith, n, few, same)

index_most : (g : Geometry) (image : List ℕ) (block : ℕ) → index_in g image block ≤ entries g
unfolding index_in
index_most g image block = count_most g block _

data_most : (g : Geometry) (image : List ℕ) (block : ℕ) → data_in g image block ≤ entries g
unfolding data_in
data_most g image block = count_most g block _

if_most : (b : Bool) (n m : ℕ) → n ≤ m → (if b then n else 0) ≤ m
if_most true n m few = few
if_most false n m few = omega arith

module _ (g : Geometry) (image rows : List ℕ) (table : IsTable g image rows) where
  few : (f : BlockCounts → ℕ) → ((k : ℕ) → k < g.blocks → f (row_of rows k) ≤ entries g) → sum_rows rows g.blocks f % 65536 ≡ sum_rows rows g.blocks f
  few f each = let most = sum_most (λ b. f (row_of rows b)) (entries g) 0 g.blocks (λ k low high. each k (omega (arith, high))) in mod-eq_of_lt (omega (arith, most, few_usable g))

  free_most : (k : ℕ) → k < g.blocks → (row_of rows k).free ≤ entries g
  free_most k low = let c = table.counts k low in let most = count_most g k (λ p. entry_of g image p == 0xFFFF) in omega (arith, c.free, most)

  pub sums_told : sums_in rows ≡ totals_of g rows
  sums_told = table.summed.sums ∙ sums_are _ _ _ _ _ _ _ (totals_of g rows)
      (few (λ k. (part_of k (entries g)).index_live) (λ k low. let c = table.counts k low in let most = index_most g image k in omega (arith, c.index, most)))
      (few (λ k. (part_of k (entries g)).data_live) (λ k low. let c = table.counts k low in let most = data_most g image k in omega (arith, c.pages, most)))
      (few (λ k. (part_of k (entries g)).free) free_most)
      (few (λ k. (part_of k (entries g)).blocks) (λ k low. if_most _ 1 (entries g) (entry_left g)))
      (few (λ k. (part_of k (entries g)).for_index) (λ k low. if_most _ _ (entries g) (free_most k low)))
      (few (λ k. (part_of k (entries g)).for_data) (λ k low. if_most _ _ (entries g) (free_most k low)))
      (few (λ k. (part_of k (entries g)).beside) (λ k low. if_most _ _ (entries g) (free_most k low)))

module _ {N : Type 0} {nor : NorOf N} where
  pub table_sums : (g : Geometry) (device : N) (rows : List ℕ) → HasTable nor g device rows → nor.tells device → sums_in rows ≡ totals_of g rows
  table_sums g device rows table tells = sums_told g (nor.bytes device) rows (table.told tells)

  pub table_first : (g : Geometry) (device : N) (rows : List ℕ) (kind : Kind) → HasTable nor g device rows → nor.tells device → IsFirst g.blocks (row_takes g rows kind) (first_in rows kind)
  table_first g device rows Index table tells = (table.told tells).summed.index
  table_first g device rows Data table tells = (table.told tells).summed.pages
