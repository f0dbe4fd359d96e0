-- How many live pages blocks hold.
use Rattle.std.proofs.Common.{◌≡◌, ℕ, zero, suc, ◌+◌, ◌-◌, ◌*◌, ◌/◌, ◌%◌, ◌<◌, ◌≤◌, List, [], ◌∷◌, length, Bool, true, false, not, cond, ◌==◌, ◌&&◌, Option, Some, max, refl, sym, ◌∙◌, arith, ⊎_elim}
use Rattle.std.specs.Prelude.{filter}
use Rattle.std.specs.List.{range_with_len, sum_by}
use Rattle.std.proofs.Math.Nat.{mul-le-mul_left, div-add-mod}
use Rattle.std.proofs.lemmas.List.Sums.{sum_by-cons}
use Rattle.std.proofs.lemmas.Bool.{cases_lt, cases_Bool, and_parts, eq-eqb, eqb-true, ne_eqb, false_from_ne_true}
use Rattle.geometry.specs.declared.geometry.Geometry.{Geometry}
use Rattle.image_model.specs.Within.{sizes}
use Rattle.geometry.specs.Numbers.{page_count, per_block, lookups, entries, ceil}
use Rattle.image_model.specs.Within.{Sizes}
use Rattle.image_model.specs.Live.{live_at}
use Rattle.image_model.specs.Places.{block_of, IsImage}
use Rattle.image_model.specs.Headers.{names_index}
use Rattle.image_model.specs.Tables.{table_of}
use Rattle.image_model.specs.Tidy.{IsTidy, is_free_block, free_blocks}
use Rattle.table_model.specs.Room.{index_count}
use Rattle.image_model.specs.Kinds.{is_index_page, is_data_page, live_index, live_data, is_data_block, is_other_block, data_blocks, other_blocks}
use Rattle.image_laws.specs.BlockCounts.{BlocksSplit, IndexInOthers, ReserveRoom}
use Rattle.image_laws.proofs.StillFree.{live-used}
use Rattle.image_laws.proofs.Frames.{live_parts}
use Rattle.image_model.specs.Within.{page_number, block_number}
use Rattle.image_laws.proofs.Damaged.{any_at, any_from}
use Rattle.image_laws.proofs.FreeBlocks.{used-is_not_free}
use Rattle.image_model.specs.Within.{entry_in, entry_of_block}
use Rattle.image_laws.proofs.Matching.{filter-none_in, count_one, count_by_key}
use Rattle.image_laws.proofs.Serving.{some_of, some_of_data}
use Rattle.image_laws.proofs.Tally.{tidy-counts}

-- those that pass lie in a window
count_window : (t : ℕ → Bool) (lo w a n : ℕ) → ((q : ℕ) → a ≤ q → q < a + n → t q ≡ true → (lo ≤ q) × (q < lo + w)) → length (filter t (range_with_len a n)) ≤ lo + w - max a lo
count_window t lo w a zero inside = omega arith
count_window t lo w a (suc n) inside =
    let rest = count_window t lo w (a + 1) n (λ q low high yes. inside q (omega arith) (omega arith) yes) in
    ⊎_elim
    (λ (yes : t a ≡ true). let r : (lo ≤ a) × (a < lo + w) = inside a (omega arith) (omega arith) yes in rw yes (omega (arith, rest, r.0, r.1)))
    (λ (none : t a ≡ false). rw none (omega (arith, rest)))
    (cases_Bool (t a))

sum-le_range : (f h : ℕ → ℕ) (a n : ℕ) → ((q : ℕ) → a ≤ q → q < a + n → f q ≤ h q) → sum_by f (range_with_len a n) ≤ sum_by h (range_with_len a n)
sum-le_range f h a zero le = omega arith
sum-le_range f h a (suc n) le =
    let x = sum_by-cons f a (range_with_len (a + 1) n) in
    let y = sum_by-cons h a (range_with_len (a + 1) n) in
    let here = le a (omega arith) (omega arith) in
    let rest = sum-le_range f h (a + 1) n (λ q low high. le q (omega arith) (omega arith)) in
    omega (arith, x, y, here, rest)

sum-cond : (d : ℕ → Bool) (w : ℕ) (xs : List ℕ) → sum_by (λ c. cond (d c) w 0) xs ≡ length (filter d xs) * w
sum-cond d w [] = omega arith
sum-cond d w (x ∷ xs) =
    let a = sum_by-cons (λ (c : ℕ). cond (d c) w 0) x xs in
    let rest = sum-cond d w xs in
    ⊎_elim
    (λ (yes : d x ≡ true). let a' = rw yes at a in rw yes (omega (arith, a', rest)))
    (λ (none : d x ≡ false). let a' = rw none at a in rw none (omega (arith, a', rest)))
    (cases_Bool (d x))

-- numbers with a key, at most w to each key that passes
count_keys : (t d : ℕ → Bool) (key : ℕ → ℕ) (N n w : ℕ) → ((p : ℕ) → p < N → t p ≡ true → key p < n) →
    ((c : ℕ) → c < n → length (filter (λ p. t p && (key p == c)) (range_with_len 0 N)) ≤ cond (d c) w 0) →
    length (filter t (range_with_len 0 N)) ≤ length (filter d (range_with_len 0 n)) * w
count_keys t d key N n w within each =
    let total : length (filter t (range_with_len 0 N)) ≡ sum_by (λ (c : ℕ). length (filter (λ p. t p && (key p == c)) (range_with_len 0 N))) (range_with_len 0 n) =
    count_by_key t (λ (c p : ℕ). t p && (key p == c)) N 0 n (λ p low. ⊎_elim
    (λ (yes : t p ≡ true). rw yes (count_one (λ (c : ℕ). key p == c) (key p) 0 n (omega arith) (omega (arith, within p low yes)) (eq-eqb (key p) (key p) refl) (λ j there. ne_eqb (key p) j (λ e. there (sym e)))))
    (λ (none : t p ≡ false). rw none (filter-none_in (λ (c : ℕ). false) 0 n (λ q l h. refl)))
    (cases_Bool (t p))) in
    let le = sum-le_range (λ (c : ℕ). length (filter (λ p. t p && (key p == c)) (range_with_len 0 N))) (λ (c : ℕ). cond (d c) w 0) 0 n (λ c low high. each c (omega arith)) in
    omega (arith, total, le, sum-cond d w (range_with_len 0 n))

-- three kinds, of which each number has one
three-kinds : (f d : ℕ → Bool) (a n : ℕ) → ((q : ℕ) → a ≤ q → q < a + n → f q ≡ true → d q ≡ false) →
    length (filter f (range_with_len a n)) + length (filter d (range_with_len a n)) + length (filter (λ q. not (f q) && not (d q)) (range_with_len a n)) ≡ n
three-kinds f d a zero apart = omega arith
three-kinds f d a (suc n) apart =
    let rest = three-kinds f d (a + 1) n (λ q low high yes. apart q (omega arith) (omega arith) yes) in
    ⊎_elim
    (λ (yes : f a ≡ true). let none : d a ≡ false = apart a (omega arith) (omega arith) yes in rw (yes, none) (omega (arith, rest)))
    (λ (other : f a ≡ false). rw other (⊎_elim
    (λ (yes : d a ≡ true). rw yes (omega (arith, rest)))
    (λ (none : d a ≡ false). rw none (omega (arith, rest)))
    (cases_Bool (d a))))
    (cases_Bool (f a))

subst-names : (o : Option (List ℕ)) (x : List ℕ) → o ≡ Some x → is_index_page o ≡ true → names_index x ≡ true
subst-names o x e h = rw e at h

subst-holds : (o : Option (List ℕ)) (x : List ℕ) → o ≡ Some x → is_data_page o ≡ true → not (names_index x) ≡ true
subst-holds o x e h = rw e at h

module _ (g : Geometry) (a : List ℕ) (is : IsImage g a) where
  live-block_used : (p : ℕ) (x : List ℕ) → live_at g a p ≡ Some x → is_free_block g a (block_of g p) ≡ false
  live-block_used p x e = used-is_not_free g a p (live_parts g a p x e).entry_page (live-used g a p x e)

  free-no_data : (c : ℕ) → c < g.blocks → is_free_block g a c ≡ true → is_data_block g a c ≡ false
  unfolding is_data_block
  free-no_data c low free =
      false_from_ne_true _ (λ yes.
      let w = any_at (λ (p : ℕ). is_data_page (live_at g a p)) (c * per_block g + lookups g) (entries g) yes in
      let x = some_of_data (live_at g a w.0) w.3 in
      let block : block_of g w.0 ≡ c = (entry_in g c w.0 low w.1 w.2).0 in
      let used : is_free_block g a c ≡ false = rw block at (live-block_used w.0 x.0 x.1) in
      let bad : true ≡ false = sym free ∙ used in absurd (cc))

  -- at most so many live pages of a kind are in a block
  few : (k : Option (List ℕ) → Bool) → ((o : Option (List ℕ)) → k o ≡ true → (x : List ℕ) × (o ≡ Some x)) → (c : ℕ) →
      length (filter (λ p. k (live_at g a p) && (block_of g p == c)) (range_with_len 0 (page_count g))) ≤ entries g
  few k some c =
      let w = count_window (λ (p : ℕ). k (live_at g a p) && (block_of g p == c)) (c * per_block g + lookups g) (entries g) 0 (page_count g)
      (λ q low high yes. let v : (k (live_at g a q) ≡ true) × ((block_of g q == c) ≡ true) = and_parts (k (live_at g a q)) (block_of g q == c) yes in
      let x = some (live_at g a q) v.0 in
      let at : block_of g q ≡ c = eqb-true _ c v.1 in
      rw at at (entry_of_block g q (live_parts g a q x.0 x.1).entry_page)) in
      omega (arith, w)

  block-within : (k : Option (List ℕ) → Bool) → ((o : Option (List ℕ)) → k o ≡ true → (x : List ℕ) × (o ≡ Some x)) → (p : ℕ) → p < page_count g → k (live_at g a p) ≡ true → block_of g p < g.blocks
  block-within k some p low passes = block_number g p low

  -- a live data page makes its block a data block
  data-block : (p : ℕ) → is_data_page (live_at g a p) ≡ true → is_data_block g a (block_of g p) ≡ true
  unfolding is_data_block
  data-block p holds =
      let x = some_of_data (live_at g a p) holds in
      let v = entry_of_block g p (live_parts g a p x.0 x.1).entry_page in
      any_from (λ (q : ℕ). is_data_page (live_at g a q)) (block_of g p * per_block g + lookups g) (entries g) p v.0 v.1 holds

  data-le : live_data g a ≤ data_blocks g a * entries g
  unfolding live_data data_blocks
  data-le =
      count_keys (λ (p : ℕ). is_data_page (live_at g a p)) (λ (c : ℕ). is_data_block g a c) (λ (p : ℕ). block_of g p) (page_count g) g.blocks (entries g) (block-within is_data_page some_of_data)
      (λ c low. ⊎_elim
      (λ (yes : is_data_block g a c ≡ true). rw yes (few is_data_page some_of_data c))
      (λ (none : is_data_block g a c ≡ false).
      let zero : length (filter (λ (p : ℕ). is_data_page (live_at g a p) && (block_of g p == c)) (range_with_len 0 (page_count g))) ≡ 0 =
      filter-none_in (λ (p : ℕ). is_data_page (live_at g a p) && (block_of g p == c)) 0 (page_count g) (λ q l h. false_from_ne_true _ (λ yes.
      let v : (is_data_page (live_at g a q) ≡ true) × ((block_of g q == c) ≡ true) = and_parts (is_data_page (live_at g a q)) (block_of g q == c) yes in
      let at : block_of g q ≡ c = eqb-true _ c v.1 in
      let some : is_data_block g a c ≡ true = rw at at (data-block q v.0) in
      let bad : true ≡ false = sym some ∙ none in absurd (cc))) in
      rw none (omega (arith, zero)))
      (cases_Bool (is_data_block g a c)))

  split : free_blocks g a + data_blocks g a + other_blocks g a ≡ g.blocks
  unfolding free_blocks data_blocks other_blocks
  split = three-kinds (λ (c : ℕ). is_free_block g a c) (λ (c : ℕ). is_data_block g a c) 0 g.blocks (λ c low high free. free-no_data c (omega arith) free)

  module _ (t : IsTidy g a) where
    -- a live index page lies in a block that is neither free nor a data block
    index-other : (p : ℕ) → is_index_page (live_at g a p) ≡ true → is_other_block g a (block_of g p) ≡ true
    unfolding is_data_block
    index-other p passes =
        let x = some_of (live_at g a p) passes in
        let page = (live_parts g a p x.0 x.1).entry_page in
        let used : is_free_block g a (block_of g p) ≡ false = live-block_used p x.0 x.1 in
        let names : names_index x.0 ≡ true = subst-names (live_at g a p) x.0 x.1 passes in
        let none : is_data_block g a (block_of g p) ≡ false = false_from_ne_true _ (λ some.
        let w = any_at (λ (q : ℕ). is_data_page (live_at g a q)) (block_of g p * per_block g + lookups g) (entries g) some in
        let y = some_of_data (live_at g a w.0) w.3 in
        let at : block_of g w.0 ≡ block_of g p = (entry_in g (block_of g p) w.0 (block_number g p (page_number g p page)) w.1 w.2).0 in
        let holds : not (names_index y.0) ≡ true = subst-holds (live_at g a w.0) y.0 y.1 w.3 in
        let same : names_index y.0 ≡ names_index x.0 = t.unmixed w.0 p y.0 x.0 y.1 x.1 at in
        let bad : false ≡ true = rw (same ∙ names) at holds in absurd (cc)) in
        rw (used, none) refl

    index-le : live_index g a ≤ other_blocks g a * entries g
    unfolding live_index other_blocks
    index-le =
        count_keys (λ (p : ℕ). is_index_page (live_at g a p)) (λ (c : ℕ). is_other_block g a c) (λ (p : ℕ). block_of g p) (page_count g) g.blocks (entries g) (block-within is_index_page some_of)
        (λ c low. ⊎_elim
        (λ (yes : is_other_block g a c ≡ true). rw yes (few is_index_page some_of c))
        (λ (none : is_other_block g a c ≡ false).
        let zero : length (filter (λ (p : ℕ). is_index_page (live_at g a p) && (block_of g p == c)) (range_with_len 0 (page_count g))) ≡ 0 =
        filter-none_in (λ (p : ℕ). is_index_page (live_at g a p) && (block_of g p == c)) 0 (page_count g) (λ q l h. false_from_ne_true _ (λ yes.
        let v : (is_index_page (live_at g a q) ≡ true) × ((block_of g q == c) ≡ true) = and_parts (is_index_page (live_at g a q)) (block_of g q == c) yes in
        let at : block_of g q ≡ c = eqb-true _ c v.1 in
        let some : is_other_block g a c ≡ true = rw at at (index-other q v.0) in
        let bad : true ≡ false = sym some ∙ none in absurd (cc))) in
        rw none (omega (arith, zero)))
        (cases_Bool (is_other_block g a c)))

pub blocks-split : (g : Geometry) → BlocksSplit g
blocks-split g a is = (split g a is, data-le g a is)

pub index-in_others : (g : Geometry) → IndexInOthers g
index-in_others g a is t = index-le g a is t

-- n pages in k blocks of w
ceil-le : (n k w : ℕ) → 0 < w → n ≤ k * w → ceil n w ≤ k
ceil-le n k w pos h =
    let c : w * ((n + w - 1) / w) + (n + w - 1) % w ≡ n + w - 1 = div-add-mod (n + w - 1) w in
    ⊎_elim
    (λ (more : k < (n + w - 1) / w). let step : w * (k + 1) ≤ w * ((n + w - 1) / w) = mul-le-mul_left w (omega arith) in absurd (omega arith))
    (λ (le : (n + w - 1) / w ≤ k). le)
    (cases_lt k ((n + w - 1) / w))

entries-pos : (g : Geometry) → Sizes g → 0 < entries g
unfolding entries
entries-pos g geo = let fits : lookups g < per_block g = geo.lookups_fit in omega arith

pub reserve-room : (g : Geometry) → ReserveRoom g
reserve-room g a is t two =
    let counts = (tidy-counts g a is t).0 in
    let le : index_count g (table_of g a) ≤ other_blocks g a * entries g = rw counts at (index-le g a is t) in
    let enough : ceil (index_count g (table_of g a)) (entries g) ≤ other_blocks g a = ceil-le (index_count g (table_of g a)) (other_blocks g a) (entries g) (entries-pos g (sizes g)) le in
    omega (arith, enough, split g a is, two)
