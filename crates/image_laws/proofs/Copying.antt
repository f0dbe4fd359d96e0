-- What a cut in the move of an index page leaves of the places for index pages.
use Rattle.std.proofs.Common.{◌≡◌, ◌≢◌, ℕ, zero, suc, ◌+◌, ◌-◌, ◌*◌, ◌<◌, ◌≤◌, ◌⊎◌, List, true, false, not, cond, ◌==◌, ◌&&◌, Some, None, ap, refl, sym, ◌∙◌, arith, ⊎_elim, inl, inr}
use Rattle.std.specs.Prelude.{sum_by}
use Rattle.std.specs.List.{range_with_len}
use Rattle.std.proofs.Math.Nat.{mul-le-mul_right}
use Rattle.std.proofs.lemmas.Bool.{cases_Bool, cases_eq, and_parts, and_from, false_from_ne_true, ne_eqb}
use Rattle.std.proofs.lemmas.List.Sums.{sum_by-cons}
use Rattle.std.proofs.lemmas.Option.{same_Some}
use Rattle.geometry.specs.declared.geometry.Geometry.{Geometry}
use Rattle.geometry.specs.Numbers.{per_block, lookups, entries}
use Rattle.image_model.specs.Headers.{names_index}
use Rattle.image_model.specs.Live.{Live, live_at}
use Rattle.image_model.specs.Places.{has_magic, block_of, is_entry_page}
use Rattle.image_model.specs.Tidy.{IsNeat, is_wanted, is_free_entry, is_free_block, free_blocks, HasReserve}
use Rattle.image_model.specs.Kinds.{is_index_page, is_data_page, is_data_block}
use Rattle.image_model.specs.Collect.{free_in, free_where}
use Rattle.image_model.specs.Shared.{is_wanted_index, is_wanted_data, wanted_index_in, wanted_data_in, is_shared, shared_blocks, shared_index, open_entries, blocks_to_use, FitsWith}
use Rattle.image_model.specs.Within.{entry_in, entry_of_block, page_number, block_number}
use Rattle.image_laws.specs.Changes.{Gains, Loses}
use Rattle.image_laws.specs.Sharing.{IsCopying, CopyingFits, PutIsCopying, KillIsCopying}
use Rattle.image_laws.proofs.FreeBlocks.{all-range, all-at, filter-same, filter-but}
use Rattle.image_laws.proofs.Matching.{filter-none_in}
use Rattle.image_laws.proofs.MixedBlocks.{index_some, data_some}
use Rattle.image_laws.proofs.StillFree.{live-used}
use Rattle.image_laws.proofs.Unshared.{counted-none, counted-all, counted-le, shut, no-data, shared-parts, shared-from, use-free, neat_wanted}

-- ---- sums

sums-le : (f h : ℕ → ℕ) (a n : ℕ) → ((q : ℕ) → a ≤ q → q < a + n → f q ≤ h q) → sum_by f (range_with_len a n) ≤ sum_by h (range_with_len a n)
sums-le f h a zero le = omega arith
sums-le f h a (suc n) le =
    let left = sum_by-cons f a (range_with_len (a + 1) n) in
    let right = sum_by-cons h a (range_with_len (a + 1) n) in
    let rest = sums-le f h (a + 1) n (λ q low high. le q (omega arith) (omega arith)) in
    omega (arith, left, right, le a (omega arith) (omega arith), rest)

-- that may be greater at one number
sums-but : (f h : ℕ → ℕ) (k a n : ℕ) → a ≤ k → k < a + n → ((q : ℕ) → a ≤ q → q < a + n → (q ≡ k → ⊥) → f q ≤ h q) → sum_by f (range_with_len a n) + h k ≤ sum_by h (range_with_len a n) + f k
sums-but f h k a zero low high le = absurd (omega (arith, low, high))
sums-but f h k a (suc n) low high le =
    let left = sum_by-cons f a (range_with_len (a + 1) n) in
    let right = sum_by-cons h a (range_with_len (a + 1) n) in
    ⊎_elim
    (λ (here : a ≡ k).
    let rest = sums-le f h (a + 1) n (λ q more below. le q (omega arith) (omega arith) (λ e. omega (arith, e, here, more))) in
    let f_same : f a ≡ f k = ap f here in
    let h_same : h a ≡ h k = ap h here in
    omega (arith, rest, left, right, f_same, h_same))
    (λ (there : a ≡ k → ⊥).
    let rest = sums-but f h k (a + 1) n (omega (arith, there)) (omega arith) (λ q more below other. le q (omega arith) (omega arith) other) in
    let first = le a (omega arith) (omega arith) there in
    omega (arith, rest, left, right, first))
    (cases_eq a k)

-- the entries that a block gives for index pages
abbrev opens : Geometry → List ℕ → ℕ → ℕ
opens g image block = cond (has_magic g image block && not (is_free_block g image block) && (wanted_data_in g image block == 0)) (free_in g image block) 0

module _ (g : Geometry) (a c : List ℕ) (p : ℕ) (n : IsNeat g a) (page : is_entry_page g p ≡ true) (free : is_free_entry g a p ≡ true) (plain : is_data_block g a (block_of g p) ≡ false) (left : IsCopying g p a c) where
  low : block_of g p < g.blocks
  low = block_number g p (page_number g p page)

  magic_now : (block : ℕ) → block < g.blocks → has_magic g c block ≡ true
  magic_now block below = left.magic block ∙ n.magic block below

  -- ---- wanted pages

  data_back : (q : ℕ) → is_wanted_data g c q ≡ true → is_wanted_data g a q ≡ true
  data_back q wanted =
      let parts = and_parts (is_data_page (live_at g c q)) (is_wanted g c q) wanted in
      let x = data_some (live_at g c q) parts.0 in
      ⊎_elim
      (λ (old : live_at g a q ≡ Some x.0). let kind : is_data_page (live_at g a q) ≡ true = rw (old, x.2) refl in and_from _ _ kind (neat_wanted g a n q x.0 old))
      (λ (copy : (q ≡ p) × (names_index x.0 ≡ true)). let bad : true ≡ false = sym copy.1 ∙ x.2 in absurd (cc))
      (left.live q x.0 x.1)

  index_back : (q : ℕ) → (q ≡ p → ⊥) → is_wanted_index g c q ≡ true → is_wanted_index g a q ≡ true
  index_back q out wanted =
      let parts = and_parts (is_index_page (live_at g c q)) (is_wanted g c q) wanted in
      let x = index_some (live_at g c q) parts.0 in
      ⊎_elim
      (λ (old : live_at g a q ≡ Some x.0). let kind : is_index_page (live_at g a q) ≡ true = rw old x.2 in and_from _ _ kind (neat_wanted g a n q x.0 old))
      (λ (copy : (q ≡ p) × (names_index x.0 ≡ true)). absurd (out copy.0))
      (left.live q x.0 x.1)

  data_less : (block : ℕ) → wanted_data_in g c block ≤ wanted_data_in g a block
  unfolding wanted_data_in
  data_less block = counted-le (λ q. is_wanted_data g c q) (λ q. is_wanted_data g a q) (block * per_block g + lookups g) (entries g) (λ q from to. data_back q)

  none_was : wanted_data_in g a (block_of g p) ≡ 0
  none_was = no-data g a (block_of g p) plain

  none_now : wanted_data_in g c (block_of g p) ≡ 0
  none_now = let less = data_less (block_of g p) in let none = none_was in omega (arith, less, none)

  -- the page of a block is no page of another
  other : (block q : ℕ) → block < g.blocks → (block ≡ block_of g p → ⊥) → block * per_block g + lookups g ≤ q → q < block * per_block g + lookups g + entries g → q ≡ p → ⊥
  other block q below out from to e = out (sym (entry_in g block q below from to).0 ∙ ap (λ (k : ℕ). block_of g k) e)

  index_less : (block : ℕ) → block < g.blocks → (block ≡ block_of g p → ⊥) → wanted_index_in g c block ≤ wanted_index_in g a block
  unfolding wanted_index_in
  index_less block below out =
      counted-le (λ q. is_wanted_index g c q) (λ q. is_wanted_index g a q) (block * per_block g + lookups g) (entries g) (λ q from to. index_back q (other block q below out from to))

  shared_back : (block : ℕ) → block < g.blocks → is_shared g c block ≡ true → (block ≢ block_of g p) × (is_shared g a block ≡ true)
  shared_back block below both =
      let parts = shared-parts g c block both in
      let out : block ≢ block_of g p = λ e. parts.1 (rw e none_now) in
      let d = data_less block in
      let i = index_less block below out in
      (out, shared-from g a block (λ none. parts.0 (omega (arith, i, none))) (λ none. parts.1 (omega (arith, d, none))))

  shared_term : (block : ℕ) → block < g.blocks → cond (is_shared g c block) (wanted_index_in g c block) 0 ≤ cond (is_shared g a block) (wanted_index_in g a block) 0
  shared_term block below = ⊎_elim
      (λ (yes : is_shared g c block ≡ true). let w = shared_back block below yes in let i = index_less block below w.0 in rw (yes, w.1) i)
      (λ (no : is_shared g c block ≡ false). rw no (omega arith))
      (cases_Bool (is_shared g c block))

  shared_less : shared_index g c ≤ shared_index g a
  unfolding shared_index
  shared_less = sums-le (λ b. cond (is_shared g c b) (wanted_index_in g c b) 0) (λ b. cond (is_shared g a b) (wanted_index_in g a b) 0) 0 g.blocks (λ block from to. shared_term block (omega (arith, to)))

  none_shared : shared_blocks g a ≡ 0 → shared_blocks g c ≡ 0
  unfolding shared_blocks
  none_shared none =
      filter-none_in (λ b. is_shared g c b) 0 g.blocks (λ block from to. false_from_ne_true _ (λ yes.
      let no : is_shared g a block ≡ false = counted-none (λ b. is_shared g a b) 0 g.blocks none block from to in
      let w = shared_back block (omega (arith, to)) yes in
      let bad : true ≡ false = sym w.1 ∙ no in absurd (cc)))

  -- ---- the other blocks

  block_there : (block : ℕ) → block < g.blocks → (block ≡ block_of g p → ⊥) → is_free_block g c block ≡ is_free_block g a block
  unfolding is_free_block
  block_there block below out =
      rw (magic_now block below, n.magic block below)
      (all-range (λ q. is_free_entry g a q) (λ q. is_free_entry g c q) (block * per_block g + lookups g) (entries g) (λ q from to. left.free q (entry_in g block q below from to).1 (other block q below out from to)))

  free_there : (block : ℕ) → block < g.blocks → (block ≡ block_of g p → ⊥) → free_in g c block ≡ free_in g a block
  unfolding free_in
  free_there block below out =
      filter-same (λ q. is_free_entry g a q) (λ q. is_free_entry g c q) (block * per_block g + lookups g) (entries g) (λ q from to. left.free q (entry_in g block q below from to).1 (other block q below out from to))

  opens_there : (block : ℕ) → block < g.blocks → (block ≡ block_of g p → ⊥) → opens g a block ≤ opens g c block
  opens_there block below out = ⊎_elim
      (λ (none : wanted_data_in g a block ≡ 0).
      let less = data_less block in
      let none' : wanted_data_in g c block ≡ 0 = omega (arith, less, none) in
      let same : opens g a block ≡ opens g c block = rw (magic_now block below, n.magic block below, block_there block below out, free_there block below out, none', none) refl in
      omega (arith, same))
      (λ (some : wanted_data_in g a block ≡ 0 → ⊥).
      let nothing : opens g a block ≡ 0 = rw (ne_eqb (wanted_data_in g a block) 0 some) (shut _ _) in
      omega (arith, nothing))
      (cases_eq (wanted_data_in g a block) 0)

  -- ---- the block of the page

  lies : (block_of g p * per_block g + lookups g ≤ p) × (p < block_of g p * per_block g + lookups g + entries g)
  lies = entry_of_block g p page

  -- free now, it was free
  free_if_now : is_free_block g c (block_of g p) ≡ true → is_free_block g c (block_of g p) ≡ is_free_block g a (block_of g p)
  unfolding is_free_block
  free_if_now now =
      let w = and_parts (has_magic g c (block_of g p)) _ now in
      let here : is_free_entry g c p ≡ true = all-at (λ q. is_free_entry g c q) (block_of g p * per_block g + lookups g) (entries g) w.1 p lies.0 lies.1 in
      rw (magic_now (block_of g p) low, n.magic (block_of g p) low)
      (all-range (λ q. is_free_entry g a q) (λ q. is_free_entry g c q) (block_of g p * per_block g + lookups g) (entries g) (λ q from to. ⊎_elim
      (λ (at : q ≡ p). rw at (here ∙ sym free))
      (λ (there : q ≡ p → ⊥). left.free q (entry_in g (block_of g p) q low from to).1 there)
      (cases_eq q p)))

  used_stays : is_free_block g a (block_of g p) ≡ false → is_free_block g c (block_of g p) ≡ false
  used_stays used = false_from_ne_true _ (λ yes. let same = free_if_now yes in let bad : true ≡ false = sym yes ∙ same ∙ used in absurd (cc))

  free_here : free_in g a (block_of g p) ≤ free_in g c (block_of g p) + 1
  unfolding free_in
  free_here =
      let fall = filter-but (λ q. is_free_entry g a q) (λ q. is_free_entry g c q) p (block_of g p * per_block g + lookups g) (entries g) (λ q from to out. left.free q (entry_in g (block_of g p) q low from to).1 out) in
      let tight = rw free at fall in
      omega (arith, tight)

  opens_used : is_free_block g a (block_of g p) ≡ false → opens g a (block_of g p) ≤ opens g c (block_of g p) + 1
  opens_used used =
      let was : opens g a (block_of g p) ≡ free_in g a (block_of g p) = rw (n.magic (block_of g p) low, used, none_was) refl in
      let now : opens g c (block_of g p) ≡ free_in g c (block_of g p) = rw (magic_now (block_of g p) low, used_stays used, none_now) refl in
      let here = free_here in
      omega (arith, was, now, here)

  opens_free : is_free_block g a (block_of g p) ≡ true → opens g a (block_of g p) ≡ 0
  opens_free whole = rw (n.magic (block_of g p) low, whole) refl

  -- a free block that is begun gives all its entries but one
  all_here : is_free_block g a (block_of g p) ≡ true → free_in g a (block_of g p) ≡ entries g
  unfolding is_free_block free_in
  all_here whole =
      let w = and_parts (has_magic g a (block_of g p)) _ whole in
      counted-all (λ q. is_free_entry g a q) (block_of g p * per_block g + lookups g) (entries g) (λ q from to. all-at (λ r. is_free_entry g a r) (block_of g p * per_block g + lookups g) (entries g) w.1 q from to)

  opens_begun : is_free_block g a (block_of g p) ≡ true → is_free_block g c (block_of g p) ≡ false → entries g ≤ opens g c (block_of g p) + 1
  opens_begun whole begun =
      let now : opens g c (block_of g p) ≡ free_in g c (block_of g p) = rw (magic_now (block_of g p) low, begun, none_now) refl in
      let all = all_here whole in
      let here = free_here in
      omega (arith, now, all, here)

  -- ---- all together

  opens_sum : open_entries g a + opens g c (block_of g p) ≤ open_entries g c + opens g a (block_of g p)
  unfolding open_entries free_where
  opens_sum = sums-but (λ b. opens g a b) (λ b. opens g c b) (block_of g p) 0 g.blocks (omega arith) (let below = low in omega (arith, below)) (λ block from to out. opens_there block (omega (arith, to)) out)

  blocks_fall : free_blocks g a ≤ free_blocks g c + cond (is_free_block g a (block_of g p)) 1 0
  unfolding free_blocks
  blocks_fall = filter-but (λ b. is_free_block g a b) (λ b. is_free_block g c b) (block_of g p) 0 g.blocks (λ block from to out. block_there block (omega (arith, to)) out)

  blocks_stay : is_free_block g c (block_of g p) ≡ true → free_blocks g c ≡ free_blocks g a
  unfolding free_blocks
  blocks_stay now = filter-same (λ b. is_free_block g a b) (λ b. is_free_block g c b) 0 g.blocks (λ block from to. ⊎_elim
      (λ (here : block ≡ block_of g p). rw here (free_if_now now))
      (λ (there : block ≡ block_of g p → ⊥). block_there block (omega (arith, to)) there)
      (cases_eq block (block_of g p)))

  module _ (many : is_free_block g a (block_of g p) ≡ true → 2 < free_blocks g a) where
    places_begun : is_free_block g a (block_of g p) ≡ true → is_free_block g c (block_of g p) ≡ false → open_entries g a + (free_blocks g a - 2) * entries g ≤ open_entries g c + (free_blocks g c - 2) * entries g + 1
    places_begun whole begun =
        let three = many whole in
        let fall : free_blocks g a ≤ free_blocks g c + 1 = rw whole at blocks_fall in
        let rows : (free_blocks g a - 2) * entries g ≤ (free_blocks g c - 2 + 1) * entries g = mul-le-mul_right (entries g) (omega (arith, three, fall)) in
        let sum = opens_sum in
        let none = opens_free whole in
        let most = opens_begun whole begun in
        omega (arith, rows, sum, none, most)

    places_stay : is_free_block g a (block_of g p) ≡ true → is_free_block g c (block_of g p) ≡ true → open_entries g a + (free_blocks g a - 2) * entries g ≤ open_entries g c + (free_blocks g c - 2) * entries g + 1
    places_stay whole now =
        let sum = opens_sum in
        let none = opens_free whole in
        rw (blocks_stay now) (omega (arith, sum, none))

    places_used : is_free_block g a (block_of g p) ≡ false → open_entries g a + (free_blocks g a - 2) * entries g ≤ open_entries g c + (free_blocks g c - 2) * entries g + 1
    places_used used =
        let fall : free_blocks g a ≤ free_blocks g c + 0 = rw used at blocks_fall in
        let rows : (free_blocks g a - 2) * entries g ≤ (free_blocks g c - 2) * entries g = mul-le-mul_right (entries g) (omega (arith, fall)) in
        let sum = opens_sum in
        let here = opens_used used in
        omega (arith, rows, sum, here)

    places : open_entries g a + (free_blocks g a - 2) * entries g ≤ open_entries g c + (free_blocks g c - 2) * entries g + 1
    places = ⊎_elim
        (λ (yes : is_free_block g a (block_of g p) ≡ true). ⊎_elim
        (λ (now : is_free_block g c (block_of g p) ≡ true). places_stay yes now)
        (λ (no : is_free_block g c (block_of g p) ≡ false). places_begun yes no)
        (cases_Bool (is_free_block g c (block_of g p))))
        (λ (used : is_free_block g a (block_of g p) ≡ false). places_used used)
        (cases_Bool (is_free_block g a (block_of g p)))

    fits : (spare : ℕ) → FitsWith g a (spare + 1) → FitsWith g c spare
    fits spare was = ⊎_elim
        (λ (none : shared_blocks g a ≡ 0). inl (none_shared none))
        (λ (room : shared_index g a + (spare + 1) ≤ open_entries g a + (blocks_to_use g a - 2) * entries g).
        let room' : shared_index g a + (spare + 1) ≤ open_entries g a + (free_blocks g a - 2) * entries g = rw (use-free g a n.magic) at room in
        let less = shared_less in
        let most = places in
        inr (rw (use-free g c magic_now) (omega (arith, room', less, most))))
        was

    reserve : HasReserve g a → HasReserve g c
    reserve two = ⊎_elim
        (λ (yes : is_free_block g a (block_of g p) ≡ true). let three = many yes in let fall : free_blocks g a ≤ free_blocks g c + 1 = rw yes at blocks_fall in omega (arith, three, fall))
        (λ (used : is_free_block g a (block_of g p) ≡ false). let fall : free_blocks g a ≤ free_blocks g c + 0 = rw used at blocks_fall in omega (arith, two, fall))
        (cases_Bool (is_free_block g a (block_of g p)))

-- A cut in a move costs one entry at most.
pub copying-fits : (g : Geometry) → CopyingFits g
copying-fits g a c p n page free plain many left = (fits g a c p n page free plain left many, reserve g a c p n page free plain left many)

-- ---- the cuts

pub put-copying : (g : Geometry) → PutIsCopying g
put-copying g a c p page index leaves = record {
  magic = leaves.agree.magic;
  free = λ q entry out. rw (leaves.agree.entry q entry out, leaves.agree.page q entry out) refl;
  live = λ q x e. ⊎_elim
      (λ (same : live_at g c ≡ live_at g a). inl (sym (ap (λ (l : Live). l q) same) ∙ e))
      (λ (gains : Gains p page (live_at g a) (live_at g c)). ⊎_elim
      (λ (here : q ≡ p).
      let now : Some x ≡ Some page = sym e ∙ ap (live_at g c) here ∙ gains.after in
      inr (here, ap names_index (same_Some x page now) ∙ index))
      (λ (there : q ≡ p → ⊥). inl (sym (gains.others q there) ∙ e))
      (cases_eq q p))
      leaves.live;
}

pub kill-copying : (g : Geometry) → KillIsCopying g
kill-copying g a b c p o page old index live put leaves = record {
  magic = λ block. leaves.agree.magic block ∙ put.agree.magic block;
  free = λ q entry out. ⊎_elim
      (λ (here : q ≡ o). rw here (leaves.used ∙ sym (live-used g a o old live)))
      (λ (there : q ≡ o → ⊥). rw (leaves.agree.entry q entry there, leaves.agree.page q entry there, put.agree.entry q entry out, put.agree.page q entry out) refl)
      (cases_eq q o);
  live = λ q x e. from q x (⊎_elim
      (λ (same : live_at g c ≡ live_at g b). sym (ap (λ (l : Live). l q) same) ∙ e)
      (λ (loses : Loses o (live_at g b) (live_at g c)). ⊎_elim
      (λ (here : q ≡ o). let bad : None ≡ Some x = sym loses.after ∙ ap (live_at g c) (sym here) ∙ e in absurd (cc))
      (λ (there : q ≡ o → ⊥). sym (loses.others q there) ∙ e)
      (cases_eq q o))
      leaves.live);
}
  where
    from : (q : ℕ) (x : List ℕ) → live_at g b q ≡ Some x → (live_at g a q ≡ Some x) ⊎ ((q ≡ p) × (names_index x ≡ true))
    from q x e = ⊎_elim
        (λ (here : q ≡ p).
        let now : Some x ≡ Some page = sym e ∙ ap (live_at g b) here ∙ put.gains.after in
        inr (here, ap names_index (same_Some x page now) ∙ index))
        (λ (there : q ≡ p → ⊥). inl (sym (put.gains.others q there) ∙ e))
        (cases_eq q p)
