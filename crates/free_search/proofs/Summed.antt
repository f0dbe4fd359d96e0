-- The sums of rows are those of the image's blocks, and the first row that takes a page is the first open block.
use Rattle.std.proofs.Common.{◌≡◌, ◌≢◌, ℕ, zero, suc, ◌+◌, ◌-◌, ◌*◌, ◌<◌, ◌≤◌, ◌==◌, ◌&&◌, nat_lt, not, List, [], ◌∷◌, Bool, true, false, length, refl, sym, ◌∙◌, ap, subst, arith, ⊎_elim, if◌then◌else◌}
use Rattle.std.specs.Prelude.{sum_by, filter, find, Option, Some, None, IfSome}
use Rattle.std.specs.List.{range_with_len}
use Rattle.std.proofs.lemmas.Bool.{cases_Bool, cases_lt}
use Rattle.std.proofs.lemmas.List.Sums.{sum_by-cons}
use Rattle.std.proofs.lemmas.List.FromFn.{length-range_with_len}
use Rattle.geometry.specs.declared.geometry.Geometry.{Geometry}
use Rattle.geometry.specs.Numbers.{entries}
use Rattle.nor_core.specs.declared.state.NorState.{Ghosts as NorOf}
use Rattle.table_model.proofs.Sums.{sum_alike}
use Rattle.image_model.specs.Tidy.{is_free_block, free_blocks}
use Rattle.image_model.specs.Kinds.{is_data_block, is_index_block}
use Rattle.image_model.specs.Collect.{index_in, data_in, free_in, deleted_in, free_where, takes_index, takes_data, holds_index}
use Rattle.room_laws.specs.Sorts.{sort_at}
use Rattle.room_laws.proofs.Sorted.{sorts_are_whole}
use Rattle.room_laws.proofs.Recounts.{counts_are_sorts}
use Rattle.flash_view.specs.declared.counts.BlockCounts.{BlockCounts}
use Rattle.flash_view.specs.declared.kinds.Kind.{Kind}
use Rattle.flash_view.specs.declared.sums.Sums.{Sums}
use Rattle.flash_view.specs.Counts.{AreCounts, part_of, IsFirst}
use Rattle.flash_view.specs.Table.{row_of, row_takes, sum_rows, totals_of, HasTable}
use Rattle.free_search.specs.Free.{is_open_for, may_choose, the_open_block}
use Rattle.free_search.specs.Summed.{in_blocks, AreSumsOf}
use Rattle.free_search.proofs.FreePages.{free_counted, few_pass, data_tells, index_tells, zero_tells}
use Rattle.free_search.proofs.Rowed.{row_counts, row_magic, row_free, row_open}

-- a sum of ones is a count
sum_ones : (t : ℕ → Bool) (xs : List ℕ) → sum_by (λ k. if t k then 1 else 0) xs ≡ length (filter t xs)
sum_ones t [] = refl
sum_ones t (x ∷ xs) =
    let first = sum_by-cons (λ k. if t k then 1 else 0) x xs in
    let rest = sum_ones t xs in
    ⊎_elim
    (λ (passes : t x ≡ true).
    let one : ◌≡◌ {A = ℕ} (if t x then 1 else 0) 1 = rw passes refl in
    let more : length (filter t (x ∷ xs)) ≡ suc (length (filter t xs)) = rw passes refl in
    omega (arith, first, rest, one, more))
    (λ (fails : t x ≡ false).
    let none : ◌≡◌ {A = ℕ} (if t x then 1 else 0) 0 = rw fails refl in
    let same : length (filter t (x ∷ xs)) ≡ length (filter t xs) = rw fails refl in
    omega (arith, first, rest, none, same))
    (cases_Bool (t x))

-- four numbers that are the same together each time
sum_four : (f h p q : ℕ → ℕ) (m a n : ℕ) → ((k : ℕ) → a ≤ k → k < a + n → f k + h k + p k + q k ≡ m) →
    sum_by f (range_with_len a n) + sum_by h (range_with_len a n) + sum_by p (range_with_len a n) + sum_by q (range_with_len a n) ≡ n * m
sum_four f h p q m a zero same = omega arith
sum_four f h p q m a (suc n) same =
    let one = sum_by-cons f a (range_with_len (a + 1) n) in
    let two = sum_by-cons h a (range_with_len (a + 1) n) in
    let three = sum_by-cons p a (range_with_len (a + 1) n) in
    let four = sum_by-cons q a (range_with_len (a + 1) n) in
    let rest = sum_four f h p q m (a + 1) n (λ k low high. same k (omega (arith, low)) (omega (arith, high))) in
    omega (arith, one, two, three, four, rest, same a (omega arith) (omega arith))

module _ {N : Type 0} {nor : NorOf N} (g : Geometry) (device : N) (rows : List ℕ) (table : HasTable nor g device rows) (tells : nor.tells device) where
  abbrev image : List ℕ
  image = nor.bytes device

  module _ (block : ℕ) (low : block < g.blocks) where
    c : BlockCounts
    c = row_of rows block

    counts : AreCounts g image block (row_of rows block)
    counts = row_counts g device rows block (row_of rows block) low refl table tells

    free_is : (row_of rows block).free ≡ free_in g image block
    free_is = counts.free ∙ free_counted g image block (table.told tells).clear low

    index_is : (nat_lt 0 (row_of rows block).index_live ≡ is_index_block g image block) × (((row_of rows block).index_live == 0) ≡ not (is_index_block g image block))
    index_is = (rw counts.index (index_tells g image block), rw counts.index (zero_tells (index_in g image block) ∙ ap not (index_tells g image block)))

    data_is : (nat_lt 0 (row_of rows block).data_live ≡ is_data_block g image block) × (((row_of rows block).data_live == 0) ≡ not (is_data_block g image block))
    data_is = (rw counts.pages (data_tells g image block), rw counts.pages (zero_tells (data_in g image block) ∙ ap not (data_tells g image block)))

    whole_is : ((row_of rows block).free == entries g) ≡ is_free_block g image block
    whole_is = row_free g device rows block (row_of rows block) low refl table tells

    for_index : (part_of (row_of rows block) (entries g)).for_index ≡ (if takes_index g image block then free_in g image block else 0)
    unfolding takes_index
    for_index = rw (data_is.1, whole_is, row_magic g device rows block (row_of rows block) low refl table tells, free_is) (turned (is_data_block g image block) (is_free_block g image block) (free_in g image block))
      where
        turned : (a b : Bool) (n : ℕ) → (if not a && not b then n else 0) ≡ (if not b && not a then n else 0)
        turned true true n = refl
        turned true false n = refl
        turned false true n = refl
        turned false false n = refl

    for_data : (part_of (row_of rows block) (entries g)).for_data ≡ (if takes_data g image block then free_in g image block else 0)
    unfolding takes_data
    for_data = rw (data_is.0, index_is.1, free_is) refl

    beside : (part_of (row_of rows block) (entries g)).beside ≡ (if holds_index g image block then free_in g image block else 0)
    unfolding holds_index
    beside = rw (index_is.0, data_is.1, free_is) refl

    all_entries : index_in g image block + data_in g image block + free_in g image block + deleted_in g image block ≡ entries g
    all_entries =
        let sorts = counts_are_sorts g image block low in
        let all = sorts_are_whole g (sort_at g image) block in
        let free = free_counted g image block (table.told tells).clear low in
        omega (arith, sorts.index, sorts.pages, sorts.deleted, sorts.free, all, free)

    whole : (part_of (row_of rows block) (entries g)).blocks ≡ (if is_free_block g image block then 1 else 0)
    whole = rw whole_is refl

  all_alike : (f : BlockCounts → ℕ) (h : ℕ → ℕ) → ((block : ℕ) → block < g.blocks → f (row_of rows block) ≡ h block) → sum_rows rows g.blocks f ≡ sum_by h (range_with_len 0 g.blocks)
  all_alike f h same = sum_alike (λ b. f (row_of rows b)) h 0 g.blocks (λ k low high. same k (omega (arith, high)))

  pub sums_are_told : (s : Sums) → s ≡ totals_of g rows → AreSumsOf g image s
  unfolding free_where free_blocks
  sums_are_told s is = record {
    deleted =
        let all = sum_four (λ b. index_in g image b) (λ b. data_in g image b) (λ b. free_in g image b) (λ b. deleted_in g image b) (entries g) 0 g.blocks (λ k low high. all_entries k (omega (arith, high))) in
        let index = ap (λ (t : Sums). t.index_live) is ∙ all_alike (λ c. (part_of c (entries g)).index_live) (λ b. index_in g image b) (λ b low. (counts b low).index) in
        let pages = ap (λ (t : Sums). t.data_live) is ∙ all_alike (λ c. (part_of c (entries g)).data_live) (λ b. data_in g image b) (λ b low. (counts b low).pages) in
        let free = ap (λ (t : Sums). t.free) is ∙ all_alike (λ c. (part_of c (entries g)).free) (λ b. free_in g image b) free_is in
        omega (arith, all, index, pages, free);
    index_live = ap (λ (t : Sums). t.index_live) is ∙ all_alike (λ c. (part_of c (entries g)).index_live) (λ b. index_in g image b) (λ b low. (counts b low).index);
    data_live = ap (λ (t : Sums). t.data_live) is ∙ all_alike (λ c. (part_of c (entries g)).data_live) (λ b. data_in g image b) (λ b low. (counts b low).pages);
    free = ap (λ (t : Sums). t.free) is ∙ all_alike (λ c. (part_of c (entries g)).free) (λ b. free_in g image b) free_is;
    blocks = ap (λ (t : Sums). t.blocks) is ∙ all_alike (λ c. (part_of c (entries g)).blocks) (λ b. if is_free_block g image b then 1 else 0) whole ∙ sum_ones (λ b. is_free_block g image b) (range_with_len 0 g.blocks);
    for_index = ap (λ (t : Sums). t.for_index) is ∙ all_alike (λ c. (part_of c (entries g)).for_index) (λ b. if takes_index g image b then free_in g image b else 0) for_index;
    for_data = ap (λ (t : Sums). t.for_data) is ∙ all_alike (λ c. (part_of c (entries g)).for_data) (λ b. if takes_data g image b then free_in g image b else 0) for_data;
    beside = ap (λ (t : Sums). t.beside) is ∙ all_alike (λ c. (part_of c (entries g)).beside) (λ b. if holds_index g image b then free_in g image b else 0) beside;
  }

  -- no block below the first row that takes a page is open
  pub open_from : (kind : Kind) (first : ℕ) → IsFirst g.blocks (row_takes g rows kind) first → (k : ℕ) → k < first → is_open_for g image kind k ≡ false
  open_from kind first is k less =
      let low : k < g.blocks = omega (arith, less, is.most) in
      sym (row_open g device rows k (row_of rows k) low refl table tells kind) ∙ is.below k less

pub sums_all : {N : Type 0} (nor : NorOf N) (g : Geometry) (device : N) (rows : List ℕ) (found : Option Sums) → nor.tells device → IfSome found (λ s. HasTable nor g device rows) → IfSome found (λ s. s ≡ totals_of g rows) → IfSome found (AreSumsOf g (nor.bytes device))
sums_all nor g device rows None tells stands told = tt
sums_all nor g device rows (Some s) tells stands told = sums_are_told {nor = nor} g device rows stands tells s told

-- no more blocks are free than there are
pub free_most : (g : Geometry) (image : List ℕ) → free_blocks g image ≤ g.blocks
unfolding free_blocks
free_most g image = let few = few_pass (λ block. is_free_block g image block) (range_with_len 0 g.blocks) in let size = length-range_with_len 0 g.blocks in omega (arith, few, size)

-- where none before a number passes the first that passes is that of those from it on
find_from : (test : ℕ → Bool) (a n first : ℕ) → a ≤ first → first ≤ a + n → ((k : ℕ) → a ≤ k → k < first → test k ≡ false) → find test (range_with_len first (a + n - first)) ≡ find test (range_with_len a n)
find_from test a zero first low high fails = let same : first ≡ a = omega (arith, low, high) in let none : a + 0 - a ≡ 0 = omega arith in rw (same, none) refl
find_from test a (suc n) first low high fails = ⊎_elim
    (λ (later : a < first).
    let rest = find_from test (a + 1) n first (omega (arith, later)) (omega (arith, high)) (λ k from to. fails k (omega (arith, from)) to) in
    let size : a + suc n - first ≡ a + 1 + n - first = omega arith in
    rw (size, fails a (omega arith) later) rest)
    (λ (here : first ≤ a). let same : first ≡ a = omega (arith, low, here) in let size : a + suc n - a ≡ suc n = omega arith in rw (same, size) refl)
    (cases_lt a first)

pub find_low : (test : ℕ → Bool) (n first : ℕ) → first ≤ n → ((k : ℕ) → k < first → test k ≡ false) → find test (range_with_len (0 + first) (n - first)) ≡ find test (range_with_len 0 n)
find_low test n first high fails =
    let most : first ≤ 0 + n = omega arith in
    let place : 0 + first ≡ first = omega arith in
    let size : n - first ≡ 0 + n - first = omega arith in
    rw (place, size) (find_from test 0 n first (omega arith) most (λ k low less. fails k less))

-- a block that isn't open isn't chosen
pub shut_block : (not_in : Option ℕ) (block : ℕ) (opened : Bool) → opened ≡ false → (may_choose not_in block && opened) ≡ false
shut_block not_in block opened fails = rw fails (by (may_choose not_in block))
  where
    by : (b : Bool) → (b && false) ≡ false
    by true = refl
    by false = refl
