-- Counts by sorts.
use Rattle.std.proofs.Common.{◌≡◌, ℕ, zero, suc, ◌+◌, ◌*◌, ◌<◌, ◌≤◌, ◌⊎◌, List, [], ◌∷◌, length, Bool, true, false, not, cond, ◌==◌, ◌&&◌, Option, Some, None, refl, sym, ◌∙◌, ap, arith, ⊎_elim, slice_index_or, slice_set}
use Rattle.std.specs.Prelude.{filter, map}
use Rattle.std.specs.List.{range_with_len}
use Rattle.std.proofs.lemmas.Bool.{cases_Bool, eqb-true, eq-eqb, ne_eqb}
use Rattle.std.proofs.lemmas.List.FromFn.{length-map-range_with_len, get_or-map-range_with_len}
use Rattle.geometry.specs.declared.geometry.Geometry.{Geometry}
use Rattle.geometry.specs.Numbers.{per_block, lookups, entries}
use Rattle.image_model.specs.Headers.{names_index}
use Rattle.image_model.specs.Places.{entry_of, block_of, is_entry_page}
use Rattle.image_model.specs.Live.{live_at}
use Rattle.image_model.specs.Tidy.{is_free_entry, is_wanted, TellsFree}
use Rattle.image_model.specs.Kinds.{is_index_page, is_data_page}
use Rattle.image_model.specs.Collect.{count_in, index_in, data_in, deleted_in, free_in, is_deleted_entry}
use Rattle.image_model.specs.Within.{entry_in, entry_of_block, page_number, block_number}
use Rattle.image_laws.proofs.FreeBlocks.{filter-same}
use Rattle.image_laws.proofs.Tally.{is_finished-ones}
use Rattle.image_laws.proofs.TidySteps.{neat_of}
use Rattle.image_laws.proofs.Wants.{wanted_parts}
use Rattle.room_laws.specs.Counts.{Counts, for_index, for_data}
use Rattle.room_laws.specs.Steps.{placed, killed}
use Rattle.room_laws.specs.Order.{without}
use Rattle.room_laws.specs.Leaving.{page_killed}
use Rattle.room_laws.specs.Losing.{spoiled}
use Rattle.room_laws.specs.Counting.{block_counts, counts_of}
use Rattle.room_laws.specs.Sorts.{Sort, Index, Data, Deleted, Free, sort_at, TidyTellsFree, NeatTellsFree, same_sort, counts_by, all_by, beside, with_sort, CountsBySorts, AllBySorts, SameSorts, SortsAreWhole, SortChanges, SortsChange, SortIsCounted, SortsAreCounted, OtherSortsStay, SortsAtBlock, SortsBeside, BlocksBeside, PlaceCanPut}
use Rattle.room_laws.proofs.Ranges.{four_kinds, count_but}
use Rattle.room_laws.proofs.Blocks.{unlive}

-- ---- what entries count as

pub neat_tells_free : (g : Geometry) → NeatTellsFree g
unfolding is_wanted
neat_tells_free g image t = record {
  magic = t.magic;
  free = λ p page ones. ⊎_elim
      (λ (zero : entry_of g image p ≡ 0). let no : 0 ≡ 0xFFFF = sym zero ∙ ones in absurd (omega (arith, no)))
      (λ (more : (is_free_entry g image p ≡ true) ⊎ (is_wanted g image p ≡ true)). ⊎_elim
      (λ (free : is_free_entry g image p ≡ true). free)
      (λ (wanted : is_wanted g image p ≡ true).
      let v = wanted_parts g (live_at g image) p wanted in
      let bad : Some v.page ≡ None = sym v.is ∙ unlive g image p 0xFFFF ones (λ x id. is_finished-ones x id) in absurd (cc))
      more)
      (t.entries p page);
}

pub tidy_tells_free : (g : Geometry) → TidyTellsFree g
tidy_tells_free g image t = neat_tells_free g image (neat_of t)

module _ (g : Geometry) (image : List ℕ) (p : ℕ) where
  -- what an entry counts as, by its four tests
  pub record Tested : Type 0 where
    pub index : same_sort (sort_at g image p) Index ≡ is_index_page (live_at g image p)
    pub pages : same_sort (sort_at g image p) Data ≡ is_data_page (live_at g image p)
    pub deleted : same_sort (sort_at g image p) Deleted ≡ is_deleted_entry g image p
    pub free : same_sort (sort_at g image p) Free ≡ (entry_of g image p == 0xFFFF)

  tested_free : (entry_of g image p == 0xFFFF) ≡ true → Tested
  unfolding sort_at
  tested_free ones =
      let at = eqb-true _ 0xFFFF ones in
      let dead = unlive g image p 0xFFFF at (λ x id. is_finished-ones x id) in
      record { index = rw (ones, dead) refl; pages = rw (ones, dead) refl; deleted = rw ones refl; free = rw ones refl }

  tested_used : (entry_of g image p == 0xFFFF) ≡ false → (o : Option (List ℕ)) → live_at g image p ≡ o → Tested
  unfolding sort_at
  tested_used none None e = record { index = rw (none, e) refl; pages = rw (none, e) refl; deleted = rw (none, e) refl; free = rw (none, e) refl }
  tested_used none (Some x) e = ⊎_elim
      (λ (yes : names_index x ≡ true). record { index = rw (none, e, yes) refl; pages = rw (none, e, yes) refl; deleted = rw (none, e, yes) refl; free = rw (none, e, yes) refl })
      (λ (no : names_index x ≡ false). record { index = rw (none, e, no) refl; pages = rw (none, e, no) refl; deleted = rw (none, e, no) refl; free = rw (none, e, no) refl })
      (cases_Bool (names_index x))

  pub tested : Tested
  tested = ⊎_elim (λ (ones : (entry_of g image p == 0xFFFF) ≡ true). tested_free ones) (λ (none : (entry_of g image p == 0xFFFF) ≡ false). tested_used none (live_at g image p) refl) (cases_Bool (entry_of g image p == 0xFFFF))

-- an entry of 0xFFFF is free where lookup pages tell that
pub tells_alike : (g : Geometry) (image : List ℕ) (p : ℕ) → TellsFree g image → is_entry_page g p ≡ true → (entry_of g image p == 0xFFFF) ≡ is_free_entry g image p
tells_alike g image p t page = ⊎_elim
    (λ (ones : (entry_of g image p == 0xFFFF) ≡ true). ones ∙ sym (t.free p page (eqb-true _ 0xFFFF ones)))
    (λ (none : (entry_of g image p == 0xFFFF) ≡ false). rw none refl)
    (cases_Bool (entry_of g image p == 0xFFFF))

-- counts that are the same
abbrev four : ℕ → ℕ → ℕ → ℕ → Counts
four i d x f = record { index = i; pages = d; deleted = x; free = f }

same-counts : (i d x f i' d' x' f' : ℕ) → i ≡ i' → d ≡ d' → x ≡ x' → f ≡ f' → four i d x f ≡ four i' d' x' f'
same-counts i d x f i' d' x' f' a b c e = rw (a, b, c, e) refl

pub counts_by_sorts : (g : Geometry) → CountsBySorts g
unfolding block_counts counts_by index_in data_in deleted_in free_in
counts_by_sorts g image block t low =
    same-counts (index_in g image block) (data_in g image block) (deleted_in g image block) (free_in g image block)
    (counts_by g (sort_at g image) block).index (counts_by g (sort_at g image) block).pages (counts_by g (sort_at g image) block).deleted (counts_by g (sort_at g image) block).free
    (filter-same (λ p. same_sort (sort_at g image p) Index) (λ p. is_index_page (live_at g image p)) (block * per_block g + lookups g) (entries g) (λ q from to. sym (tested g image q).index))
    (filter-same (λ p. same_sort (sort_at g image p) Data) (λ p. is_data_page (live_at g image p)) (block * per_block g + lookups g) (entries g) (λ q from to. sym (tested g image q).pages))
    (filter-same (λ p. same_sort (sort_at g image p) Deleted) (λ p. is_deleted_entry g image p) (block * per_block g + lookups g) (entries g) (λ q from to. sym (tested g image q).deleted))
    (filter-same (λ p. same_sort (sort_at g image p) Free) (λ p. is_free_entry g image p) (block * per_block g + lookups g) (entries g) (λ q from to. sym ((tested g image q).free ∙ tells_alike g image q t (entry_in g block q low from to).1)))

map-same : (f h : ℕ → Counts) (a n : ℕ) → ((q : ℕ) → a ≤ q → q < a + n → f q ≡ h q) → map f (range_with_len a n) ≡ map h (range_with_len a n)
map-same f h a zero same = refl
map-same f h a (suc n) same = rw (same a (omega arith) (omega arith), map-same f h (a + 1) n (λ q low high. same q (omega arith) (omega arith))) refl

pub all_by_sorts : (g : Geometry) → AllBySorts g
unfolding counts_of all_by
all_by_sorts g image t = map-same (block_counts g image) (counts_by g (sort_at g image)) 0 g.blocks (λ b low high. counts_by_sorts g image b t (omega arith))

-- sorts that are the same in a block
pub same-block : (g : Geometry) (a b : ℕ → Sort) (block : ℕ) → block < g.blocks → ((p : ℕ) → is_entry_page g p ≡ true → block_of g p ≡ block → b p ≡ a p) → counts_by g b block ≡ counts_by g a block
unfolding counts_by
same-block g a b block low same =
    let count = λ (x : Sort). filter-same (λ p. same_sort (a p) x) (λ p. same_sort (b p) x) (block * per_block g + lookups g) (entries g)
    (λ q from to. let w = entry_in g block q low from to in rw (same q w.1 w.0) refl) in
    same-counts (counts_by g b block).index (counts_by g b block).pages (counts_by g b block).deleted (counts_by g b block).free
    (counts_by g a block).index (counts_by g a block).pages (counts_by g a block).deleted (counts_by g a block).free
    (count Index) (count Data) (count Deleted) (count Free)

pub same_sorts : (g : Geometry) → SameSorts g
unfolding all_by
same_sorts g a b same = map-same (counts_by g b) (counts_by g a) 0 g.blocks (λ c low high. same-block g a b c (omega arith) (λ p page at. same p page))

one-sort : (x : Sort) → cond (same_sort x Index) 1 0 + cond (same_sort x Data) 1 0 + cond (same_sort x Deleted) 1 0 + cond (same_sort x Free) 1 0 ≡ 1
one-sort Index = refl
one-sort Data = refl
one-sort Deleted = refl
one-sort Free = refl

pub sorts_are_whole : (g : Geometry) → SortsAreWhole g
unfolding counts_by
sorts_are_whole g sorts block =
    four_kinds (λ p. same_sort (sorts p) Index) (λ p. same_sort (sorts p) Data) (λ p. same_sort (sorts p) Deleted) (λ p. same_sort (sorts p) Free)
    (block * per_block g + lookups g) (entries g) (λ q from to. one-sort (sorts q))

-- ---- one changed sort

-- two counts that are the same but at one number
pub count-swap : (s t : ℕ → Bool) (k a n : ℕ) → a ≤ k → k < a + n → ((q : ℕ) → a ≤ q → q < a + n → (q ≡ k → ⊥) → t q ≡ s q) →
    length (filter t (range_with_len a n)) + cond (s k) 1 0 ≡ length (filter s (range_with_len a n)) + cond (t k) 1 0
count-swap s t k a n low high same =
    let none : (not (k == k) && s k) ≡ false = rw (eq-eqb k k refl) refl in
    let x = count_but (λ q. not (q == k) && s q) s k a n low high none (λ q from to there. rw (ne_eqb q k there) refl) in
    let y = count_but (λ q. not (q == k) && s q) t k a n low high none (λ q from to there. rw (ne_eqb q k there, same q from to there) refl) in
    omega (arith, x, y)

pub with-here : (sorts : ℕ → Sort) (p : ℕ) (x : Sort) → with_sort p x sorts p ≡ x
with-here sorts p x = rw (eq-eqb p p refl) refl

pub with-there : (sorts : ℕ → Sort) (p q : ℕ) (x : Sort) → (q ≡ p → ⊥) → with_sort p x sorts q ≡ sorts q
with-there sorts p q x there = rw (ne_eqb q p there) refl

-- of each sort
sort-swap : (g : Geometry) (sorts : ℕ → Sort) (p : ℕ) (x y z : Sort) → is_entry_page g p ≡ true → sorts p ≡ y →
    count_in g (block_of g p) (λ q. same_sort (with_sort p x sorts q) z) + cond (same_sort y z) 1 0 ≡ count_in g (block_of g p) (λ q. same_sort (sorts q) z) + cond (same_sort x z) 1 0
sort-swap g sorts p x y z page was =
    let in_block = entry_of_block g p page in
    let swap = count-swap (λ q. same_sort (sorts q) z) (λ q. same_sort (with_sort p x sorts q) z) p (block_of g p * per_block g + lookups g) (entries g) in_block.0 in_block.1
    (λ q from to there. ap (λ (s : Sort). same_sort s z) (with-there sorts p q x there)) in
    let here : same_sort (with_sort p x sorts p) z ≡ same_sort x z = ap (λ (s : Sort). same_sort s z) (with-here sorts p x) in
    let old : same_sort (sorts p) z ≡ same_sort y z = ap (λ (s : Sort). same_sort s z) was in
    rw (here, old) at swap

module _ (g : Geometry) (sorts : ℕ → Sort) (p : ℕ) (page : is_entry_page g p ≡ true) where
  abbrev old : Counts
  old = counts_by g sorts (block_of g p)

  abbrev new : Sort → Counts
  new x = counts_by g (with_sort p x sorts) (block_of g p)

  -- what each count is then
  record Swaps (x y : Sort) : Type 0 where
    index : (new x).index + cond (same_sort y Index) 1 0 ≡ old.index + cond (same_sort x Index) 1 0
    pages : (new x).pages + cond (same_sort y Data) 1 0 ≡ old.pages + cond (same_sort x Data) 1 0
    deleted : (new x).deleted + cond (same_sort y Deleted) 1 0 ≡ old.deleted + cond (same_sort x Deleted) 1 0
    free : (new x).free + cond (same_sort y Free) 1 0 ≡ old.free + cond (same_sort x Free) 1 0

  swaps : (x y : Sort) → sorts p ≡ y → Swaps x y
  unfolding counts_by
  swaps x y was = record { index = sort-swap g sorts p x y Index page was; pages = sort-swap g sorts p x y Data page was; deleted = sort-swap g sorts p x y Deleted page was; free = sort-swap g sorts p x y Free page was }

  -- and so the counts
  becomes : (x : Sort) (c : Counts) → (new x).index ≡ c.index → (new x).pages ≡ c.pages → (new x).deleted ≡ c.deleted → (new x).free ≡ c.free → new x ≡ c
  becomes x c i d e f = same-counts (new x).index (new x).pages (new x).deleted (new x).free c.index c.pages c.deleted c.free i d e f

  changes : SortChanges g sorts p
  changes = record {
    put_index = λ was. let w = swaps Index Free was in becomes Index (placed for_index old) (omega (arith, w.index)) (omega (arith, w.pages)) (omega (arith, w.deleted)) (omega (arith, w.free));
    put_data = λ was. let w = swaps Data Free was in becomes Data (placed for_data old) (omega (arith, w.index)) (omega (arith, w.pages)) (omega (arith, w.deleted)) (omega (arith, w.free));
    spoil = λ was. let w = swaps Deleted Free was in becomes Deleted (spoiled old) (omega (arith, w.index)) (omega (arith, w.pages)) (omega (arith, w.deleted)) (omega (arith, w.free));
    kill_index = λ was. let w = swaps Deleted Index was in becomes Deleted (killed old) (omega (arith, w.index)) (omega (arith, w.pages)) (omega (arith, w.deleted)) (omega (arith, w.free));
    kill_data = λ was. let w = swaps Deleted Data was in becomes Deleted (page_killed old) (omega (arith, w.index)) (omega (arith, w.pages)) (omega (arith, w.deleted)) (omega (arith, w.free));
  }

  -- what a page counts as, its block counts
  counted : SortIsCounted g sorts p
  counted = record {
    index = λ was. let w = swaps Deleted Index was in omega (arith, w.index);
    pages = λ was. let w = swaps Deleted Data was in omega (arith, w.pages);
    deleted = λ was. let w = swaps Index Deleted was in omega (arith, w.deleted);
    free = λ was. let w = swaps Index Free was in omega (arith, w.free);
  }

pub sorts_change : (g : Geometry) → SortsChange g
sorts_change g sorts p page = changes g sorts p page

pub sorts_are_counted : (g : Geometry) → SortsAreCounted g
sorts_are_counted g sorts p page = counted g sorts p page

pub other_sorts_stay : (g : Geometry) → OtherSortsStay g
other_sorts_stay g sorts x p block page low out = same-block g sorts (with_sort p x sorts) block low (λ q entry at. with-there sorts p q x (λ e. out (ap (λ (z : ℕ). block_of g z) (sym e) ∙ at)))

-- ---- all blocks but one

pub map-set : (f h : ℕ → Counts) (a n k : ℕ) → k < n → ((q : ℕ) → a ≤ q → q < a + n → (q ≡ a + k → ⊥) → h q ≡ f q) → map h (range_with_len a n) ≡ slice_set (map f (range_with_len a n)) k (h (a + k))
map-set f h a zero k low same = absurd (omega arith)
map-set f h a (suc n) zero low same =
    let here : h a ≡ h (a + 0) = ap h (omega arith) in
    rw (map-same h f (a + 1) n (λ q from to. same q (omega arith) (omega arith) (λ e. omega (arith, e, from))), here) refl
map-set f h a (suc n) (suc k) low same =
    let rest = map-set f h (a + 1) n k (omega arith) (λ q from to out. same q (omega arith) (omega arith) (λ e. out (omega (arith, e)))) in
    let at : h (a + 1 + k) ≡ h (a + suc k) = ap h (omega arith) in
    rw (same a (omega arith) (omega arith) (λ e. omega (arith, e)), rest, at) refl

pub set-out : (v : List Counts) (i : ℕ) (d : Counts) → without i (slice_set v i d) ≡ without i v
set-out [] i d = refl
set-out (x ∷ v) zero d = refl
set-out (x ∷ v) (suc i) d = ap (λ (w : List Counts). x ∷ w) (set-out v i d)

set-beside : (v : List Counts) (i j : ℕ) (d : Counts) → (j ≡ i → ⊥) → without i (slice_set v j d) ≡ slice_set (without i v) (beside i j) d
set-beside [] i j d out = refl
set-beside (x ∷ v) zero zero d out = absurd (out refl)
set-beside (x ∷ v) zero (suc j) d out = refl
set-beside (x ∷ v) (suc i) zero d out = refl
set-beside (x ∷ v) (suc i) (suc j) d out = ap (λ (w : List Counts). x ∷ w) (set-beside v i j d (λ e. out (ap suc e)))

at-beside : (v : List Counts) (i j : ℕ) (c : Counts) → j < length v → i < length v → (j ≡ i → ⊥) → (beside i j < length (without i v)) × (slice_index_or (without i v) (beside i j) c ≡ slice_index_or v j c)
at-beside [] i j c low in_v out = absurd (omega arith)
at-beside (x ∷ v) zero zero c low in_v out = absurd (out refl)
at-beside (x ∷ v) zero (suc j) c low in_v out = (omega arith, refl)
at-beside (x ∷ v) (suc i) zero c low in_v out = (omega arith, refl)
at-beside (x ∷ v) (suc i) (suc j) c low in_v out = let r = at-beside v i j c (omega arith) (omega arith) (λ e. out (ap suc e)) in (omega (arith, r.0), r.1)

pub all-set : (g : Geometry) (sorts : ℕ → Sort) (x : Sort) (p : ℕ) → is_entry_page g p ≡ true → all_by g (with_sort p x sorts) ≡ slice_set (all_by g sorts) (block_of g p) (counts_by g (with_sort p x sorts) (block_of g p))
unfolding all_by
all-set g sorts x p page =
    map-set (counts_by g sorts) (counts_by g (with_sort p x sorts)) 0 g.blocks (block_of g p) (block_number g p (page_number g p page))
    (λ b from to out. other_sorts_stay g sorts x p b page (omega arith) (λ e. out (omega (arith, e))))
    ∙ ap (λ (b : ℕ). slice_set (map (counts_by g sorts) (range_with_len 0 g.blocks)) (block_of g p) (counts_by g (with_sort p x sorts) b)) (omega arith)

pub sorts_at_block : (g : Geometry) → SortsAtBlock g
sorts_at_block g sorts x p page = ap (without (block_of g p)) (all-set g sorts x p page) ∙ set-out (all_by g sorts) (block_of g p) (counts_by g (with_sort p x sorts) (block_of g p))

pub sorts_beside : (g : Geometry) → SortsBeside g
sorts_beside g sorts x p block page low out =
    ap (without block) (all-set g sorts x p page) ∙ set-beside (all_by g sorts) block (block_of g p) (counts_by g (with_sort p x sorts) (block_of g p)) out

pub blocks_beside : (g : Geometry) → BlocksBeside g
unfolding all_by
blocks_beside g sorts block other low there out =
    let size = length-map-range_with_len (counts_by g sorts) 0 g.blocks in
    let r = at-beside (all_by g sorts) block other (counts_by g sorts other) (omega (arith, size, there)) (omega (arith, size, low)) out in
    record { within = r.0; at = r.1 ∙ get_or-map-range_with_len (counts_by g sorts) 0 g.blocks other other (counts_by g sorts other) there (omega arith) }

pub place_can_put : (g : Geometry) → PlaceCanPut g
place_can_put g sorts block k to low place =
    let there = blocks_beside g sorts block (block_of g to) low (block_number g to (page_number g to place.entry)) place.apart in
    record { within = there.within; at = there.at; place = (sorts_are_counted g sorts to place.entry).free place.free; rule = place.rule }
