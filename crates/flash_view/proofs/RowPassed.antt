-- Blocks without a page that a walk looks for, by their rows.
use Rattle.std.proofs.Common.{◌≡◌, ℕ, zero, suc, ◌+◌, ◌*◌, ◌<◌, ◌≤◌, ◌==◌, ◌||◌, nat_lt, nat_le, not, Bool, true, false, List, length, sym, subst, refl, ◌∙◌, arith, ⊎_elim}
use Rattle.std.specs.Prelude.{Some, filter}
use Rattle.std.specs.List.{range_with_len}
use Rattle.std.proofs.lemmas.Bool.{cases_Bool, cases_eq, and_parts, eqb-true}
use Rattle.std.proofs.lemmas.Bool.Decides.{nat_tests}
use Rattle.geometry.specs.declared.geometry.Geometry.{Geometry}
use Rattle.geometry.specs.Numbers.{per_block, lookups, entries}
use Rattle.nor_core.specs.declared.state.NorState.{Ghosts as NorOf}
use Rattle.page_layout.specs.Layout.{is_between}
use Rattle.image_model.specs.Headers.{obj_id, names_index}
use Rattle.image_model.specs.Places.{page_of}
use Rattle.image_model.specs.Kinds.{is_index_page, is_data_page}
use Rattle.image_model.specs.Live.{live_at}
use Rattle.image_model.specs.Collect.{index_in, data_in}
use Rattle.image_laws.proofs.Frames.{live_parts}
use Rattle.flash_view.specs.Counts.{AreCounts}
use Rattle.flash_view.specs.Table.{row_of, has_none, IsTable, HasTable}
use Rattle.flash_view.specs.Walk.{IsPassed, ArePassed}
use Rattle.flash_view.proofs.Passed.{live_here}
use Rattle.flash_view.proofs.Walking.{found_block}

-- where nothing of a range passes a test no number of it does
none_passes : (test : ℕ → Bool) (a n : ℕ) → length (filter test (range_with_len a n)) ≡ 0 → (q : ℕ) → a ≤ q → q < a + n → test q ≡ false
none_passes test a zero none q low high = absurd (omega (arith, low, high))
none_passes test a (suc n) none q low high = ⊎_elim
    (λ (yes : test a ≡ true). let some : suc (length (filter test (range_with_len (a + 1) n))) ≡ 0 = rw yes at none in absurd (omega (arith, some)))
    (λ (no : test a ≡ false). ⊎_elim
    (λ (here : a ≡ q). subst (λ (k : ℕ). test k ≡ false) here no)
    (λ (there : a ≡ q → ⊥). none_passes test (a + 1) n (rw no at none) q (omega (arith, low, there)) (omega (arith, high)))
    (cases_eq a q))
    (cases_Bool (test a))

-- a data page isn't live with an entry of index pages, nor an index page with one of data pages
no_index : (page : List ℕ) (low high : ℕ) → names_index page ≡ false → nat_le 0x8000 low ≡ true → is_between low high (obj_id page) ≡ false
no_index page low high none range = grind (arith, nat_tests)

no_data : (page : List ℕ) (low high : ℕ) → names_index page ≡ true → nat_lt high 0x8000 ≡ true → is_between low high (obj_id page) ≡ false
no_data page low high none range = grind (arith, nat_tests)

module _ (g : Geometry) (image rows : List ℕ) (table : IsTable g image rows) (block : ℕ) (inside : block < g.blocks) (low high : ℕ) where
  -- the page of entry i of the block, in the image
  abbrev place : ℕ → ℕ
  place i = block * per_block g + lookups g + i

  counted : AreCounts g image block (row_of rows block)
  counted = table.counts block inside

  -- where the row counts no index page none of its pages is one, and none is a data page where it counts none of these
  without_index : (row_of rows block).index_live ≡ 0 → (i : ℕ) → i < entries g → is_index_page (live_at g image (place i)) ≡ false
  unfolding index_in
  without_index none i few = none_passes (λ p. is_index_page (live_at g image p)) (block * per_block g + lookups g) (entries g) (sym counted.index ∙ none) (place i) (omega arith) (omega (arith, few))

  without_data : (row_of rows block).data_live ≡ 0 → (i : ℕ) → i < entries g → is_data_page (live_at g image (place i)) ≡ false
  unfolding data_in
  without_data none i few = none_passes (λ p. is_data_page (live_at g image p)) (block * per_block g + lookups g) (entries g) (sym counted.pages ∙ none) (place i) (omega arith) (omega (arith, few))

  pass : (i : ℕ) → i < entries g → ((page : List ℕ) → live_at g image (place i) ≡ Some page → is_between low high (obj_id page) ≡ false) → IsPassed g image low high (place i)
  pass i few none = record {
    word = λ is. counted.words (place i) is (sym (found_block g block i (place i) few refl));
    none = λ live.
        let page = live_here g image (place i) live in
        rw (live_parts g image (place i) (page_of g image (place i)) page).entry (none (page_of g image (place i)) page);
  }

  -- an index page is counted, and so is a data page
  some_index : (i : ℕ) → i < entries g → (page : List ℕ) → live_at g image (place i) ≡ Some page → names_index page ≡ true → ((row_of rows block).index_live == 0) ≡ false
  some_index i few page e index = ⊎_elim
      (λ (none : ((row_of rows block).index_live == 0) ≡ true).
      let dead = without_index (eqb-true (row_of rows block).index_live 0 none) i few in
      let no : names_index page ≡ false = rw e at dead in
      absurd (cc))
      (λ (some : ((row_of rows block).index_live == 0) ≡ false). some)
      (cases_Bool ((row_of rows block).index_live == 0))

  some_data : (i : ℕ) → i < entries g → (page : List ℕ) → live_at g image (place i) ≡ Some page → names_index page ≡ false → ((row_of rows block).data_live == 0) ≡ false
  some_data i few page e other = ⊎_elim
      (λ (none : ((row_of rows block).data_live == 0) ≡ true).
      let dead = without_data (eqb-true (row_of rows block).data_live 0 none) i few in
      let no : not (names_index page) ≡ false = rw e at dead in
      let yes : not (names_index page) ≡ true = rw other refl in
      absurd (cc))
      (λ (some : ((row_of rows block).data_live == 0) ≡ false). some)
      (cases_Bool ((row_of rows block).data_live == 0))

  -- a block is passed over where its row tells that it has no page of the kinds that are looked for
  pub row_passed : has_none (row_of rows block) low high ≡ true → ArePassed g image block 0 low high
  row_passed none i after few =
      let parts = and_parts (((row_of rows block).index_live == 0) || nat_lt high 0x8000) (((row_of rows block).data_live == 0) || nat_le 0x8000 low) none in
      pass i few (λ page e. ⊎_elim
      (λ (index : names_index page ≡ true). no_data page low high index (rw (some_index i few page e index) at parts.0))
      (λ (other : names_index page ≡ false). no_index page low high other (rw (some_data i few page e other) at parts.1))
      (cases_Bool (names_index page)))

-- the same where the table stands
module _ {N : Type 0} {nor : NorOf N} where
  pub table_passed : (g : Geometry) (device : N) (rows : List ℕ) (block low high : ℕ) → HasTable nor g device rows → nor.tells device → block < g.blocks → has_none (row_of rows block) low high ≡ true → ArePassed g (nor.bytes device) block 0 low high
  table_passed g device rows block low high table tells inside none = row_passed g (nor.bytes device) rows (table.told tells) block inside low high none
