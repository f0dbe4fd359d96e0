-- The rows of a table after programs in a page and in its entry, and after a block was made fresh.
use Rattle.std.proofs.Common.{◌≡◌, ◌≢◌, ℕ, ◌+◌, ◌-◌, ◌*◌, ◌<◌, ◌≤◌, ◌⊎◌, ◌==◌, List, length, true, false, refl, sym, ◌∙◌, ap, subst, arith, cond, ⊎_elim}
use Rattle.std.proofs.lemmas.Bool.{cases_eq, and_parts, eqb-true}
use Rattle.std.specs.Prelude.{Option, Some, None, if◌then◌else◌, Bool}
use Rattle.geometry.specs.declared.geometry.Geometry.{Geometry}
use Rattle.geometry.specs.Numbers.{entries}
use Rattle.geometry.proofs.Bounds.{few_entries, few_in_block}
use Rattle.image_model.specs.Headers.{names_index}
use Rattle.image_model.specs.Live.{live_at}
use Rattle.image_model.specs.Places.{entry_of, erase_count, block_of, is_entry_page}
use Rattle.image_model.specs.Tidy.{TellsFree, is_free_entry}
use Rattle.image_model.specs.Collect.{index_in, data_in, deleted_in}
use Rattle.image_model.specs.Within.{page_number, block_number}
use Rattle.image_laws.specs.TidySteps.{Agree}
use Rattle.room_laws.specs.Sorts.{SortIsCounted, same_sort, sort_at as law_sort_at, sort_of_page as law_sort_of_page}
use Rattle.room_laws.specs.Sorts.{Sort as LawSort, Index as LawIndex, Data as LawData, Deleted as LawDeleted, Free as LawFree}
use Rattle.room_laws.specs.Recounting.{CountsAreSorts, ones_in}
use Rattle.room_laws.proofs.Sorted.{sorts_are_counted, sorts_are_whole}
use Rattle.room_laws.proofs.Recounts.{counts_are_sorts, recounted_here, recounted_beside, tells_free_still, fresh_here, fresh_beside, fresh_erases, tells_free_fresh}
use Rattle.room_laws.proofs.FreshMends.{in_free}
use Rattle.room_laws.proofs.Outside.{others_stay}
use Rattle.flash_view.specs.declared.counts.BlockCounts.{BlockCounts}
use Rattle.flash_view.specs.declared.counts.Sort.{Sort}
use Rattle.flash_view.specs.declared.counts.Sort.TheVariants.{Index, Data, Deleted, Free}
use Rattle.flash_view.specs.Counts.{sort_at, sort_of_page, one_more, one_less, total_of, AreCounts}
use Rattle.flash_view.specs.Table.{row_of, IsTable, IsSummed}
use Rattle.page_put.specs.Fresh.{IsFresh}
use Rattle.page_put.specs.Recount.{WasCounted, WasFreshened}

-- ---- sorts, as the laws name them

abbrev law_sort : Sort → LawSort
law_sort Index = LawIndex
law_sort Data = LawData
law_sort Deleted = LawDeleted
law_sort Free = LawFree

law_of_page : (o : Option (List ℕ)) → law_sort (sort_of_page o) ≡ law_sort_of_page o
law_of_page None = refl
law_of_page (Some page) = by (names_index page)
  where
    by : (index : Bool) → law_sort (if index then Index else Data) ≡ (if index then LawIndex else LawData)
    by true = refl
    by false = refl

law_at : (g : Geometry) (image : List ℕ) (p : ℕ) → law_sort (sort_at g image p) ≡ law_sort_at g image p
unfolding sort_at law_sort_at
law_at g image p = by (entry_of g image p == 0xFFFF)
  where
    by : (free : Bool) → law_sort (if free then Free else sort_of_page (live_at g image p)) ≡ (if free then LawFree else law_sort_of_page (live_at g image p))
    by true = refl
    by false = law_of_page (live_at g image p)

-- 1 where they are one, else 0
abbrev is_one : Sort → LawSort → ℕ
is_one s t = cond (same_sort (law_sort s) t) 1 0

-- ---- one entry less and one more

record Lessened (s : Sort) (c d : BlockCounts) : Type 0 where
  index : d.index_live ≡ c.index_live - is_one s LawIndex
  pages : d.data_live ≡ c.data_live - is_one s LawData
  deleted : d.deleted ≡ c.deleted - is_one s LawDeleted
  free : d.free ≡ c.free - is_one s LawFree
  erases : d.erases ≡ c.erases

lessened : (s : Sort) (c : BlockCounts) → Lessened s c (one_less c s)
lessened Index c = record { index = refl; pages = omega arith; deleted = omega arith; free = omega arith; erases = refl }
lessened Data c = record { index = omega arith; pages = refl; deleted = omega arith; free = omega arith; erases = refl }
lessened Deleted c = record { index = omega arith; pages = omega arith; deleted = refl; free = omega arith; erases = refl }
lessened Free c = record { index = omega arith; pages = omega arith; deleted = omega arith; free = refl; erases = refl }

record Raised (s : Sort) (c d : BlockCounts) : Type 0 where
  index : d.index_live ≡ c.index_live + is_one s LawIndex
  pages : d.data_live ≡ c.data_live + is_one s LawData
  deleted : d.deleted ≡ c.deleted + is_one s LawDeleted
  free : d.free ≡ c.free + is_one s LawFree
  erases : d.erases ≡ c.erases

raised : (s : Sort) (c : BlockCounts) → Raised s c (one_more c s)
raised Index c = record { index = refl; pages = omega arith; deleted = omega arith; free = omega arith; erases = refl }
raised Data c = record { index = omega arith; pages = refl; deleted = omega arith; free = omega arith; erases = refl }
raised Deleted c = record { index = omega arith; pages = omega arith; deleted = refl; free = omega arith; erases = refl }
raised Free c = record { index = omega arith; pages = omega arith; deleted = omega arith; free = refl; erases = refl }

module _ (g : Geometry) where
  -- what a page counts as is counted in its block
  record Counted (image : List ℕ) (p : ℕ) (s : Sort) : Type 0 where
    index : is_one s LawIndex ≤ index_in g image (block_of g p)
    pages : is_one s LawData ≤ data_in g image (block_of g p)
    deleted : is_one s LawDeleted ≤ deleted_in g image (block_of g p)
    free : is_one s LawFree ≤ ones_in g image (block_of g p)

  counted : (image : List ℕ) (p : ℕ) (s : Sort) → is_entry_page g p ≡ true → s ≡ sort_at g image p → Counted image p s
  counted image p s page is = by s (sym (law_at g image p) ∙ ap law_sort (sym is))
    where
      sorts : CountsAreSorts g image (block_of g p)
      sorts = counts_are_sorts g image (block_of g p) (block_number g p (page_number g p page))

      single : SortIsCounted g (law_sort_at g image) p
      single = sorts_are_counted g (law_sort_at g image) p page

      by : (s : Sort) → law_sort_at g image p ≡ law_sort s → Counted image p s
      by Index law = let some = single.index law in record { index = omega (arith, some, sorts.index); pages = omega arith; deleted = omega arith; free = omega arith }
      by Data law = let some = single.pages law in record { index = omega arith; pages = omega (arith, some, sorts.pages); deleted = omega arith; free = omega arith }
      by Deleted law = let some = single.deleted law in record { index = omega arith; pages = omega arith; deleted = omega (arith, some, sorts.deleted); free = omega arith }
      by Free law = let some = single.free law in record { index = omega arith; pages = omega arith; deleted = omega arith; free = omega (arith, some, sorts.free) }

  -- a block counts each of its entries once
  counted_all : (image : List ℕ) (block : ℕ) (c : BlockCounts) → block < g.blocks → AreCounts g image block c → total_of c ≡ entries g
  counted_all image block c low had =
      let sorts = counts_are_sorts g image block low in
      let whole = sorts_are_whole g (law_sort_at g image) block in
      omega (arith, had.index, had.pages, had.deleted, had.free, sorts.index, sorts.pages, sorts.deleted, sorts.free, whole)

  -- so beside one of them there are fewer than a word may count
  pub fewer_beside : (p : ℕ) → is_entry_page g p ≡ true → (before : Sort) (rows now : List ℕ) → WasCounted g p before rows now → total_of (one_less (row_of rows (block_of g p)) before) < 65535
  fewer_beside p page before rows now w = by before (counted w.was p before page w.sort)
    where
      low : block_of g p < g.blocks
      low = block_number g p (page_number g p page)

      had : AreCounts g w.was (block_of g p) (row_of rows (block_of g p))
      had = w.table.counts (block_of g p) low

      most : total_of (row_of rows (block_of g p)) ≤ 65535
      most = let all = counted_all w.was (block_of g p) (row_of rows (block_of g p)) low had in omega (arith, all, few_entries g, few_in_block g)

      by : (s : Sort) → Counted w.was p s → total_of (one_less (row_of rows (block_of g p)) s) < 65535
      by Index some = omega (arith, most, had.index, some.index)
      by Data some = omega (arith, most, had.pages, some.pages)
      by Deleted some = omega (arith, most, had.deleted, some.deleted)
      by Free some = omega (arith, most, had.free, some.free)

  -- one entry less and one more of the sort that a page counts as is what there was
  pub one_again : (image : List ℕ) (p : ℕ) (s : Sort) (rows : List ℕ) → is_entry_page g p ≡ true → IsTable g image rows → s ≡ sort_at g image p → one_more (one_less (row_of rows (block_of g p)) s) s ≡ row_of rows (block_of g p)
  one_again image p s rows page table is = by s (counted image p s page is)
    where
      had : AreCounts g image (block_of g p) (row_of rows (block_of g p))
      had = table.counts (block_of g p) (block_number g p (page_number g p page))

      row : BlockCounts
      row = row_of rows (block_of g p)

      by : (s : Sort) → Counted image p s → one_more (one_less row s) s ≡ row
      by Index some = let e : row.index_live - 1 + 1 ≡ row.index_live = omega (arith, had.index, some.index) in rw e refl
      by Data some = let e : row.data_live - 1 + 1 ≡ row.data_live = omega (arith, had.pages, some.pages) in rw e refl
      by Deleted some = let e : row.deleted - 1 + 1 ≡ row.deleted = omega (arith, had.deleted, some.deleted) in rw e refl
      by Free some = let e : row.free - 1 + 1 ≡ row.free = omega (arith, had.free, some.free) in rw e refl

  -- ---- the table once a page's entry counts otherwise

  module _ (p : ℕ) (page : is_entry_page g p ≡ true) (before after : Sort) (rows now : List ℕ) (w : WasCounted g p before rows now) (is : after ≡ sort_at g now p) (word : entry_of g now p < 0x10000) where
    -- other entries are numbers of two bytes, as before
    other_word : (c : ℕ) (r : BlockCounts) → AreCounts g w.was c r → (q : ℕ) → is_entry_page g q ≡ true → block_of g q ≡ c → q ≢ p → entry_of g now q < 0x10000
    other_word c r had q is at out = subst (λ (n : ℕ). n < 0x10000) (sym (w.only.agree.entry q is out)) (had.words q is at)

    -- the counts of the page's block
    here : (c : BlockCounts) → AreCounts g w.was (block_of g p) c → AreCounts g now (block_of g p) (one_more (one_less c before) after)
    here c had =
        let low = block_number g p (page_number g p page) in
        let h = recounted_here g w.was now p w.only.agree page in
        let some = counted w.was p before page w.sort in
        let l = lessened before c in
        let m = raised after (one_less c before) in
        let old : law_sort_at g w.was p ≡ law_sort before = sym (law_at g w.was p) ∙ ap law_sort (sym w.sort) in
        let new : law_sort_at g now p ≡ law_sort after = sym (law_at g now p) ∙ ap law_sort (sym is) in
        let index = rw (old, new) at h.index in
        let pages = rw (old, new) at h.pages in
        let deleted = rw (old, new) at h.deleted in
        let free = rw (old, new) at h.free in
        record {
          index = omega (arith, m.index, l.index, had.index, index, some.index);
          pages = omega (arith, m.pages, l.pages, had.pages, pages, some.pages);
          deleted = omega (arith, m.deleted, l.deleted, had.deleted, deleted, some.deleted);
          free = omega (arith, m.free, l.free, had.free, free, some.free);
          erases = m.erases ∙ l.erases ∙ had.erases ∙ sym (w.only.erases (block_of g p) low);
          words = λ q is at. ⊎_elim
              (λ (same : q ≡ p). subst (λ (k : ℕ). entry_of g now k < 0x10000) (sym same) word)
              (λ (out : q ≢ p). other_word (block_of g p) c had q is at out)
              (cases_eq q p);
        }

    -- those of all others
    beside : (c : ℕ) (r : BlockCounts) → c < g.blocks → c ≢ block_of g p → AreCounts g w.was c r → AreCounts g now c r
    beside c r low out had =
        let b = recounted_beside g w.was now p w.only.agree c low out in
        record {
          index = had.index ∙ sym b.index;
          pages = had.pages ∙ sym b.pages;
          deleted = had.deleted ∙ sym b.deleted;
          free = had.free ∙ sym b.free;
          erases = had.erases ∙ sym (w.only.erases c low);
          words = λ q is at. other_word c r had q is at (λ same. out (sym at ∙ ap (λ (k : ℕ). block_of g k) same));
        }

    pub table_moves : entry_of g now p ≢ 0xFFFF → (rows' : List ℕ) → row_of rows' (block_of g p) ≡ one_more (one_less (row_of rows (block_of g p)) before) after → ((c : ℕ) → c ≢ block_of g p → row_of rows' c ≡ row_of rows c) → (IsSummed g rows → IsSummed g rows') → IsTable g now rows'
    table_moves used rows' own others summed = record {
      summed = summed w.table.summed;
      clear = tells_free_still g w.was now p w.table.clear w.only.agree page used;
      counts = λ c low. ⊎_elim
          (λ (same : c ≡ block_of g p). subst (λ (k : ℕ). AreCounts g now k (row_of rows' k)) (sym same) (rw own (here (row_of rows (block_of g p)) (subst (λ (k : ℕ). AreCounts g w.was k (row_of rows k)) same (w.table.counts c low)))))
          (λ (out : c ≢ block_of g p). rw (others c out) (beside c (row_of rows c) low out (w.table.counts c low)))
          (cases_eq c (block_of g p));
    }

  -- ---- the table once a block was made fresh

  -- a free entry is a number of two bytes
  free_is_word : (image : List ℕ) (p : ℕ) → is_free_entry g image p ≡ true → entry_of g image p < 0x10000
  free_is_word image p free = let ones = eqb-true _ 0xFFFF (and_parts (entry_of g image p == 0xFFFF) _ free).0 in omega (arith, ones)

  pub table_freshens : (block count : ℕ) (rows rows' now : List ℕ) → block < g.blocks → WasFreshened g block count rows now →
      row_of rows' block ≡ record { index_live = 0; data_live = 0; deleted = 0; free = entries g; erases = count } → ((c : ℕ) → c ≢ block → row_of rows' c ≡ row_of rows c) → (IsSummed g rows → IsSummed g rows') → IsTable g now rows'
  table_freshens block count rows rows' now inside w own others summed = record {
    summed = summed w.table.summed;
    clear = tells_free_fresh g w.was now block w.table.clear w.fresh.outside w.fresh.free;
    counts = λ c low. ⊎_elim
        (λ (same : c ≡ block).
        let f = fresh_here g now block inside w.fresh.free in
        subst (λ (k : ℕ). AreCounts g now k (row_of rows' k)) (sym same) (rw own (record { index = sym f.index; pages = sym f.pages; deleted = sym f.deleted; free = sym f.free; erases = sym w.fresh.count; words = λ p page at. free_is_word now p (in_free g now block p w.fresh.free page at) })))
        (λ (out : c ≢ block).
        let had = w.table.counts c low in
        let b = fresh_beside g w.was now block w.fresh.outside c low out in
        rw (others c out) (record {
          index = had.index ∙ sym b.index;
          pages = had.pages ∙ sym b.pages;
          deleted = had.deleted ∙ sym b.deleted;
          free = had.free ∙ sym b.free;
          erases = had.erases ∙ sym (fresh_erases g w.was now block w.fresh.outside c out);
          words = λ p page at. subst (λ (n : ℕ). n < 0x10000) (sym (others_stay g w.was now block p w.fresh.outside page (λ here. out (sym at ∙ here))).entry) (had.words p page at);
        }))
        (cases_eq c block);
  }
