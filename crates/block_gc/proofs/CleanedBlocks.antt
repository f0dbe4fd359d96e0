-- Cleaning a block, over plain images.
use Rattle.std.proofs.Common.{◌≡◌, ℕ, ◌+◌, ◌*◌, ◌<◌, ◌≤◌, ◌⊎◌, ⊎_elim, inl, inr, List, true, false, Some, None, refl, sym, ◌∙◌, ap, subst, arith}
use Rattle.std.specs.Prelude.{Option, max, length}
use Rattle.std.proofs.Math.Path.{fun_ext}
use Rattle.std.proofs.lemmas.Bool.{cases_lt, false_from_ne_true}
use Rattle.geometry.specs.declared.geometry.Geometry.{Geometry}
use Rattle.geometry.specs.Numbers.{per_block, lookups, entries, page_count}
use Rattle.image_model.specs.Within.{page_number, entry_in}
use Rattle.image_model.specs.Live.{Live, live_at, own}
use Rattle.image_model.specs.Places.{IsImage, block_of, erase_count, next_count, has_magic}
use Rattle.image_model.specs.Tidy.{IsTidy, is_free_block}
use Rattle.image_model.specs.Collect.{deleted_in, free_in, is_worth}
use Rattle.image_laws.proofs.Frames.{live_parts, table_of-same}
use Rattle.image_laws.proofs.Matching.{filter-none_in}
use Rattle.image_laws.proofs.Sounding.{keeps-on}
use Rattle.renew_laws.proofs.TailSteps.{tail-stays}
use Rattle.trim_laws.specs.Wear.{SameWear}
use Rattle.trim_laws.proofs.NextCounts.{next_same}
use Rattle.trim_laws.proofs.Trims.{block_trims}
use Rattle.trim_laws.proofs.Wears.{fresh_wears, fresh_worn}
use Rattle.flash_view.specs.Steps.{Begins, Finishes, acting, any_image}
use Rattle.flash_view.specs.declared.counts.BlockCounts.{BlockCounts}
use Rattle.flash_view.specs.Counts.{AreCounts}
use Rattle.free_search.proofs.Beside.{free_magic}
use Rattle.free_search.proofs.FreePages.{free_counted}
use Rattle.room_laws.specs.Sorts.{Sort, Index, Data, Deleted, Free, same_sort, sort_at, counts_by}
use Rattle.room_laws.specs.Recovery.{IsBetween, IsEmptied, MayCut, Recovers, batch_most}
use Rattle.room_laws.proofs.Blocks.{told}
use Rattle.room_laws.proofs.Carried.{begins_between, fits_has_places}
use Rattle.room_laws.proofs.CleanedImages.{emptied_has_cleaned}
use Rattle.room_laws.proofs.Blocks.{free_told}
use Rattle.room_laws.proofs.FreshMends.{fresh_way_mends}
use Rattle.room_laws.proofs.Recounts.{fresh_erases}
use Rattle.room_laws.proofs.Recovering.{still_mends}
use Rattle.room_laws.proofs.Resolved.{dead_sort}
use Rattle.room_laws.proofs.Sorted.{tidy_tells_free}
use Rattle.page_put.specs.Fresh.{Freshens, IsFresh}
use Rattle.block_gc.specs.Turns.{CanEmpty, Emptied, emptying}
use Rattle.block_gc.specs.Cleanings.{CanCleanBlock, CleanCut, CleanedBlock, cleaning_block}
use Rattle.block_gc.proofs.Freshened.{fresh_keeps, fresh_live, fresh_tidy}
use Rattle.block_gc.proofs.IndexOut.{still, turn_stays}

-- a free block isn't worth cleaning
pub worth_used : (g : Geometry) (a : List ℕ) (block : ℕ) → IsTidy g a → block < g.blocks → is_worth g a block ≡ true → is_free_block g a block ≡ false
unfolding is_worth
worth_used g a block t low worth = false_from_ne_true _ (λ free.
    let none = free_told g a block (told g a t block low) free in
    let bad : false ≡ true = rw (none.1, free) at worth in absurd (cc))

-- ---- before a page is moved

pub can_empty : (g : Geometry) (a : List ℕ) (block : ℕ) → block < g.blocks → CanCleanBlock g a block → CanEmpty g a block
can_empty g a block low can = record { tidy = can.tidy; places = fits_has_places g a block can.tidy low can.fits }

-- the longest batch is as long as it may be at most
pub longest : (g : Geometry) (a : List ℕ) (block most : ℕ) (c : BlockCounts) → IsTidy g a → block < g.blocks → AreCounts g a block c → most ≡ max 1 (c.deleted + c.free) → most ≤ batch_most g a block
longest g a block most c t low counts is =
    let deleted : c.deleted ≡ deleted_in g a block = counts.deleted in
    let free : c.free ≡ free_in g a block = counts.free ∙ free_counted g a block (tidy_tells_free g a t) low in
    omega (arith, is, deleted, free)

pub clean_stays : (g : Geometry) (a : List ℕ) (block : ℕ) → IsImage g a → block < g.blocks → CanCleanBlock g a block → CleanCut g block a a
clean_stays g a block is low can =
    let stays = turn_stays g a block 0 is (can_empty g a block low can) in
    record { keeps = stays.keeps; mends = λ may. stays.mends a may (omega arith) (begins_between g a block is can.tidy low) }

pub empties : (g : Geometry) (a : List ℕ) (block most : ℕ) → IsImage g a → block < g.blocks → most ≤ batch_most g a block → CanCleanBlock g a block → Begins g a (emptying block most) (cleaning_block block)
empties g a block most is low few can = record {
  needs = can_empty g a block low can;
  cut = λ c cut. record { keeps = cut.keeps; mends = λ may. cut.mends a may few (begins_between g a block is can.tidy low) };
}

-- ---- the emptied block is made fresh

not_same : (sort other : Sort) → same_sort Deleted other ≡ false → same_sort Free other ≡ false → (sort ≡ Deleted) ⊎ (sort ≡ Free) → same_sort sort other ≡ false
not_same sort other x y is = ⊎_elim (λ (d : sort ≡ Deleted). ap (λ (s : Sort). same_sort s other) d ∙ x) (λ (f : sort ≡ Free). ap (λ (s : Sort). same_sort s other) f ∙ y) is

-- where no page of a block is live it counts none
is_emptied : (g : Geometry) (b : List ℕ) (block : ℕ) → block < g.blocks → ((q : ℕ) → block_of g q ≡ block → live_at g b q ≡ None) → IsEmptied g (sort_at g b) block
unfolding counts_by
is_emptied g b block low dead = record {
  index = filter-none_in (λ p. same_sort (sort_at g b p) Index) (block * per_block g + lookups g) (entries g) (λ q from to. not_same (sort_at g b q) Index refl refl (dead_sort g b q (dead q (entry_in g block q low from to).0)));
  pages = filter-none_in (λ p. same_sort (sort_at g b p) Data) (block * per_block g + lookups g) (entries g) (λ q from to. not_same (sort_at g b q) Data refl refl (dead_sort g b q (dead q (entry_in g block q low from to).0)));
}

module _ (g : Geometry) (a b : List ℕ) (block count : ℕ) (is_a : IsImage g a) (is_b : IsImage g b) (low : block < g.blocks) (next : count ≡ next_count g a) (can : CanCleanBlock g a block) (empty : Emptied g block (page_count g) a b) where
  dead : (q : ℕ) → block_of g q ≡ block → live_at g b q ≡ None
  dead q here = ⊎_elim (λ (below : q < page_count g). empty.gone q here below) (λ (high : page_count g ≤ q). none (live_at g b q) refl high) (cases_lt q (page_count g))
    where
      none : (o : Option (List ℕ)) → live_at g b q ≡ o → page_count g ≤ q → live_at g b q ≡ None
      none None e high = e
      none (Some x) e high = let below = page_number g q (live_parts g b q x e).entry_page in absurd (omega (arith, below, high))

  between : IsBetween g a block b
  between = empty.between a (begins_between g a block is_a can.tidy low)

  emptied : IsEmptied g (sort_at g b) block
  emptied = is_emptied g b block low dead

  -- a change inside the block leaves an image
  image_of : (x : List ℕ) → length x ≡ length b → IsImage g x
  image_of x size = record { len = let whole = is_b.len in omega (arith, size, whole) }

  fresh_mends : (x : List ℕ) → Freshens g block count b x → MayCut g a block → Recovers g x
  fresh_mends x cut may = ⊎_elim
      (λ (same : x ≡ b). subst (λ (l : List ℕ). Recovers g l) (sym same) (still_mends g a b b block may between (still g b is_b)))
      (λ (state : (has_magic g x block ≡ false) ⊎ (is_free_block g x block ≡ true)).
      fresh_way_mends g a b x block may between emptied (image_of x cut.outside.size) (fresh_keeps g block b empty.can.tidy dead is_b count x cut).table cut.outside state)
      cut.state

  cleaned : (c : List ℕ) → IsFresh g block count b c → CleanedBlock g block a c
  cleaned c fresh = record {
    cleaned = emptied_has_cleaned g a b c block low is_a can.tidy between emptied (image_of c fresh.outside.size) (fresh_tidy g block b empty.can.tidy dead count c fresh)
        (table_of-same g c b (fresh_live g block b empty.can.tidy dead count c fresh)) fresh.outside fresh.free;
    count = fresh.count ∙ next;
    others = λ d inside out. fresh_erases g b c block fresh.outside d out ∙ empty.counts d inside;
    tails = λ id ready. tail-stays g b c id (ap (λ (live : Live). own live id) (fun_ext (fresh_live g block b empty.can.tidy dead count c fresh))) (empty.tails id ready);
  }

  -- the count is the next one still
  still_next : count ≡ next_count g b
  still_next =
      let same : SameWear g a b = record { magic = λ d inside. empty.can.tidy.magic d inside ∙ sym (can.tidy.magic d inside); count = λ d inside has. empty.counts d inside } in
      next ∙ sym (next_same g a b same)

  pub freshens : Finishes g a b (acting any_image (λ h. Freshens h block count) (λ h. IsFresh h block count)) (cleaning_block block)
  freshens = record {
    needs = (
      tt,
      (λ c cut. record {
        trims = block_trims g b c block cut.outside cut.dead;
        wears = fresh_wears g b c block low cut.outside (λ has. ⊎_elim (λ (same : c ≡ b). inl same) (λ (e : erase_count g c block ≡ count). inr (e ∙ still_next)) (cut.counts has));
      }),
      λ c fresh. fresh_worn g b c block low fresh.outside (free_magic g c block fresh.free) (fresh.count ∙ still_next),
    );
    cut = λ c cut. record { keeps = keeps-on g a b c empty.keeps (fresh_keeps g block b empty.can.tidy dead is_b count c cut); mends = fresh_mends c cut };
    done = λ c ok fresh. cleaned c fresh;
  }
