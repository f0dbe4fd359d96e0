-- What is had by what entries count as, and what is had still once a page was put or changed in place.
use Rattle.std.proofs.Common.{◌≡◌, ℕ, ◌+◌, ◌<◌, ⊎_elim, inl, inr, List, length, true, false, cond, refl, sym, ◌∙◌, ap, arith, subst, slice_index_or, slice_set}
use Rattle.std.specs.Prelude.{All, Some, None, is_some, sum_by}
use Rattle.std.specs.List.{range_with_len}
use Rattle.std.proofs.lemmas.Bool.{cases_Bool, cases_eq, le-leb, leb-true, false_from_ne_true}
use Rattle.std.proofs.lemmas.List.Elements.{All-from_get_or}
use Rattle.std.proofs.lemmas.List.FromFn.{length-map-range_with_len, get_or-map-range_with_len}
use Rattle.std.proofs.lemmas.List.Sums.{length-filter}
use Rattle.geometry.specs.declared.geometry.Geometry.{Geometry}
use Rattle.geometry.specs.Numbers.{entries}
use Rattle.image_model.specs.Headers.{names_index}
use Rattle.image_model.specs.Places.{block_of, entry_of, is_entry_page}
use Rattle.image_model.specs.Live.{live_at}
use Rattle.image_model.specs.Kinds.{is_mixed, is_index_block, is_data_block}
use Rattle.image_model.specs.Tidy.{is_free_entry, is_free_block, is_wanted, free_blocks}
use Rattle.image_model.specs.Collect.{index_in, data_in, free_in, free_where, takes_index, takes_data, are_had}
use Rattle.image_model.specs.Within.{sizes, page_number, block_number}
use Rattle.image_laws.specs.LiveSteps.{PutDone}
use Rattle.image_laws.proofs.Frames.{live_parts, live-page_other}
use Rattle.image_laws.proofs.Matching.{sum-range}
use Rattle.image_laws.proofs.MixedBlocks.{mixed-tested}
use Rattle.image_laws.proofs.Tally.{is_finished-ones}
use Rattle.image_laws.proofs.TidySteps.{agree_page}
use Rattle.image_laws.proofs.Wants.{wanted_parts}
use Rattle.room_laws.specs.Counts.{Counts, IsBlock, Kind, unused, for_index, for_data, kind_of, if_same, if_kind}
use Rattle.room_laws.specs.Volume.{total, blocks_of, free_of}
use Rattle.room_laws.specs.Places.{HadWith}
use Rattle.room_laws.specs.Steps.{placed, CanPut}
use Rattle.room_laws.specs.Sorts.{sort_of_page, sort_at, counts_by, all_by, with_sort}
use Rattle.room_laws.specs.Taking.{takes_as}
use Rattle.room_laws.proofs.Blocks.{unlive}
use Rattle.room_laws.proofs.Carried.{put_sorts, agree_sort}
use Rattle.room_laws.proofs.HavePlaces.{need-less, had_puts_index, had_puts_data}
use Rattle.room_laws.proofs.Resolved.{live_sort, free_sort}
use Rattle.room_laws.proofs.Sorted.{counts_by_sorts, same_sorts, sorts_are_whole, sorts_change, sorts_are_counted, all-set}
use Rattle.room_laws.proofs.Taken.{kinds_are_tested}
use Rattle.room_laws.proofs.Tallies.{total_map, index_counted, pages_counted, free_counted, entries_pos}
use Rattle.flash_view.specs.declared.kinds.Kind.{Kind as PageKind}
use Rattle.flash_view.specs.declared.kinds.Kind.TheVariants.{Index as IndexPage, Data as DataPage}
use Rattle.free_search.specs.Free.{IsFreeFor, takes_kind}
use Rattle.free_search.specs.Had.{IsClear, TidyButIsClear, LessHad, PutHad, SameHad, InPlaceHad}
use Rattle.free_search.proofs.FreePages.{data_none, index_none}
use Rattle.free_search.proofs.Had.{sum_none}

-- ---- numbers by kinds

if_same-self : (k : Kind) (n : ℕ) → if_same k k n ≡ n
if_same-self unused n = refl
if_same-self for_index n = refl
if_same-self for_data n = refl

if_same-other : (k j : Kind) (n : ℕ) → (j ≡ k → ⊥) → if_same k j n ≡ 0
if_same-other unused unused n other = absurd (other refl)
if_same-other unused for_index n other = refl
if_same-other unused for_data n other = refl
if_same-other for_index unused n other = refl
if_same-other for_index for_index n other = absurd (other refl)
if_same-other for_index for_data n other = refl
if_same-other for_data unused n other = refl
if_same-other for_data for_index n other = refl
if_same-other for_data for_data n other = absurd (other refl)

-- ---- an image that is clear, by what its entries count as

module _ (g : Geometry) (image : List ℕ) (c : IsClear g image) where
  abbrev own : ℕ → Counts
  own b = counts_by g (sort_at g image) b

  abbrev every : List Counts
  every = all_by g (sort_at g image)

  apart : (b : ℕ) → is_data_block g image b ≡ true → b < g.blocks → is_index_block g image b ≡ false
  unfolding is_mixed
  apart b pages low = false_from_ne_true _ (λ index.
      let m = (mixed-tested g image b low).0 (rw (index, pages) refl) in
      let same : names_index m.x ≡ names_index m.y = c.unmixed m.p m.q m.x m.y m.p_is m.q_is (m.p_at ∙ sym m.q_at) in
      let bad : true ≡ false = sym m.names ∙ same ∙ m.holds in absurd (cc))

  is_block : (b : ℕ) → b < g.blocks → IsBlock (entries g) (own b)
  is_block b low =
      let pages : (own b).pages ≡ data_in g image b = ap (λ (d : Counts). d.pages) (sym (counts_by_sorts g image b c.tells low)) ∙ pages_counted g image b in
      let index : (own b).index ≡ index_in g image b = ap (λ (d : Counts). d.index) (sym (counts_by_sorts g image b c.tells low)) ∙ index_counted g image b in
      record {
        whole = sorts_are_whole g (sort_at g image) b;
        apart = λ some. ⊎_elim
            (λ (yes : is_data_block g image b ≡ true). index ∙ index_none g image b (apart b yes low))
            (λ (none : is_data_block g image b ≡ false). let zero_data = data_none g image b none in absurd (omega (arith, some, pages, zero_data)))
            (cases_Bool (is_data_block g image b));
      }

  count_all : length every ≡ g.blocks
  unfolding all_by
  count_all = length-map-range_with_len (counts_by g (sort_at g image)) 0 g.blocks

  at_block : (b : ℕ) (d : Counts) → b < g.blocks → slice_index_or every b d ≡ own b
  unfolding all_by
  at_block b d low = get_or-map-range_with_len (counts_by g (sort_at g image)) 0 g.blocks b b d low (omega arith)

  blocks : All (IsBlock (entries g)) every
  blocks = All-from_get_or (IsBlock (entries g)) every (own 0) (λ i low. let within : i < g.blocks = omega (arith, low, count_all) in subst (λ (d : Counts). IsBlock (entries g) d) (sym (at_block i (own 0) within)) (is_block i within))

  -- a number of each block's counts is a number of the block
  sum_at : (f : Counts → ℕ) (h : ℕ → ℕ) → ((b : ℕ) → b < g.blocks → f (own b) ≡ h b) → total f every ≡ sum_by h (range_with_len 0 g.blocks)
  unfolding all_by
  sum_at f h same = total_map f (counts_by g (sort_at g image)) (range_with_len 0 g.blocks) ∙ sum-range (λ (b : ℕ). f (own b)) h 0 g.blocks (λ q low high. same q (omega arith))

  of_kind : (k : Kind) (b n : ℕ) → b < g.blocks → if_kind k (own b) n ≡ cond (takes_as g image k b) n 0
  of_kind k b n low =
      let tested = kinds_are_tested g image b k c.tells low (is_block b low) in
      ⊎_elim
      (λ (yes : takes_as g image k b ≡ true). let same = tested.0 yes in rw (yes, same) (if_same-self k n))
      (λ (none : takes_as g image k b ≡ false). rw none (if_same-other k (kind_of (own b)) n (λ e. let bad : false ≡ true = sym none ∙ tested.1 e in absurd (cc))))
      (cases_Bool (takes_as g image k b))

  free_is : (b : ℕ) → b < g.blocks → (own b).free ≡ free_in g image b
  free_is b low = ap (λ (d : Counts). d.free) (sym (counts_by_sorts g image b c.tells low)) ∙ free_counted g image b

  unused_blocks : blocks_of unused every ≡ free_blocks g image
  unfolding blocks_of free_blocks
  unused_blocks = sum_at (λ d. if_kind unused d 1) (λ b. cond (is_free_block g image b) 1 0) (λ b low. of_kind unused b 1 low) ∙ sym (length-filter (λ b. is_free_block g image b) (range_with_len 0 g.blocks))

  index_free : free_of for_index every ≡ free_where g image (takes_index g image)
  unfolding free_of free_where
  index_free = sum_at (λ d. if_kind for_index d d.free) (λ b. cond (takes_index g image b) (free_in g image b) 0) (λ b low. of_kind for_index b (own b).free low ∙ ap (λ (n : ℕ). cond (takes_index g image b) n 0) (free_is b low))

  data_free : free_of for_data every ≡ free_where g image (takes_data g image)
  unfolding free_of free_where
  data_free = sum_at (λ d. if_kind for_data d d.free) (λ b. cond (takes_data g image b) (free_in g image b) 0) (λ b low. of_kind for_data b (own b).free low ∙ ap (λ (n : ℕ). cond (takes_data g image b) n 0) (free_is b low))

  pub had_to : (index pages : ℕ) → are_had g image index pages ≡ true → HadWith (entries g) every 2 index pages
  unfolding are_had
  had_to index pages had = rw (index_free, data_free, unused_blocks) (leb-true _ _ had)

  pub had_from : (index pages : ℕ) → HadWith (entries g) every 2 index pages → are_had g image index pages ≡ true
  unfolding are_had
  had_from index pages had = let told = rw (index_free, data_free, unused_blocks) at had in le-leb _ _ told

  -- no block has a free entry for a kind
  none_free : (k : Kind) → ((b : ℕ) → b < g.blocks → takes_as g image k b ≡ true → free_in g image b ≡ 0) → free_of k every ≡ 0
  unfolding free_of
  none_free k full =
      sum_at (λ d. if_kind k d d.free) (λ b. 0) (λ b low. of_kind k b (own b).free low ∙ ⊎_elim
      (λ (yes : takes_as g image k b ≡ true). rw yes (free_is b low ∙ full b low yes))
      (λ (none : takes_as g image k b ≡ false). rw none refl)
      (cases_Bool (takes_as g image k b)))
      ∙ sum_none (λ b. 0) 0 g.blocks (λ q low high. refl)

  -- a page that was found may be put
  module _ (kind : PageKind) (k : Kind) (same : (b : ℕ) → takes_kind g image kind b ≡ takes_as g image k b) (p : ℕ) (is : IsFreeFor g image kind 2 None p) where
    below : block_of g p < g.blocks
    below = block_number g p (page_number g p is.page)

    pub can_put : CanPut every k (block_of g p) (own (block_of g p))
    can_put = record {
      within = omega (arith, below, count_all);
      at = at_block (block_of g p) (own (block_of g p)) below;
      place = (sorts_are_counted g (sort_at g image) p is.page).free (free_sort g image p is.free);
      rule = ⊎_elim
          (λ (free : is_free_block g image (block_of g p) ≡ true). inr (
            (kinds_are_tested g image (block_of g p) unused c.tells below (is_block (block_of g p) below)).0 free,
            none_free k (λ b low takes. is.last free b low (λ e. absurd (cc)) (same b ∙ takes)),
          ))
          (λ (used : is_free_block g image (block_of g p) ≡ false). inl ((kinds_are_tested g image (block_of g p) k c.tells below (is_block (block_of g p) below)).0 (sym (same (block_of g p)) ∙ is.opened used)))
          (cases_Bool (is_free_block g image (block_of g p)));
    }

-- ---- the laws

pub tidy_but_is_clear : (g : Geometry) → TidyButIsClear g
unfolding is_wanted
tidy_but_is_clear g image beside t live = record {
  tells = record {
    magic = t.magic;
    free = λ p page ones. ⊎_elim
        (λ (spare : beside p ≡ true). absurd (dead p ones (live p spare)))
        (λ other. ⊎_elim
        (λ (zero : entry_of g image p ≡ 0). let bad : 0 ≡ 0xFFFF = sym zero ∙ ones in absurd (omega (arith, bad)))
        (λ more. ⊎_elim
        (λ (free : is_free_entry g image p ≡ true). free)
        (λ (wanted : is_wanted g image p ≡ true). let v = wanted_parts g (live_at g image) p wanted in absurd (dead p ones (rw v.is refl)))
        more)
        other)
        (t.entries p page);
  };
  unmixed = t.unmixed;
}
  where
    dead : (p : ℕ) → entry_of g image p ≡ 0xFFFF → is_some (live_at g image p) ≡ true → ⊥
    dead p ones some = let none = unlive g image p 0xFFFF ones (λ x id. is_finished-ones x id) in let bad : false ≡ true = rw none at some in absurd (cc)

pub less_had : (g : Geometry) → LessHad g
unfolding are_had
less_had g image index pages index' pages' few few' had =
    let all = leb-true _ _ had in
    let i = need-less (entries g) index' index (free_where g image (takes_index g image)) (entries_pos g) few in
    let d = need-less (entries g) pages' pages (free_where g image (takes_data g image)) (entries_pos g) few' in
    le-leb _ _ (omega (arith, all, i, d))

module _ (g : Geometry) (a b : List ℕ) (p : ℕ) (page : List ℕ) (index pages : ℕ) (ca : IsClear g a) (cb : IsClear g b) (put : PutDone g p page a b) where
  after : is_entry_page g p ≡ true → all_by g (sort_at g b) ≡ slice_set (all_by g (sort_at g a)) (block_of g p) (counts_by g (with_sort p (sort_of_page (Some page)) (sort_at g a)) (block_of g p))
  after entry = same_sorts g (with_sort p (sort_of_page (Some page)) (sort_at g a)) (sort_at g b) (put_sorts g a b p page ca.tells put).1 ∙ all-set g (sort_at g a) (sort_of_page (Some page)) p entry

  put_index : IsFreeFor g a IndexPage 2 None p → names_index page ≡ true → are_had g a (index + 1) pages ≡ true → are_had g b index pages ≡ true
  put_index is names had =
      let free = free_sort g a p is.free in
      let counts : counts_by g (with_sort p (sort_of_page (Some page)) (sort_at g a)) (block_of g p) ≡ placed for_index (counts_by g (sort_at g a) (block_of g p)) = rw names ((sorts_change g (sort_at g a) p is.page).put_index free) in
      let all : all_by g (sort_at g b) ≡ slice_set (all_by g (sort_at g a)) (block_of g p) (placed for_index (counts_by g (sort_at g a) (block_of g p))) = after is.page ∙ ap (slice_set (all_by g (sort_at g a)) (block_of g p)) counts in
      let left = had_puts_index (entries g) (all_by g (sort_at g a)) 2 index pages (block_of g p) (counts_by g (sort_at g a) (block_of g p)) (record { entries = entries_pos g; blocks = blocks g a ca }) (can_put g a ca IndexPage for_index (λ d. refl) p is) (had_to g a ca (index + 1) pages had) in
      had_from g b cb index pages (subst (λ (v : List Counts). HadWith (entries g) v 2 index pages) (sym all) left)

  put_data : IsFreeFor g a DataPage 2 None p → names_index page ≡ false → are_had g a index (pages + 1) ≡ true → are_had g b index pages ≡ true
  put_data is names had =
      let free = free_sort g a p is.free in
      let counts : counts_by g (with_sort p (sort_of_page (Some page)) (sort_at g a)) (block_of g p) ≡ placed for_data (counts_by g (sort_at g a) (block_of g p)) = rw names ((sorts_change g (sort_at g a) p is.page).put_data free) in
      let all : all_by g (sort_at g b) ≡ slice_set (all_by g (sort_at g a)) (block_of g p) (placed for_data (counts_by g (sort_at g a) (block_of g p))) = after is.page ∙ ap (slice_set (all_by g (sort_at g a)) (block_of g p)) counts in
      let left = had_puts_data (entries g) (all_by g (sort_at g a)) 2 index pages (block_of g p) (counts_by g (sort_at g a) (block_of g p)) (record { entries = entries_pos g; blocks = blocks g a ca }) (can_put g a ca DataPage for_data (λ d. refl) p is) (had_to g a ca index (pages + 1) had) in
      had_from g b cb index pages (subst (λ (v : List Counts). HadWith (entries g) v 2 index pages) (sym all) left)

pub put_had : (g : Geometry) → PutHad g
put_had g a b p page index pages ca cb put = (put_index g a b p page index pages ca cb put, put_data g a b p page index pages ca cb put)

pub same_had : (g : Geometry) → SameHad g
same_had g a b index pages ca cb same had =
    had_from g b cb index pages (subst (λ (v : List Counts). HadWith (entries g) v 2 index pages) (sym (same_sorts g (sort_at g a) (sort_at g b) same)) (had_to g a ca index pages had))

pub in_place_had : (g : Geometry) → InPlaceHad g
in_place_had g a b w x y index pages ca cb wide was now kind had =
    let entry_page = (live_parts g a w x was).entry_page in
    let agree = agree_page g a b w (sizes g) entry_page wide in
    same_had g a b index pages ca cb
    (λ p entry. ⊎_elim
    (λ (here : p ≡ w). let new = live_sort g b w y now in let old = live_sort g a w x was in let sorts : sort_of_page (Some y) ≡ sort_of_page (Some x) = rw kind refl in rw here (new ∙ sorts ∙ sym old))
    (λ (other : p ≡ w → ⊥). agree_sort g a b w p agree entry other (live-page_other g (sizes g) a b w entry_page wide p other))
    (cases_eq p w))
    had
