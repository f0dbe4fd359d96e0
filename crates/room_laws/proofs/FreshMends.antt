-- Images whose emptied block is being made fresh recover, and are cleaned once it is.
use Rattle.std.proofs.Common.{◌≡◌, ◌≢◌, ℕ, ◌+◌, ◌-◌, ◌*◌, ◌<◌, ◌≤◌, List, ◌∷◌, true, false, Some, None, refl, sym, ◌∙◌, ap, subst, arith, ⊎_elim}
use Rattle.std.proofs.lemmas.Bool.{cases_Bool, and_parts}
use Rattle.std.proofs.lemmas.Option.{same_Some, none-some}
use Rattle.geometry.specs.declared.geometry.Geometry.{Geometry}
use Rattle.nor_core.specs.Flash.{SameOutside}
use Rattle.geometry.specs.Numbers.{per_block, lookups, entries, slots}
use Rattle.image_model.specs.Places.{IsImage, has_magic, block_of, is_entry_page}
use Rattle.image_model.specs.Live.{live_at}
use Rattle.image_model.specs.Tables.{table_of}
use Rattle.image_model.specs.Tidy.{IsTidy, is_free_entry, is_free_block}
use Rattle.image_model.specs.Within.{sizes, entry_of_block, page_number, block_number}
use Rattle.image_laws.proofs.FreeBlocks.{all-at}
use Rattle.image_laws.proofs.Erase.{slot-other}
use Rattle.image_laws.proofs.Frames.{live_parts}
use Rattle.image_laws.proofs.StillFree.{live-used}
use Rattle.room_laws.specs.Counts.{Counts}
use Rattle.room_laws.specs.Leaving.{WholeCleaning, fresh}
use Rattle.room_laws.specs.Counting.{block_counts, counts_of}
use Rattle.room_laws.specs.Sorts.{sort_at, counts_by, others_by}
use Rattle.room_laws.specs.Staged.{IsStaged}
use Rattle.room_laws.specs.Recovery.{IsBetween, IsEmptied, FreshWayMends}
use Rattle.room_laws.proofs.Blocks.{Told, told_free, told_index, told_data, told, free_all}
use Rattle.room_laws.proofs.Tallies.{index_counted, pages_counted, deleted_counted, free_counted}
use Rattle.room_laws.proofs.Besides.{others_of, front}
use Rattle.room_laws.proofs.Outside.{others_stay}
use Rattle.room_laws.proofs.ImageMends.{front_bound}
use Rattle.room_laws.proofs.Leaves.{emptying_cleans}
use Rattle.room_laws.proofs.Orders.{mending_rearranged, cleaned_mends}
use Rattle.room_laws.proofs.Resolved.{live_sort, free_sort, used_sort, live_or}
use Rattle.room_laws.proofs.Recovering.{own_by, others_are, volume_by, totals_by, low}
use Rattle.room_laws.proofs.Sorted.{tidy_tells_free}
use Rattle.room_laws.proofs.SortSteps.{others_alike}
use Rattle.room_laws.proofs.Staying.{free_stays}
use Rattle.room_laws.proofs.Tagged.{tags_are_once, tags_are_kept}

-- each entry of a free block is free
pub in_free : (g : Geometry) (image : List ℕ) (block p : ℕ) → is_free_block g image block ≡ true → is_entry_page g p ≡ true → block_of g p ≡ block → is_free_entry g image p ≡ true
unfolding is_free_block
in_free g image block p free page at =
    let w = and_parts _ _ free in
    let e = entry_of_block g p page in
    let from : block * per_block g + lookups g ≤ p = subst (λ (b : ℕ). b * per_block g + lookups g ≤ p) at e.0 in
    let to : p < block * per_block g + lookups g + entries g = subst (λ (b : ℕ). p < b * per_block g + lookups g + entries g) at e.1 in
    all-at (λ (q : ℕ). is_free_entry g image q) (block * per_block g + lookups g) (entries g) w.1 p from to

same_fresh : (e i d x f : ℕ) (c : Counts) → c ≡ record { index = i; pages = d; deleted = x; free = f } → i ≡ 0 → d ≡ 0 → x ≡ 0 → f ≡ e → c ≡ fresh e
same_fresh e i d x f c is a b y z = is ∙ (rw (a, b, y, z) refl)

-- a free block counts as a fresh one
pub fresh_counts : (g : Geometry) (image : List ℕ) (block : ℕ) → IsTidy g image → block < g.blocks → is_free_block g image block ≡ true → block_counts g image block ≡ fresh (entries g)
fresh_counts g image block t low free = by (told g image t block low)
  where
    by : Told g image block → block_counts g image block ≡ fresh (entries g)
    by (told_free f d j k i p x) =
        same_fresh (entries g) (block_counts g image block).index (block_counts g image block).pages (block_counts g image block).deleted (block_counts g image block).free (block_counts g image block) refl
        (index_counted g image block ∙ i) (pages_counted g image block ∙ p) (deleted_counted g image block ∙ x) (free_counted g image block ∙ free_all g image t block low free)
    by (told_index f d k p) = let bad : true ≡ false = sym free ∙ f in absurd (cc)
    by (told_data f d j k i) = let bad : true ≡ false = sym free ∙ f in absurd (cc)

-- the magics of other blocks stay
pub magic_stays : (g : Geometry) (was image : List ℕ) (block other : ℕ) → SameOutside (block * g.block) g.block was image → other ≢ block → has_magic g image other ≡ has_magic g was other
unfolding has_magic
magic_stays g was image block other same out =
    let fit : entries g + 2 ≤ slots g = (sizes g).slots_fit in
    let small : slots g - 2 < slots g = omega (arith, fit) in
    rw (slot-other g (sizes g) was image block same other (slots g - 2) out small) refl

module _ (g : Geometry) (was image : List ℕ) (block : ℕ) (low : block < g.blocks) (is_was : IsImage g was) (t : IsTidy g was) (table : table_of g image ≡ table_of g was)
    (outside : SameOutside (block * g.block) g.block was image) (now : List ℕ) (is : IsImage g now) (s : IsStaged g image now) (free : is_free_block g now block ≡ true) where
  -- a page that is live at last was so
  from_fresh : (p : ℕ) (x : List ℕ) → live_at g now p ≡ Some x → live_at g was p ≡ Some x
  from_fresh p x live =
      let page = (live_parts g now p x live).entry_page in
      let out : block_of g p ≢ block = λ at. let bad : false ≡ true = sym (live-used g now p x live) ∙ in_free g now block p free page at in absurd (cc) in
      let stays = others_stay g was image block p outside page out in
      ⊎_elim
      (λ (same : live_at g now p ≡ live_at g image p). sym stays.live ∙ sym same ∙ live)
      (λ (gone : live_at g now p ≡ None). absurd (none-some x (sym gone ∙ live)))
      (s.live p)

  -- other entries count as they did
  fresh_same : (p : ℕ) → is_entry_page g p ≡ true → block_of g p ≢ block → sort_at g now p ≡ sort_at g was p
  fresh_same p page out = ⊎_elim
      (λ (dead : live_at g was p ≡ None).
      let dead_now : live_at g now p ≡ None = ⊎_elim
      (λ (none : live_at g now p ≡ None). none)
      (λ (some : (y : List ℕ) × (live_at g now p ≡ Some y)). absurd (none-some some.0 (sym dead ∙ from_fresh p some.0 some.1)))
      (live_or (live_at g now p)) in
      let stays = others_stay g was image block p outside page out in
      let magic : has_magic g image (block_of g p) ≡ true = magic_stays g was image block (block_of g p) outside out ∙ t.magic (block_of g p) (block_number g p (page_number g p page)) in
      let as_free : is_free_entry g now p ≡ is_free_entry g was p = s.free p page magic ∙ (rw (stays.entry, stays.bytes) refl) in
      ⊎_elim
      (λ (yes : is_free_entry g was p ≡ true). free_sort g now p (as_free ∙ yes) ∙ sym (free_sort g was p yes))
      (λ (no : is_free_entry g was p ≡ false). used_sort g now p (tidy_tells_free g now s.tidy) page (as_free ∙ no) dead_now ∙ sym (used_sort g was p (tidy_tells_free g was t) page no dead))
      (cases_Bool (is_free_entry g was p)))
      (λ (live : (x : List ℕ) × (live_at g was p ≡ Some x)).
      let k = tags_are_kept g was now p live.0 is_was is t s.tidy (s.table ∙ table) live.1 in
      let old = from_fresh k.0 k.1 k.2 in
      let same : p ≡ k.0 = tags_are_once g was p k.0 live.0 k.1 is_was t live.1 old k.3 in
      let x_is : k.1 ≡ live.0 = same_Some k.1 live.0 (sym old ∙ ap (live_at g was) (sym same) ∙ live.1) in
      live_sort g now p live.0 (ap (live_at g now) same ∙ k.2 ∙ ap (λ (y : List ℕ). Some y) x_is) ∙ sym (live_sort g was p live.0 live.1))
      (live_or (live_at g was p))

  pub others_fresh : others_by g (sort_at g now) block ≡ others_by g (sort_at g was) block
  others_fresh = others_alike g block low (sort_at g was) (sort_at g now) fresh_same

-- the emptied block was cleaned
pub cleaned_by : (g : Geometry) (first was : List ℕ) (block : ℕ) → block < g.blocks → IsImage g first → IsTidy g first → IsBetween g first block was → IsEmptied g (sort_at g was) block →
    WholeCleaning (entries g) (counts_by g (sort_at g first) block) (others_by g (sort_at g first) block) (others_by g (sort_at g was) block)
cleaned_by g first was block at is t between emptied =
    emptying_cleans (entries g) (counts_by g (sort_at g first) block) (others_by g (sort_at g first) block) (counts_by g (sort_at g was) block) (others_by g (sort_at g was) block) 0
    (volume_by g block at first t) between.emptying (totals_by g block at first was is between.image_is t between.tidy between.table) emptied.index emptied.pages

pub fresh_way_mends : (g : Geometry) → FreshWayMends g
fresh_way_mends g first was image block may between emptied is_image table outside state = record {
  mends = λ now is s.
      let at = low g first block may in
      let free : is_free_block g now block ≡ true = ⊎_elim (λ (none : has_magic g image block ≡ false). s.fresh block at none) (λ (free : is_free_block g image block ≡ true). free_stays g image now s block at free) state in
      let others = others_fresh g was image block at between.image_is between.tidy table outside now is s free in
      let whole = cleaned_by g first was block at may.can.image_is may.can.tidy between emptied in
      let own : block_counts g now block ≡ fresh (entries g) = fresh_counts g now block s.tidy at free in
      let rest : others_of g now block ≡ others_by g (sort_at g was) block = others_are g block at now s.tidy ∙ others in
      let x = own_by g block at first may.can.tidy in
      let y = others_are g block at first may.can.tidy in
      let bound = front_bound g first now block may.can is may.within s.tidy (s.table ∙ table ∙ between.table) in
      let bound' = rw (x, y) at bound in
      let m = cleaned_mends (entries g) (counts_by g (sort_at g first) block ∷ others_by g (sort_at g first) block) (fresh (entries g) ∷ others_by g (sort_at g was) block) (counts_by g (sort_at g first) block) whole.cleaned bound' in
      record {
        image_is = is;
        tidy = s.tidy;
        mending = mending_rearranged (entries g) (block_counts g now block ∷ others_of g now block) (counts_of g now) (front g now block at) (rw (own, rest) m);
      };
}
