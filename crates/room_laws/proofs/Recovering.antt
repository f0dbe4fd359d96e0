-- Images that recover, by what their entries count as.
use Rattle.std.proofs.Common.{◌≡◌, ◌≢◌, ℕ, ◌+◌, ◌<◌, ◌≤◌, ◌⊎◌, List, [], ◌∷◌, true, false, refl, sym, ◌∙◌, ap, subst, arith, ⊎_elim, inl, inr}
use Rattle.std.proofs.lemmas.Bool.{cases_eq, cases_lt}
use Rattle.geometry.specs.declared.geometry.Geometry.{Geometry}
use Rattle.geometry.specs.Numbers.{entries}
use Rattle.image_model.specs.Places.{IsImage, block_of, is_entry_page}
use Rattle.image_model.specs.Tables.{table_of}
use Rattle.image_model.specs.Tidy.{IsTidy, is_free_block, free_blocks}
use Rattle.image_model.specs.Kinds.{live_index, live_data}
use Rattle.image_model.specs.Collect.{is_worth}
use Rattle.image_laws.proofs.Frames.{live_parts}
use Rattle.image_laws.proofs.Tally.{tidy-counts}
use Rattle.room_laws.specs.Counts.{Counts, unused, for_index, for_data, kind_of}
use Rattle.room_laws.specs.Volume.{IsVolume, index_total, pages_total, Worth}
use Rattle.room_laws.specs.Cut.{CutIndex, CutData}
use Rattle.room_laws.specs.Order.{without}
use Rattle.room_laws.specs.Leaving.{SameTotals}
use Rattle.room_laws.specs.Losing.{LosesIndex}
use Rattle.room_laws.specs.Counting.{block_counts, counts_of}
use Rattle.room_laws.specs.Mending.{Mending}
use Rattle.room_laws.specs.Mends.{CanMend}
use Rattle.room_laws.specs.Sorts.{Sort, Index, Deleted, Free, sort_at, counts_by, others_by, beside, with_sort}
use Rattle.room_laws.specs.Ways.{Move, IsMove, AreMoves, Came, Ends}
use Rattle.room_laws.specs.Recovery.{MendedRecovers, ChosenMayCut, MayCut, EmptyingTo, IsBetween, StillMends, IsIndexWay, IndexWayMends}
use Rattle.room_laws.proofs.Blocks.{Told, told_free, told_index, told_data, told}
use Rattle.room_laws.proofs.Tallies.{index_counted, pages_counted}
use Rattle.room_laws.proofs.Chosen.{chosen_is_candidate}
use Rattle.room_laws.proofs.Judged.{worth_is_tested}
use Rattle.room_laws.proofs.Stops.{last_free_is_plain}
use Rattle.room_laws.proofs.Besides.{others_of, front_volume, others_tell}
use Rattle.room_laws.proofs.ImageMends.{data_kind, mends}
use Rattle.room_laws.proofs.Loses.{emptying_is_cut, index_lost_is_cut}
use Rattle.room_laws.proofs.Sorted.{tidy_tells_free, counts_by_sorts, all_by_sorts, same-block, same_sorts, with-here, with-there, sorts_are_counted, place_can_put}
use Rattle.room_laws.proofs.SortSteps.{emptying_at, own_stays, entry_spoiled, index_out}
use Rattle.room_laws.proofs.Resolved.{way_resolves, moves_each}
use Rattle.room_laws.proofs.OnTheWay.{all_nil, all_cons, all_head, way_none}

-- ---- the chosen block

-- a block that is worth cleaning is in use
used_by : (g : Geometry) (first : List ℕ) (block : ℕ) → IsTidy g first → block < g.blocks → is_worth g first block ≡ true → is_free_block g first block ≡ false
used_by g first block t low worth = by (told g first t block low) ((worth_is_tested g first block t low).0 worth)
  where
    by : Told g first block → Worth (counts_of g first) (block_counts g first block) → is_free_block g first block ≡ false
    by (told_free f d j k i p x) w = absurd (rw k at w)
    by (told_index f d k p) w = f
    by (told_data f d j k i) w = f

pub chosen_may_cut : (g : Geometry) → ChosenMayCut g
chosen_may_cut g first block can chosen =
    let candidate = chosen_is_candidate g first block chosen in
    record {
      can = can;
      within = candidate.within;
      used = used_by g first block can.tidy candidate.within candidate.worth;
      reserve = λ held. ⊎_elim
          (λ (few : free_blocks g first < 2). let none = last_free_is_plain g first block can few chosen in let bad : true ≡ false = sym held ∙ none in absurd (cc))
          (λ (enough : 2 ≤ free_blocks g first). enough)
          (cases_lt (free_blocks g first) 2);
      gains = inl candidate.worth;
    }

-- ---- images and sorts

module _ (g : Geometry) (block : ℕ) (low : block < g.blocks) where
  module _ (a : List ℕ) (t : IsTidy g a) where
    pub own_by : block_counts g a block ≡ counts_by g (sort_at g a) block
    own_by = counts_by_sorts g a block (tidy_tells_free g a t) low

    pub others_are : others_of g a block ≡ others_by g (sort_at g a) block
    others_are = ap (without block) (all_by_sorts g a (tidy_tells_free g a t))

    pub volume_by : IsVolume (entries g) (counts_by g (sort_at g a) block ∷ others_by g (sort_at g a) block)
    volume_by = let v = front_volume g a block low t in rw (own_by, others_are) at v

    -- they add up to the live pages
    live_by : ((counts_by g (sort_at g a) block).index + index_total (others_by g (sort_at g a) block) ≡ live_index g a)
        × ((counts_by g (sort_at g a) block).pages + pages_total (others_by g (sort_at g a) block) ≡ live_data g a)
    live_by =
        let o = others_tell g a block t low in
        let i = index_counted g a block in
        let p = pages_counted g a block in
        let own = own_by in
        let index : (counts_by g (sort_at g a) block).index ≡ (block_counts g a block).index = ap (λ (c : Counts). c.index) (sym own) in
        let pages : (counts_by g (sort_at g a) block).pages ≡ (block_counts g a block).pages = ap (λ (c : Counts). c.pages) (sym own) in
        let x : index_total (others_by g (sort_at g a) block) ≡ index_total (others_of g a block) = ap index_total (sym others_are) in
        let y : pages_total (others_by g (sort_at g a) block) ≡ pages_total (others_of g a block) = ap pages_total (sym others_are) in
        (omega (arith, o.index, i, index, x), omega (arith, o.pages, p, pages, y))

  -- of two tidy images with one table they are as many
  pub totals_by : (a b : List ℕ) → IsImage g a → IsImage g b → IsTidy g a → IsTidy g b → table_of g b ≡ table_of g a →
      SameTotals (counts_by g (sort_at g a) block) (others_by g (sort_at g a) block) (counts_by g (sort_at g b) block) (others_by g (sort_at g b) block)
  totals_by a b is is' t t' table =
      let x = tidy-counts g a is t in
      let y = tidy-counts g b is' t' in
      let index : live_index g b ≡ live_index g a = y.0 ∙ (rw table (sym x.0)) in
      let pages : live_data g b ≡ live_data g a = y.1 ∙ (rw table (sym x.1)) in
      let p = live_by a t in
      let q = live_by b t' in
      record { index = omega (arith, p.0, q.0, index); pages = omega (arith, p.1, q.1, pages) }

-- ---- the block that is cut

module _ (g : Geometry) (first : List ℕ) (block : ℕ) (may : MayCut g first block) where
  pub low : block < g.blocks
  low = may.within

  in_use : Told g first block → kind_of (block_counts g first block) ≡ unused → ⊥
  in_use (told_free f d j k i p x) e = let bad : false ≡ true = sym may.used ∙ f in absurd (cc)
  in_use (told_index f d k p) e = let bad : for_index ≡ unused = sym k ∙ e in absurd (cc)
  in_use (told_data f d j k i) e = let bad : for_data ≡ unused = sym k ∙ e in absurd (cc)

  pub used : kind_of (counts_by g (sort_at g first) block) ≡ unused → ⊥
  used kind = in_use (told g first may.can.tidy block low) (ap kind_of (own_by g block low first may.can.tidy) ∙ kind)

  -- what is cut to mends
  pub cut_recovers : (now : List ℕ) → IsImage g now → IsTidy g now → table_of g now ≡ table_of g first →
      CutIndex (entries g) (counts_by g (sort_at g first) block) (others_by g (sort_at g first) block) (counts_by g (sort_at g now) block) (others_by g (sort_at g now) block)
      ⊎ CutData (entries g) (counts_by g (sort_at g first) block) (others_by g (sort_at g first) block) (counts_by g (sort_at g now) block) (others_by g (sort_at g now) block) → CanMend g now
  cut_recovers now is t table cut =
      let x = own_by g block low first may.can.tidy in
      let y = others_are g block low first may.can.tidy in
      let x' = own_by g block low now t in
      let y' = others_are g block low now t in
      mends g first now block may.can is may.within t table may.used
      (λ kind. may.reserve (data_kind g first block (told g first may.can.tidy block low) kind)) may.gains
      (rw (x, y, x', y') cut)

  -- ---- whole turns

  pub whole_recovers : (now : List ℕ) → IsImage g now → IsTidy g now → table_of g now ≡ table_of g first → EmptyingTo g first block (sort_at g now) 0 → CanMend g now
  whole_recovers now is t table emptying =
      cut_recovers now is t table
      (emptying_is_cut (entries g) (counts_by g (sort_at g first) block) (others_by g (sort_at g first) block) (counts_by g (sort_at g now) block) (others_by g (sort_at g now) block) 0
      (volume_by g block low first may.can.tidy) used emptying (totals_by g block low first now may.can.image_is is may.can.tidy t table))

-- sorts that are the same tell the same
pub same_emptying : (g : Geometry) (first : List ℕ) (block : ℕ) → block < g.blocks → (a b : ℕ → Sort) (n : ℕ) → ((p : ℕ) → is_entry_page g p ≡ true → b p ≡ a p) → EmptyingTo g first block a n → EmptyingTo g first block b n
same_emptying g first block low a b n same was =
    emptying_at (entries g) (counts_by g (sort_at g first) block) (others_by g (sort_at g first) block) (counts_by g b block) (counts_by g a block) (others_by g b block) (others_by g a block) n
    (same-block g a b block low (λ p page at. same p page)) (ap (without block) (same_sorts g a b same)) was

pub still_mends : (g : Geometry) → StillMends g
still_mends g first was image block may between way = record {
  mends = λ now is s.
      let r = way_resolves g [] was image now between.image_is between.tidy way.moves_are way.way way.table is s in
      whole_recovers g first block may now is s.tidy (s.table ∙ way.table ∙ between.table)
      (same_emptying g first block (low g first block may) (sort_at g was) (sort_at g now) 0 (λ p page. r.others p page (all_nil (λ (m : Move). (p ≢ m.from) × (p ≢ m.to)))) between.emptying);
}

-- as it stands
pub mended_recovers : (g : Geometry) → MendedRecovers g
unfolding AreMoves
mended_recovers g image can = record {
  mends = λ now is s.
      let r = way_resolves g [] image image now can.image_is can.tidy tt (way_none g image can.image_is) refl is s in
      let same : counts_of g now ≡ counts_of g image =
      all_by_sorts g now (tidy_tells_free g now s.tidy) ∙ same_sorts g (sort_at g image) (sort_at g now) (λ p page. r.others p page (all_nil (λ (m : Move). (p ≢ m.from) × (p ≢ m.to))))
      ∙ sym (all_by_sorts g image (tidy_tells_free g image can.tidy)) in
      record { image_is = is; tidy = s.tidy; mending = subst (λ (v : List Counts). Mending (entries g) v) (sym same) can.mending };
}

-- ---- an index page on its way

-- what pages count as once it has come
pub index_same : (g : Geometry) (was : List ℕ) (block : ℕ) (m : Move) → IsIndexWay g block (sort_at g was) m → (now : List ℕ) →
    ((p : ℕ) → is_entry_page g p ≡ true → p ≢ m.from → p ≢ m.to → sort_at g now p ≡ sort_at g was p) → Came (sort_at g was) (sort_at g now) m →
    (p : ℕ) → is_entry_page g p ≡ true → sort_at g now p ≡ with_sort m.from Deleted (with_sort m.to Index (sort_at g was)) p
index_same g was block m out now others came p page = ⊎_elim
    (λ (here : p ≡ m.from). ap (sort_at g now) here ∙ came.0 ∙ sym (ap (with_sort m.from Deleted (with_sort m.to Index (sort_at g was))) here ∙ with-here (with_sort m.to Index (sort_at g was)) m.from Deleted))
    (λ (there : p ≡ m.from → ⊥). ⊎_elim
    (λ (to : p ≡ m.to). ap (sort_at g now) to ∙ came.1 ∙ out.sort ∙ sym (with-there (with_sort m.to Index (sort_at g was)) m.from p Deleted there ∙ ap (with_sort m.to Index (sort_at g was)) to ∙ with-here (sort_at g was) m.to Index))
    (λ (away : p ≡ m.to → ⊥). others p page there away ∙ sym (with-there (with_sort m.to Index (sort_at g was)) m.from p Deleted there ∙ with-there (sort_at g was) m.to p Index away))
    (cases_eq p m.to))
    (cases_eq p m.from)

-- then it is gone from the block
pub index_empties : (g : Geometry) (first was : List ℕ) (block : ℕ) (m : Move) → block < g.blocks → IsBetween g first block was → IsIndexWay g block (sort_at g was) m → is_entry_page g m.from ≡ true → (now : List ℕ) →
    ((p : ℕ) → is_entry_page g p ≡ true → p ≢ m.from → p ≢ m.to → sort_at g now p ≡ sort_at g was p) → Came (sort_at g was) (sort_at g now) m → EmptyingTo g first block (sort_at g now) 0
index_empties g first was block m l between out from_page now others came =
    same_emptying g first block l (with_sort m.from Deleted (with_sort m.to Index (sort_at g was))) (sort_at g now) 0 (index_same g was block m out now others came)
    (index_out g block l first (sort_at g was) 0 m.from m.to between.emptying from_page out.from out.sort out.place)

module _ (g : Geometry) (first was : List ℕ) (block : ℕ) (m : Move) (may : MayCut g first block) (between : IsBetween g first block was) (out : IsIndexWay g block (sort_at g was) m)
    (from_page : is_entry_page g m.from ≡ true) (now : List ℕ) (is : IsImage g now) (t : IsTidy g now) (table : table_of g now ≡ table_of g first)
    (others : (p : ℕ) → is_entry_page g p ≡ true → p ≢ m.from → p ≢ m.to → sort_at g now p ≡ sort_at g was p) where
  index_unbegun : sort_at g now m.from ≡ sort_at g was m.from → sort_at g now m.to ≡ Free → CanMend g now
  index_unbegun stay free =
      let same : (p : ℕ) → is_entry_page g p ≡ true → sort_at g now p ≡ sort_at g was p = λ p page. ⊎_elim
      (λ (here : p ≡ m.from). ap (sort_at g now) here ∙ stay ∙ ap (sort_at g was) (sym here))
      (λ (there : p ≡ m.from → ⊥). ⊎_elim
      (λ (to : p ≡ m.to). ap (sort_at g now) to ∙ free ∙ sym out.place.free ∙ ap (sort_at g was) (sym to))
      (λ (away : p ≡ m.to → ⊥). others p page there away)
      (cases_eq p m.to))
      (cases_eq p m.from) in
      whole_recovers g first block may now is t table (same_emptying g first block (low g first block may) (sort_at g was) (sort_at g now) 0 same between.emptying)

  index_lost : sort_at g now m.from ≡ sort_at g was m.from → sort_at g now m.to ≡ Deleted → CanMend g now
  index_lost stay gone =
      let l = low g first block may in
      let same : (p : ℕ) → is_entry_page g p ≡ true → sort_at g now p ≡ with_sort m.to Deleted (sort_at g was) p = λ p page. ⊎_elim
      (λ (to : p ≡ m.to). ap (sort_at g now) to ∙ gone ∙ sym (ap (with_sort m.to Deleted (sort_at g was)) to ∙ with-here (sort_at g was) m.to Deleted))
      (λ (away : p ≡ m.to → ⊥). ⊎_elim
      (λ (here : p ≡ m.from). ap (sort_at g now) here ∙ stay ∙ ap (sort_at g was) (sym here) ∙ sym (with-there (sort_at g was) m.to p Deleted away))
      (λ (there : p ≡ m.from → ⊥). others p page there away ∙ sym (with-there (sort_at g was) m.to p Deleted away))
      (cases_eq p m.from))
      (cases_eq p m.to) in
      let own : counts_by g (sort_at g now) block ≡ counts_by g (sort_at g was) block =
      same-block g (with_sort m.to Deleted (sort_at g was)) (sort_at g now) block l (λ p page at. same p page) ∙ own_stays g block l (sort_at g was) Deleted m.to out.place.entry out.place.apart in
      let loses : LosesIndex (others_by g (sort_at g was) block) (others_by g (sort_at g now) block) = (
        beside block (block_of g m.to),
        counts_by g (sort_at g was) (block_of g m.to),
        place_can_put g (sort_at g was) block for_index m.to l out.place,
        ap (without block) (same_sorts g (with_sort m.to Deleted (sort_at g was)) (sort_at g now) same) ∙ entry_spoiled g block l (sort_at g was) m.to out.place.entry out.place.apart out.place.free,
      ) in
      let some : 0 < (counts_by g (sort_at g was) block).index = subst (λ (b : ℕ). 0 < (counts_by g (sort_at g was) b).index) out.from ((sorts_are_counted g (sort_at g was) m.from from_page).index out.sort) in
      let cut = index_lost_is_cut (entries g) (counts_by g (sort_at g first) block) (others_by g (sort_at g first) block) (counts_by g (sort_at g was) block) (others_by g (sort_at g was) block) (others_by g (sort_at g now) block) 0
      (volume_by g block l first may.can.tidy) (used g first block may) (λ kind. some) between.emptying (totals_by g block l first was may.can.image_is between.image_is may.can.tidy between.tidy between.table) loses in
      cut_recovers g first block may now is t table (rw own cut)

  index_ends : Ends (sort_at g was) (sort_at g now) m → CanMend g now
  index_ends (inl came) = whole_recovers g first block may now is t table (index_empties g first was block m (low g first block may) between out from_page now others came)
  index_ends (inr (stay, inl gone)) = index_lost stay gone
  index_ends (inr (stay, inr free)) = index_unbegun stay free

pub index_way_mends : (g : Geometry) → IndexWayMends g
index_way_mends g first was image block m may between out way = record {
  mends = λ now is s.
      let r = way_resolves g (m ∷ []) was image now between.image_is between.tidy way.moves_are way.way way.table is s in
      let move = all_head (IsMove g was) m [] (moves_each g was (m ∷ []) way.moves_are) in
      index_ends g first was block m may between out (live_parts g was m.from move.page move.live).entry_page now is s.tidy (s.table ∙ way.table ∙ between.table)
      (λ p page from to. r.others p page (all_cons (λ (n : Move). (p ≢ n.from) × (p ≢ n.to)) m [] (from, to) (all_nil (λ (n : Move). (p ≢ n.from) × (p ≢ n.to)))))
      (all_head (Ends (sort_at g was) (sort_at g now)) m [] r.each);
}
