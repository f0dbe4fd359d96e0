-- Turns of a cleaning that are done.
use Rattle.std.proofs.Common.{◌≡◌, ◌≢◌, ℕ, suc, ◌+◌, ◌-◌, ◌<◌, ◌≤◌, List, [], ◌∷◌, length, true, false, Some, None, refl, sym, ◌∙◌, ap, arith, ⊎_elim, inl, inr, slice_set}
use Rattle.std.specs.Prelude.{All}
use Rattle.std.proofs.lemmas.Bool.{cases_eq}
use Rattle.geometry.specs.declared.geometry.Geometry.{Geometry}
use Rattle.geometry.specs.Numbers.{entries}
use Rattle.image_model.specs.Places.{entry_of, block_of, is_entry_page}
use Rattle.image_model.specs.Live.{live_at}
use Rattle.image_model.specs.Tidy.{is_free_entry, TellsFree}
use Rattle.image_laws.specs.TidySteps.{Agree}
use Rattle.image_laws.proofs.Frames.{live_parts}
use Rattle.image_laws.proofs.Tally.{is_finished-ones}
use Rattle.room_laws.specs.Counts.{Counts, IsBlock, unused, for_index, for_data, kind_of}
use Rattle.room_laws.specs.Volume.{IsVolume, blocks_of, free_of, need, FitsAs, Fits}
use Rattle.room_laws.specs.Steps.{placed, killed}
use Rattle.room_laws.specs.Order.{without, Rearranged}
use Rattle.room_laws.specs.Places.{HadWith}
use Rattle.room_laws.specs.Counting.{block_counts, counts_of}
use Rattle.room_laws.specs.Sorts.{Sort, Index, Deleted, Free, sort_of_page, sort_at, counts_by, others_by, beside, with_sort, IsPlaceBy}
use Rattle.room_laws.specs.Ways.{Move, IsMove, AreMoves, Came, Stayed, Ends}
use Rattle.room_laws.specs.Recovery.{HasPlaces, IsBetween, with_data, ArePagesWay}
use Rattle.room_laws.specs.Carrying.{PutSorts, KillSorts, BeginsBetween, FitsHasPlaces, BatchHasPlaces, IndexGoesOn, BatchGoesOn}
use Rattle.room_laws.proofs.Totals.{Seen, is_unused, is_index, is_data, seen}
use Rattle.room_laws.proofs.Tallies.{entries_pos}
use Rattle.room_laws.proofs.Judged.{fits_is_tested}
use Rattle.room_laws.proofs.Orders.{blocks-same, free-same}
use Rattle.room_laws.proofs.Besides.{others_of, front, front_volume}
use Rattle.room_laws.proofs.Leaves.{emptying_starts}
use Rattle.room_laws.proofs.HavePlaces.{need-none, had_puts_index, had_puts_data, had_kills, had_less}
use Rattle.room_laws.proofs.Sorted.{with-here, with-there, same-block, same_sorts, place_can_put}
use Rattle.room_laws.proofs.SortSteps.{others_alike, place_alike, data_put, index_out_is, index_in_own, RenewedIs, renewed_is}
use Rattle.room_laws.proofs.Staying.{tidy_is_staged}
use Rattle.room_laws.proofs.Resolved.{live_sort, dead_sort, way_resolves, moves_each}
use Rattle.room_laws.proofs.OnTheWay.{all_nil, all_cons, all_head}
use Rattle.room_laws.proofs.Recovering.{own_by, others_are, volume_by, index_same, index_empties}
use Rattle.room_laws.proofs.Batches.{moved, moved_outside, AllOut, all_out, blocks_with}
use Rattle.room_laws.proofs.BatchMends.{batch_or, came_empties, after, came_same, index_there, from_page, index_sort, moves_tail}

-- ---- single programs

-- an entry that stays counts as it did
pub agree_sort : (g : Geometry) (a b : List ℕ) (p q : ℕ) → Agree g a b p → is_entry_page g q ≡ true → q ≢ p → live_at g b q ≡ live_at g a q → sort_at g b q ≡ sort_at g a q
unfolding sort_at
agree_sort g a b p q agree page other live = rw (agree.entry q page other, live) refl

-- and lookup pages tell it as before
pub agree_tells : (g : Geometry) (a b : List ℕ) (p : ℕ) → TellsFree g a → Agree g a b p → (entry_of g b p ≡ 0xFFFF → ⊥) → TellsFree g b
agree_tells g a b p t agree used = record {
  magic = λ c low. agree.magic c ∙ t.magic c low;
  free = λ q page ones. ⊎_elim
      (λ (here : q ≡ p). absurd (used (ap (entry_of g b) (sym here) ∙ ones)))
      (λ (other : q ≡ p → ⊥).
      let old = t.free q page (sym (agree.entry q page other) ∙ ones) in
      let same : is_free_entry g b q ≡ is_free_entry g a q = rw (agree.entry q page other, agree.page q page other) refl in
      same ∙ old)
      (cases_eq q p);
}

live_entry : (g : Geometry) (b : List ℕ) (p : ℕ) (page : List ℕ) → live_at g b p ≡ Some page → entry_of g b p ≡ 0xFFFF → ⊥
live_entry g b p page live ones = let w = live_parts g b p page live in let bad : false ≡ true = sym (is_finished-ones page (sym w.entry ∙ ones)) ∙ w.finished in absurd (cc)

pub put_sorts : (g : Geometry) → PutSorts g
put_sorts g a b p page t done = (
  agree_tells g a b p t done.agree (live_entry g b p page done.gains.after),
  λ q entry. ⊎_elim
      (λ (here : q ≡ p). ap (sort_at g b) here ∙ live_sort g b p page done.gains.after ∙ sym (ap (with_sort p (sort_of_page (Some page)) (sort_at g a)) here ∙ with-here (sort_at g a) p (sort_of_page (Some page))))
      (λ (other : q ≡ p → ⊥). agree_sort g a b p q done.agree entry other (done.gains.others q other) ∙ sym (with-there (sort_at g a) p q (sort_of_page (Some page)) other))
      (cases_eq q p),
)

-- an entry of 0 is deleted
zero_sort : (g : Geometry) (b : List ℕ) (p : ℕ) → entry_of g b p ≡ 0 → live_at g b p ≡ None → sort_at g b p ≡ Deleted
unfolding sort_at
zero_sort g b p zero dead = rw (zero, dead) refl

pub kill_sorts : (g : Geometry) → KillSorts g
kill_sorts g a b p t done = (
  agree_tells g a b p t done.agree (λ ones. let bad : 0 ≡ 0xFFFF = sym done.zero ∙ ones in absurd (omega (arith, bad))),
  λ q entry. ⊎_elim
      (λ (here : q ≡ p). ap (sort_at g b) here ∙ zero_sort g b p done.zero done.loses.after ∙ sym (ap (with_sort p Deleted (sort_at g a)) here ∙ with-here (sort_at g a) p Deleted))
      (λ (other : q ≡ p → ⊥). agree_sort g a b p q done.agree entry other (done.loses.others q other) ∙ sym (with-there (sort_at g a) p q Deleted other))
      (cases_eq q p),
)

-- ---- where a cleaning begins

pub begins_between : (g : Geometry) → BeginsBetween g
begins_between g first block is t low =
    let v = volume_by g block low first t in
    record {
      image_is = is;
      tidy = t;
      table = refl;
      emptying = emptying_starts (entries g) (counts_by g (sort_at g first) block) (others_by g (sort_at g first) block) (λ k d below. v.blocks (suc k) d (omega arith));
    }

-- the live pages of a block that fits find places in the others
fits_had : (e : ℕ) (c : Counts) (r : List Counts) → IsVolume e (c ∷ r) → Fits e (c ∷ r) c → HadWith e r 0 (c.index + c.pages) c.pages
unfolding blocks_of free_of
fits_had e c r is fits = by (seen e c (is.blocks 0 c (omega arith)))
  where
    by : Seen e c → HadWith e r 0 (c.index + c.pages) c.pages
    by (is_unused k i p x) = rw (i, p) (let a = need-none e (free_of for_index r) is.entries in let b = need-none e (free_of for_data r) is.entries in omega (arith, a, b))
    by (is_index k p x w) =
        let f : need e c.index (free_of for_index (c ∷ r) - c.free) ≤ blocks_of unused (c ∷ r) = rw k at fits in
        let own : free_of for_index (c ∷ r) - c.free ≡ free_of for_index r = let s : free_of for_index (c ∷ r) ≡ c.free + free_of for_index r = rw k refl in omega (arith, s) in
        let same : blocks_of unused (c ∷ r) ≡ blocks_of unused r = rw k (omega arith) in
        let f' : need e c.index (free_of for_index r) ≤ blocks_of unused (c ∷ r) = rw own at f in
        let b = need-none e (free_of for_data r) is.entries in
        let all : c.index + c.pages ≡ c.index = omega (arith, p) in
        rw (all, p) (omega (arith, f', same, b))
    by (is_data k i x w) =
        let f : need e c.pages (free_of for_data (c ∷ r) - c.free) + need e c.pages (free_of for_index (c ∷ r)) ≤ blocks_of unused (c ∷ r) = rw k at fits in
        let own : free_of for_data (c ∷ r) - c.free ≡ free_of for_data r = let s : free_of for_data (c ∷ r) ≡ c.free + free_of for_data r = rw k refl in omega (arith, s) in
        let other : free_of for_index (c ∷ r) ≡ free_of for_index r = rw k (omega arith) in
        let same : blocks_of unused (c ∷ r) ≡ blocks_of unused r = rw k (omega arith) in
        let f' : need e c.pages (free_of for_data r) + need e c.pages (free_of for_index r) ≤ blocks_of unused (c ∷ r) = rw (own, other) at f in
        let all : c.index + c.pages ≡ c.pages = omega (arith, i) in
        rw all (omega (arith, f', same))

fits_back : (e : ℕ) (a b : List Counts) (c : Counts) → Rearranged a b → Fits e b c → Fits e a c
fits_back e a b c r = by_kind (kind_of c)
  where
    by_kind : (k : _) → FitsAs k e b c → FitsAs k e a c
    by_kind unused f = tt
    by_kind for_index f = rw (free-same for_index a b r, blocks-same unused a b r) f
    by_kind for_data f = rw (free-same for_index a b r, free-same for_data a b r, blocks-same unused a b r) f

pub fits_has_places : (g : Geometry) → FitsHasPlaces g
fits_has_places g image block t low fits =
    let f = (fits_is_tested g image block t low).0 fits in
    let f' = fits_back (entries g) (block_counts g image block ∷ others_of g image block) (counts_of g image) (block_counts g image block) (front g image block low) f in
    let h = fits_had (entries g) (block_counts g image block) (others_of g image block) (front_volume g image block low t) f' in
    rw (own_by g block low image t, others_are g block low image t) at h

-- ---- pages that have places

pub had_at : (e : ℕ) (v v' : List Counts) (i i' d d' : ℕ) → v ≡ v' → i ≡ i' → d ≡ d' → HadWith e v' 0 i' d' → HadWith e v 0 i d
had_at e v v' i i' d d' x y z h = rw (x, y, z) h

-- the counts of an image by sorts that are the same
places_at : (g : Geometry) (block : ℕ) → block < g.blocks → (a b : ℕ → Sort) → ((p : ℕ) → is_entry_page g p ≡ true → b p ≡ a p) → HasPlaces g block a → HasPlaces g block b
places_at g block low a b same h =
    let own = same-block g a b block low (λ p page at. same p page) in
    had_at (entries g) (others_by g b block) (others_by g a block) ((counts_by g b block).index + (counts_by g b block).pages) ((counts_by g a block).index + (counts_by g a block).pages)
    (counts_by g b block).pages (counts_by g a block).pages (ap (without block) (same_sorts g a b same)) (ap (λ (c : Counts). c.index + c.pages) own) (ap (λ (c : Counts). c.pages) own) h

-- an index page that is gone from its place has come
stays_not : (g : Geometry) (was now : List ℕ) (m : Move) → Stayed (sort_at g was) (sort_at g now) m → sort_at g was m.from ≡ Index → live_at g now m.from ≡ None → ⊥
stays_not g was now m s sort dead = ⊎_elim
    (λ (x : sort_at g now m.from ≡ Deleted). let bad : Index ≡ Deleted = sym (s.0 ∙ sort) ∙ x in cc)
    (λ (x : sort_at g now m.from ≡ Free). let bad : Index ≡ Free = sym (s.0 ∙ sort) ∙ x in cc)
    (dead_sort g now m.from dead)

came_by : (g : Geometry) (was now : List ℕ) (m : Move) → Ends (sort_at g was) (sort_at g now) m → sort_at g was m.from ≡ Index → live_at g now m.from ≡ None → Came (sort_at g was) (sort_at g now) m
came_by g was now m (inl c) sort dead = c
came_by g was now m (inr s) sort dead = absurd (stays_not g was now m s sort dead)

index_places : (g : Geometry) (block : ℕ) (low : block < g.blocks) (sorts : ℕ → Sort) (from to : ℕ) → All (IsBlock (entries g)) (others_by g sorts block) → is_entry_page g from ≡ true → block_of g from ≡ block → sorts from ≡ Index →
    IsPlaceBy g sorts block for_index to → HasPlaces g block sorts → HasPlaces g block (with_sort from Deleted (with_sort to Index sorts))
index_places g block low sorts from to blocks page at sort place h =
    let is = index_out_is g block low sorts from to page at sort place in
    let some = index_in_own g block low sorts from page at sort in
    let d = counts_by g sorts block in
    let more : d.index - 1 + d.pages + 1 ≡ d.index + d.pages = omega arith in
    let h' : HadWith (entries g) (others_by g sorts block) 0 (d.index - 1 + d.pages + 1) d.pages = had_at (entries g) (others_by g sorts block) (others_by g sorts block) (d.index - 1 + d.pages + 1) (d.index + d.pages) d.pages d.pages refl more refl h in
    let put = had_puts_index (entries g) (others_by g sorts block) 0 (d.index - 1 + d.pages) d.pages (beside block (block_of g to)) (counts_by g sorts (block_of g to))
    (record { entries = entries_pos g; blocks = blocks }) (place_can_put g sorts block for_index to low place) h' in
    had_at (entries g) (others_by g (with_sort from Deleted (with_sort to Index sorts)) block) (slice_set (others_by g sorts block) (beside block (block_of g to)) (placed for_index (counts_by g sorts (block_of g to))))
    ((counts_by g (with_sort from Deleted (with_sort to Index sorts)) block).index + (counts_by g (with_sort from Deleted (with_sort to Index sorts)) block).pages) (d.index - 1 + d.pages)
    (counts_by g (with_sort from Deleted (with_sort to Index sorts)) block).pages d.pages
    is.1 (ap (λ (c : Counts). c.index + c.pages) is.0) (ap (λ (c : Counts). c.pages) is.0) put

pub index_goes_on : (g : Geometry) → IndexGoesOn g
index_goes_on g first was now block m low between places out way t gone =
    let table = way.table ∙ between.table in
    let r = way_resolves g (m ∷ []) was now now between.image_is between.tidy way.moves_are way.way way.table way.way.image_is (tidy_is_staged g now t) in
    let move = all_head (IsMove g was) m [] (moves_each g was (m ∷ []) way.moves_are) in
    let page = (live_parts g was m.from move.page move.live).entry_page in
    let others : (p : ℕ) → is_entry_page g p ≡ true → p ≢ m.from → p ≢ m.to → sort_at g now p ≡ sort_at g was p =
    λ p entry from to. r.others p entry (all_cons (λ (n : Move). (p ≢ n.from) × (p ≢ n.to)) m [] (from, to) (all_nil (λ (n : Move). (p ≢ n.from) × (p ≢ n.to)))) in
    let came : Came (sort_at g was) (sort_at g now) m = came_by g was now m (all_head (Ends (sort_at g was) (sort_at g now)) m [] r.each) out.sort gone in (
      record { image_is = way.way.image_is; tidy = t; table = table; emptying = index_empties g first was block m low between out page now others came },
      places_at g block low (with_sort m.from Deleted (with_sort m.to Index (sort_at g was))) (sort_at g now) (index_same g was block m out now others came)
          (index_places g block low (sort_at g was) m.from m.to between.emptying.reached.blocks page out.from out.sort out.place places),
    )

-- ---- batches

module _ (g : Geometry) (first was : List ℕ) (block : ℕ) (low : block < g.blocks) (between : IsBetween g first block was) (places : HasPlaces g block (sort_at g was)) where
  batch_places : (ms : List Move) → AreMoves g was ms → ArePagesWay g block (sort_at g was) ms →
      HadWith (entries g) (others_by g (with_data ms (sort_at g was)) block) 0 ((counts_by g (sort_at g was) block).index + (counts_by g (sort_at g was) block).pages) ((counts_by g (sort_at g was) block).pages - length ms)
  unfolding ArePagesWay AreMoves
  batch_places [] are ways =
      let d = counts_by g (sort_at g was) block in
      had_at (entries g) (others_by g (sort_at g was) block) (others_by g (sort_at g was) block) (d.index + d.pages) (d.index + d.pages) (d.pages - 0) d.pages refl refl (omega arith) places
  batch_places (m ∷ ms) are ways =
      let d = counts_by g (sort_at g was) block in
      let rest = batch_places ms are.2 ways.3 in
      let o = all_out g block low was first (m ∷ ms) are ways between.emptying in
      let more : d.pages - length (m ∷ ms) + 1 ≡ d.pages - length ms = omega (arith, o.pages) in
      let v = others_by g (with_data ms (sort_at g was)) block in
      let rest' : HadWith (entries g) v 0 (d.index + d.pages) (d.pages - length (m ∷ ms) + 1) = had_at (entries g) v v (d.index + d.pages) (d.index + d.pages) (d.pages - length (m ∷ ms) + 1) (d.pages - length ms) refl refl more rest in
      let put = had_puts_data (entries g) v 0 (d.index + d.pages) (d.pages - length (m ∷ ms)) (beside block (block_of g m.to)) (counts_by g (with_data ms (sort_at g was)) (block_of g m.to))
      (record { entries = entries_pos g; blocks = blocks_with g block low was first between.emptying ms are.2 ways.3 }) (place_can_put g (with_data ms (sort_at g was)) block for_data m.to low ways.2) rest' in
      had_at (entries g) (others_by g (with_data (m ∷ ms) (sort_at g was)) block) (slice_set v (beside block (block_of g m.to)) (placed for_data (counts_by g (with_data ms (sort_at g was)) (block_of g m.to))))
      (d.index + d.pages) (d.index + d.pages) (d.pages - length (m ∷ ms)) (d.pages - length (m ∷ ms)) (data_put g block low (with_data ms (sort_at g was)) m.to ways.2.entry ways.2.apart ways.2.free) refl refl put

  -- once the index page is renewed
  module _ (ix : Move) (ms : List Move) (are : AreMoves g was ms) (ways : ArePagesWay g block (sort_at g was) ms) (some : 0 < length ms) (page : is_entry_page g ix.from ≡ true) (apart : block_of g ix.from ≢ block)
      (there : moved ms (sort_at g was) ix.from ≡ Index) (place : IsPlaceBy g (with_data ms (sort_at g was)) block for_index ix.to) where
    place_moved : IsPlaceBy g (moved ms (sort_at g was)) block for_index ix.to
    place_moved = place_alike g block low (with_data ms (sort_at g was)) (moved ms (sort_at g was)) for_index ix.to (moved_outside g block low was ms ways) place

    out : AllOut g block low was first ms
    out = all_out g block low was first ms are ways between.emptying

    is : RenewedIs g block low (moved ms (sort_at g was)) ix.from ix.to
    is = renewed_is g block low (moved ms (sort_at g was)) ix.from ix.to out.emptying.reached.blocks page apart there place_moved

    renewed_places : HasPlaces g block (with_sort ix.from Deleted (with_sort ix.to Index (moved ms (sort_at g was))))
    renewed_places =
        let d = counts_by g (sort_at g was) block in
        let left = d.pages - length ms in
        let v = others_by g (moved ms (sort_at g was)) block in
        let mid = others_by g (with_sort ix.to Index (moved ms (sort_at g was))) block in
        let s = with_sort ix.from Deleted (with_sort ix.to Index (moved ms (sort_at g was))) in
        let same : v ≡ others_by g (with_data ms (sort_at g was)) block = others_alike g block low (with_data ms (sort_at g was)) (moved ms (sort_at g was)) (moved_outside g block low was ms ways) in
        let more : d.index + d.pages - 1 + 1 ≡ d.index + d.pages = omega (arith, out.pages, some) in
        let start : HadWith (entries g) v 0 (d.index + d.pages - 1 + 1) left = had_at (entries g) v (others_by g (with_data ms (sort_at g was)) block) (d.index + d.pages - 1 + 1) (d.index + d.pages) left left same more refl (batch_places ms are ways) in
        let put = had_puts_index (entries g) v 0 (d.index + d.pages - 1) left (beside block (block_of g ix.to)) (counts_by g (moved ms (sort_at g was)) (block_of g ix.to))
        (record { entries = entries_pos g; blocks = out.emptying.reached.blocks }) (place_can_put g (moved ms (sort_at g was)) block for_index ix.to low place_moved) start in
        let put' : HadWith (entries g) mid 0 (d.index + d.pages - 1) left =
        had_at (entries g) mid (slice_set v (beside block (block_of g ix.to)) (placed for_index (counts_by g (moved ms (sort_at g was)) (block_of g ix.to)))) (d.index + d.pages - 1) (d.index + d.pages - 1) left left is.put refl refl put in
        let kill = had_kills (entries g) mid 0 (d.index + d.pages - 1) left (beside block (block_of g ix.from)) (counts_by g (with_sort ix.to Index (moved ms (sort_at g was))) (block_of g ix.from))
        (record { entries = entries_pos g; blocks = is.blocks }) is.stands.within is.stands.at is.kind is.live put' in
        let kill' : HadWith (entries g) (others_by g s block) 0 (d.index + d.pages - 1) left =
        had_at (entries g) (others_by g s block) (slice_set mid (beside block (block_of g ix.from)) (killed (counts_by g (with_sort ix.to Index (moved ms (sort_at g was))) (block_of g ix.from))))
        (d.index + d.pages - 1) (d.index + d.pages - 1) left left is.others refl refl kill in
        let own_index : (counts_by g s block).index ≡ d.index = ap (λ (c : Counts). c.index) is.own ∙ out.index in
        let own_pages : (counts_by g s block).pages ≡ (counts_by g (moved ms (sort_at g was)) block).pages = ap (λ (c : Counts). c.pages) is.own in
        had_less (entries g) (others_by g s block) 0 (d.index + d.pages - 1) left ((counts_by g s block).index + (counts_by g s block).pages) (counts_by g s block).pages (entries_pos g)
        (omega (arith, own_index, own_pages, out.pages, some)) (omega (arith, own_pages, out.pages)) kill'

pub batch_has_places : (g : Geometry) → BatchHasPlaces g
batch_has_places g first was block ms low between places are ways = batch_places g first was block low between places ms are ways

pub batch_goes_on : (g : Geometry) → BatchGoesOn g
batch_goes_on g first was now block ix ms low between places ways some apart place batch way t gone =
    let s = tidy_is_staged g now t in
    let is = way.way.image_is in
    let came : All (Came (sort_at g was) (sort_at g now)) (ix ∷ ms) = ⊎_elim
    (λ (c : All (Came (sort_at g was) (sort_at g now)) (ix ∷ ms)). c)
    (λ (c : All (Stayed (sort_at g was) (sort_at g now)) (ix ∷ ms)).
    absurd (stays_not g was now ix (all_head (Stayed (sort_at g was) (sort_at g now)) ix ms c) (index_sort g first was now block low ix ms between ways some apart place batch way now is s) gone))
    (batch_or g first was now block low ix ms between ways some apart place batch way now is s) in (
      record { image_is = is; tidy = t; table = way.table ∙ between.table; emptying = came_empties g first was now block low ix ms between ways some apart place batch way now is s came },
      places_at g block low (after g first was now block low ix ms between ways some apart place batch way now is s came) (sort_at g now) (came_same g first was now block low ix ms between ways some apart place batch way now is s came)
          (renewed_places g first was block low between places ix ms (moves_tail g was ix ms way.moves_are).1 ways some (from_page g first was now block low ix ms between ways some apart place batch way now is s) apart
          (index_there g first was now block low ix ms between ways some apart place batch way now is s came) place),
    )
