-- Entries that were spoiled, by what entries count as.
use Rattle.std.proofs.Common.{◌≡◌, ◌≢◌, ℕ, suc, ◌+◌, ◌<◌, ◌≤◌, ◌⊎◌, List, [], ◌∷◌, length, true, refl, sym, ◌∙◌, ap, subst, arith, ⊎_elim, inl, inr, slice_index_or, slice_set}
use Rattle.std.specs.Prelude.{All, Contains}
use Rattle.std.proofs.lemmas.Bool.{cases_eq, cases_lt, le-ltb, lt-ltb}
use Rattle.std.proofs.lemmas.List.Elements.{All-set}
use Rattle.geometry.specs.declared.geometry.Geometry.{Geometry}
use Rattle.geometry.specs.Numbers.{entries}
use Rattle.image_model.specs.Places.{block_of, is_entry_page}
use Rattle.image_model.specs.Within.{page_number, block_number}
use Rattle.room_laws.specs.Counts.{Counts, IsBlock, unused, for_index, for_data, kind_of}
use Rattle.room_laws.specs.Volume.{index_total, pages_total}
use Rattle.room_laws.specs.Order.{without}
use Rattle.room_laws.specs.Losing.{spoiled, Spoils, LeavesOneDead}
use Rattle.room_laws.specs.Sorts.{Sort, Deleted, Free, counts_by, others_by, beside, with_sort}
use Rattle.room_laws.specs.Ways.{Move, AreApart, AreMoves, IsNoPlace}
use Rattle.room_laws.proofs.Totals.{Seen, is_unused, is_index, is_data, seen}
use Rattle.room_laws.proofs.Moves.{blocks-set, kind-index, kind-data, block-of}
use Rattle.room_laws.proofs.Loses.{StillData, same-live, spoiled-block, spoils_none, spoils_one, spoils_on}
use Rattle.room_laws.proofs.Sorted.{same-block, same_sorts, with-here, with-there, sorts_change, sorts_are_counted, other_sorts_stay, blocks_beside}
use Rattle.room_laws.proofs.SortSteps.{own_stays, entry_spoiled}
use Rattle.room_laws.proofs.OnTheWay.{all_nil, all_cons}

-- ---- kinds

pub pages_some : (c : Counts) → kind_of c ≡ for_data → 0 < c.pages
unfolding kind_of
pages_some c kind = ⊎_elim
    (λ (some : 0 < c.pages). some)
    (λ (none : c.pages ≤ 0). ⊎_elim
    (λ (used : 0 < c.index + c.deleted). absurd (let bad : for_index ≡ for_data = rw (le-ltb 0 c.pages none, lt-ltb 0 (c.index + c.deleted) used) at kind in cc))
    (λ (few : c.index + c.deleted ≤ 0). absurd (let bad : unused ≡ for_data = rw (le-ltb 0 c.pages none, le-ltb 0 (c.index + c.deleted) few) at kind in cc))
    (cases_lt 0 (c.index + c.deleted)))
    (cases_lt 0 c.pages)

unused_none : (c : Counts) → kind_of c ≡ unused → (c.index ≡ 0) × (c.pages ≡ 0)
unfolding kind_of
unused_none c kind = ⊎_elim
    (λ (some : 0 < c.pages). absurd (let bad : for_data ≡ unused = rw (lt-ltb 0 c.pages some) at kind in cc))
    (λ (none : c.pages ≤ 0). ⊎_elim
    (λ (used : 0 < c.index + c.deleted). absurd (let bad : for_index ≡ unused = rw (le-ltb 0 c.pages none, lt-ltb 0 (c.index + c.deleted) used) at kind in cc))
    (λ (few : c.index + c.deleted ≤ 0). (omega arith, omega arith))
    (cases_lt 0 (c.index + c.deleted)))
    (cases_lt 0 c.pages)

-- a spoiled entry leaves the live pages and the data blocks
spoil_still : (e : ℕ) (s : List Counts) (i : ℕ) (c : Counts) → i < length s → slice_index_or s i c ≡ c → Seen e c → StillData s (slice_set s i (spoiled c))
spoil_still e s i c within at look = by look
  where
    live : (index_total (slice_set s i (spoiled c)) ≡ index_total s) × (pages_total (slice_set s i (spoiled c)) ≡ pages_total s)
    live = same-live s i c (spoiled c) within at refl refl

    by : Seen e c → StillData s (slice_set s i (spoiled c))
    by (is_unused k j p x) =
        let kd = kind-index (spoiled c) p (omega arith) in
        let b = rw (k, kd) at (blocks-set for_data s i c (spoiled c) within at) in
        record { blocks = omega (arith, b); index_live = live.0; pages_live = live.1 }
    by (is_index k p x w) =
        let kd = kind-index (spoiled c) p (omega arith) in
        let b = rw (k, kd) at (blocks-set for_data s i c (spoiled c) within at) in
        record { blocks = omega (arith, b); index_live = live.0; pages_live = live.1 }
    by (is_data k j x w) =
        let kd = kind-data (spoiled c) x in
        let b = rw (k, kd) at (blocks-set for_data s i c (spoiled c) within at) in
        record { blocks = omega (arith, b); index_live = live.0; pages_live = live.1 }

-- ---- places of moves that stayed

-- what entries count as with the places as they are now
abbrev pub staying : (ℕ → Sort) → List Move → (ℕ → Sort) → ℕ → Sort
staying now [] base = base
staying now (m ∷ ms) base = with_sort m.to (now m.to) (staying now ms base)

stay_at : (now base : ℕ → Sort) (ms : List Move) (p : ℕ) → IsNoPlace ms p → staying now ms base p ≡ base p
stay_at now base [] p aside = refl
stay_at now base (m ∷ ms) p aside = with-there (staying now ms base) m.to p (now m.to) (aside 0 m (omega arith)) ∙ stay_at now base ms p (λ k d low. aside (suc k) d (omega arith))

pub stay_same : (now base : ℕ → Sort) (ms : List Move) (p : ℕ) → (IsNoPlace ms p → now p ≡ base p) → now p ≡ staying now ms base p
stay_same now base [] p others = others (all_nil (λ (m : Move). p ≢ m.to))
stay_same now base (m ∷ ms) p others = ⊎_elim
    (λ (here : p ≡ m.to). ap now here ∙ sym (ap (with_sort m.to (now m.to) (staying now ms base)) here ∙ with-here (staying now ms base) m.to (now m.to)))
    (λ (away : p ≡ m.to → ⊥).
    stay_same now base ms p (λ aside. others (all_cons (λ (n : Move). p ≢ n.to) m ms away aside)) ∙ sym (with-there (staying now ms base) m.to p (now m.to) away))
    (cases_eq p m.to)

-- a place that was free and is spoiled or free now
pub record IsSpare (g : Geometry) (block : ℕ) (now base : ℕ → Sort) (m : Move) : Type 0 where
  pub entry : is_entry_page g m.to ≡ true
  pub apart : block_of g m.to ≢ block
  pub free : base m.to ≡ Free
  pub ended : (now m.to ≡ Deleted) ⊎ (now m.to ≡ Free)

module _ (g : Geometry) (block : ℕ) (low : block < g.blocks) where
  -- live pages and data blocks are as they were
  pub record StayTells (base sorts : ℕ → Sort) : Type 0 where
    pub blocks : All (IsBlock (entries g)) (others_by g sorts block)
    pub live : (b : ℕ) → b < g.blocks → ((counts_by g sorts b).index ≡ (counts_by g base b).index) × ((counts_by g sorts b).pages ≡ (counts_by g base b).pages)
    pub own : counts_by g sorts block ≡ counts_by g base block
    pub still : StillData (others_by g base block) (others_by g sorts block)

  tells_none : (base : ℕ → Sort) → All (IsBlock (entries g)) (others_by g base block) → StayTells base base
  tells_none base blocks = record { blocks = blocks; live = λ b there. (refl, refl); own = refl; still = record { blocks = refl; index_live = refl; pages_live = refl } }

  pub others_equal : (a b : ℕ → Sort) → ((p : ℕ) → is_entry_page g p ≡ true → b p ≡ a p) → others_by g b block ≡ others_by g a block
  others_equal a b same = ap (without block) (same_sorts g a b same)

  tells_same : (base a b : ℕ → Sort) → ((p : ℕ) → is_entry_page g p ≡ true → b p ≡ a p) → StayTells base a → StayTells base b
  tells_same base a b same was =
      let others = others_equal a b same in
      record {
        blocks = subst (λ (s : List Counts). All (IsBlock (entries g)) s) (sym others) was.blocks;
        live = λ c there. let at = same-block g a b c there (λ p page here. same p page) in let w = was.live c there in (ap (λ (z : Counts). z.index) at ∙ w.0, ap (λ (z : Counts). z.pages) at ∙ w.1);
        own = same-block g a b block low (λ p page here. same p page) ∙ was.own;
        still = subst (λ (s : List Counts). StillData (others_by g base block) s) (sym others) was.still;
      }

  -- a block that stands among the others
  pub stands_block : (a : ℕ → Sort) (b : ℕ) → b < g.blocks → b ≢ block → All (IsBlock (entries g)) (others_by g a block) → IsBlock (entries g) (counts_by g a b)
  stands_block a b there out blocks = let w = blocks_beside g a block b low there out in block-of (entries g) (others_by g a block) (beside block b) (counts_by g a b) blocks w.within w.at

  tells_spoil : (base a : ℕ → Sort) (to : ℕ) → is_entry_page g to ≡ true → block_of g to ≢ block → a to ≡ Free → StayTells base a → StayTells base (with_sort to Deleted a)
  tells_spoil base a to page out free was =
      let there = block_number g to (page_number g to page) in
      let w = blocks_beside g a block (block_of g to) low there out in
      let is = stands_block a (block_of g to) there out was.blocks in
      let some = (sorts_are_counted g a to page).free free in
      let spoil = entry_spoiled g block low a to page out free in
      let change = (sorts_change g a to page).spoil free in
      let next = spoil_still (entries g) (others_by g a block) (beside block (block_of g to)) (counts_by g a (block_of g to)) w.within w.at (seen (entries g) (counts_by g a (block_of g to)) is) in
      record {
        blocks = subst (λ (s : List Counts). All (IsBlock (entries g)) s) (sym spoil)
            (All-set (IsBlock (entries g)) (others_by g a block) (beside block (block_of g to)) (spoiled (counts_by g a (block_of g to))) (spoiled-block (entries g) (counts_by g a (block_of g to)) is some) was.blocks);
        live = λ b below. let v = was.live b below in ⊎_elim
            (λ (here : block_of g to ≡ b).
            let c : counts_by g (with_sort to Deleted a) b ≡ spoiled (counts_by g a b) = subst (λ (z : ℕ). counts_by g (with_sort to Deleted a) z ≡ spoiled (counts_by g a z)) here change in
            (ap (λ (z : Counts). z.index) c ∙ v.0, ap (λ (z : Counts). z.pages) c ∙ v.1))
            (λ (away : block_of g to ≡ b → ⊥).
            let c = other_sorts_stay g a Deleted to b page below away in (ap (λ (z : Counts). z.index) c ∙ v.0, ap (λ (z : Counts). z.pages) c ∙ v.1))
            (cases_eq (block_of g to) b);
        own = own_stays g block low a Deleted to page out ∙ was.own;
        still = subst (λ (s : List Counts). StillData (others_by g base block) s) (sym spoil)
            (record { blocks = next.blocks ∙ was.still.blocks; index_live = next.index_live ∙ was.still.index_live; pages_live = next.pages_live ∙ was.still.pages_live });
      }

  -- with a free place as it was nothing changes
  pub free_same : (a : ℕ → Sort) (to : ℕ) (x : Sort) → a to ≡ Free → x ≡ Free → (p : ℕ) → is_entry_page g p ≡ true → with_sort to x a p ≡ a p
  free_same a to x free is p page = ⊎_elim
      (λ (here : p ≡ to). ap (with_sort to x a) here ∙ with-here a to x ∙ is ∙ sym free ∙ ap a (sym here))
      (λ (away : p ≡ to → ⊥). with-there a to p x away)
      (cases_eq p to)

  module _ (now base : ℕ → Sort) (was : List ℕ) where
    -- a later place is free yet
    still_free : (m : Move) (ms : List Move) → IsSpare g block now base m → All (AreApart m) ms → staying now ms base m.to ≡ Free
    still_free m ms spare apart = stay_at now base ms m.to (λ k d low. (apart k d low).to) ∙ spare.free

    pub stay_tells : (ms : List Move) → AreMoves g was ms → All (IsSpare g block now base) ms → All (IsBlock (entries g)) (others_by g base block) → StayTells base (staying now ms base)
    unfolding AreMoves
    stay_tells [] are spare blocks = tells_none base blocks
    stay_tells (m ∷ ms) are spare blocks =
        let here = spare 0 m (omega arith) in
        let rest = stay_tells ms are.2 (λ k d below. spare (suc k) d (omega arith)) blocks in
        let free = still_free m ms here are.1 in
        ⊎_elim
        (λ (gone : now m.to ≡ Deleted). subst (λ (x : Sort). StayTells base (with_sort m.to x (staying now ms base))) (sym gone) (tells_spoil base (staying now ms base) m.to here.entry here.apart free rest))
        (λ (as_was : now m.to ≡ Free). tells_same base (staying now ms base) (with_sort m.to (now m.to) (staying now ms base)) (free_same (staying now ms base) m.to (now m.to) free as_was) rest)
        here.ended

    -- so many were spoiled, all in data blocks
    pub record Lost (ms : List Move) : Type 0 where
      pub n : ℕ
      pub few : n ≤ length ms
      pub spoils : Spoils (entries g) (others_by g base block) (others_by g (staying now ms base) block) n

    -- a spoiled place lies in a data block
    abbrev pub IsLostInData : Move → Type 0
    IsLostInData m = now m.to ≡ Deleted → kind_of (counts_by g base (block_of g m.to)) ≡ for_data

    pub lost : (ms : List Move) → AreMoves g was ms → All (IsSpare g block now base) ms → All (IsBlock (entries g)) (others_by g base block) → All IsLostInData ms → Lost ms
    unfolding AreMoves
    lost [] are spare blocks kinds = record { n = 0; few = omega arith; spoils = spoils_none (entries g) (others_by g base block) blocks }
    lost (m ∷ ms) are spare blocks kinds =
        let here = spare 0 m (omega arith) in
        let spare' : All (IsSpare g block now base) ms = λ k d below. spare (suc k) d (omega arith) in
        let rest = lost ms are.2 spare' blocks (λ k d below. kinds (suc k) d (omega arith)) in
        let tells = stay_tells ms are.2 spare' blocks in
        let free = still_free m ms here are.1 in
        let T = staying now ms base in
        ⊎_elim
        (λ (gone : now m.to ≡ Deleted).
        let there = block_number g m.to (page_number g m.to here.entry) in
        let w = blocks_beside g T block (block_of g m.to) low there here.apart in
        let some = (sorts_are_counted g T m.to here.entry).free free in
        let pages = pages_some (counts_by g base (block_of g m.to)) ((kinds 0 m (omega arith)) gone) in
        let kind : kind_of (counts_by g T (block_of g m.to)) ≡ for_data = kind-data (counts_by g T (block_of g m.to)) (omega (arith, pages, (tells.live (block_of g m.to) there).1)) in
        let one = spoils_one (entries g) (others_by g T block) (beside block (block_of g m.to)) (counts_by g T (block_of g m.to)) tells.blocks w.within w.at kind some in
        let one' : Spoils (entries g) (others_by g T block) (others_by g (with_sort m.to Deleted T) block) 1 = subst (λ (s : List Counts). Spoils (entries g) (others_by g T block) s 1) (sym (entry_spoiled g block low T m.to here.entry here.apart free)) one in
        let all = spoils_on (entries g) (others_by g base block) (others_by g T block) (others_by g (with_sort m.to Deleted T) block) rest.n 1 rest.spoils one' in
        record { n = rest.n + 1; few = omega (arith, rest.few); spoils = subst (λ (x : Sort). Spoils (entries g) (others_by g base block) (others_by g (with_sort m.to x T) block) (rest.n + 1)) (sym gone) all })
        (λ (as_was : now m.to ≡ Free).
        let same = others_equal T (with_sort m.to (now m.to) T) (free_same T m.to (now m.to) free as_was) in
        record { n = rest.n; few = omega (arith, rest.few); spoils = subst (λ (s : List Counts). Spoils (entries g) (others_by g base block) s rest.n) (sym same) rest.spoils })
        here.ended

    -- a spoiled place lies in a block that was unused
    pub record HasDead (ms : List Move) : Type 0 where
      pub move : Move
      pub one : Contains ms move
      pub gone : now move.to ≡ Deleted
      pub kind : kind_of (counts_by g base (block_of g move.to)) ≡ unused

    dead_later : (m : Move) (ms : List Move) → HasDead ms → HasDead (m ∷ ms)
    dead_later m ms d = record { move = d.move; one = (suc d.one.0, omega (arith, d.one.1), d.one.2); gone = d.gone; kind = d.kind }

    pub lost_or_dead : (ms : List Move) → All (λ (m : Move). (kind_of (counts_by g base (block_of g m.to)) ≡ for_data) ⊎ (kind_of (counts_by g base (block_of g m.to)) ≡ unused)) ms →
        All (IsSpare g block now base) ms → All IsLostInData ms ⊎ HasDead ms
    lost_or_dead [] kinds spare = inl (all_nil IsLostInData)
    lost_or_dead (m ∷ ms) kinds spare = ⊎_elim
        (λ (rest : All IsLostInData ms). ⊎_elim
        (λ (data_kind : kind_of (counts_by g base (block_of g m.to)) ≡ for_data). inl (all_cons IsLostInData m ms (λ gone. data_kind) rest))
        (λ (none : kind_of (counts_by g base (block_of g m.to)) ≡ unused). ⊎_elim
        (λ (gone : now m.to ≡ Deleted). inr (record { move = m; one = (0, omega arith, refl); gone = gone; kind = none }))
        (λ (as_was : now m.to ≡ Free). inl (all_cons IsLostInData m ms (λ gone. let bad : Deleted ≡ Free = sym gone ∙ as_was in absurd (cc)) rest))
        (spare 0 m (omega arith)).ended)
        (kinds 0 m (omega arith)))
        (λ (d : HasDead ms). inr (dead_later m ms d))
        (lost_or_dead ms (λ k d below. kinds (suc k) d (omega arith)) (λ k d below. spare (suc k) d (omega arith)))

    -- that block is dead
    pub leaves_dead : (ms : List Move) (s : List Counts) → (d : HasDead ms) → IsSpare g block now base d.move → StayTells base (staying now ms base) → StillData s (others_by g base block) → now d.move.to ≡ staying now ms base d.move.to →
        LeavesOneDead s (others_by g (staying now ms base) block)
    leaves_dead ms s d spare tells still here =
        let there = block_number g d.move.to (page_number g d.move.to spare.entry) in
        let w = blocks_beside g (staying now ms base) block (block_of g d.move.to) low there spare.apart in
        let none = unused_none (counts_by g base (block_of g d.move.to)) d.kind in
        let live = tells.live (block_of g d.move.to) there in
        record {
          block = counts_by g (staying now ms base) (block_of g d.move.to);
          one = (beside block (block_of g d.move.to), w.within, w.at);
          deleted = (sorts_are_counted g (staying now ms base) d.move.to spare.entry).deleted (sym here ∙ d.gone);
          no_index = live.0 ∙ none.0;
          no_pages = live.1 ∙ none.1;
          index_live = tells.still.index_live ∙ still.index_live;
          pages_live = tells.still.pages_live ∙ still.pages_live;
          data_blocks = omega (arith, tells.still.blocks, still.blocks);
        }
