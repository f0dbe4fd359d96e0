-- Copies that were lost on their way.
use Rattle.std.proofs.Common.{◌≡◌, ℕ, ◌+◌, ◌<◌, ◌≤◌, ◌⊎◌, List, ◌∷◌, length, max, refl, sym, ◌∙◌, subst, arith, ⊎_elim, inl, inr, slice_index_or, slice_set}
use Rattle.std.specs.Prelude.{All}
use Rattle.std.proofs.lemmas.List.Elements.{All-set}
use Rattle.room_laws.specs.Counts.{Counts, IsBlock, unused, for_index, for_data, kind_of}
use Rattle.room_laws.specs.Volume.{IsVolume, blocks_of, free_of, index_total, pages_total}
use Rattle.room_laws.specs.Cut.{CutIndex, CutData}
use Rattle.room_laws.specs.Steps.{CanPut, Reached}
use Rattle.room_laws.specs.Leaving.{Emptying, SameTotals}
use Rattle.room_laws.specs.Losing.{spoiled, Spoils, SpoilsNone, SpoilsOne, SpoilsOn, LosesIndex, OpensFew, EmptyingIsCut, IndexLostIsCut, PagesLostAreCut, LeavesOneDead, DeadIsCut}
use Rattle.room_laws.proofs.Totals.{Seen, is_unused, is_index, is_data, seen}
use Rattle.room_laws.proofs.Moves.{length-set, total-set, blocks-set, free-set, deleted-set, kind-index, kind-data, block-of, no-pages, to-index}
use Rattle.room_laws.proofs.HavePlaces.{need-some, need-few, need-none}

-- ---- spoiled entries

pub spoils_none : SpoilsNone
spoils_none e s all = record { blocks = all; long = refl; kinds = λ k. refl; index_live = refl; pages_live = refl; index_free = refl; index_deleted = refl; data_free = omega arith; data_deleted = omega arith }

pub spoils_on : SpoilsOn
spoils_on e s t u m n a b = record {
  blocks = b.blocks;
  long = b.long ∙ a.long;
  kinds = λ k. b.kinds k ∙ a.kinds k;
  index_live = b.index_live ∙ a.index_live;
  pages_live = b.pages_live ∙ a.pages_live;
  index_free = b.index_free ∙ a.index_free;
  index_deleted = b.index_deleted ∙ a.index_deleted;
  data_free = omega (arith, a.data_free, b.data_free);
  data_deleted = omega (arith, a.data_deleted, b.data_deleted);
}

-- a block with a spoiled entry is one
pub spoiled-block : (e : ℕ) (c : Counts) → IsBlock e c → 0 < c.free → IsBlock e (spoiled c)
spoiled-block e c is some = record { whole = omega (arith, is.whole, some); apart = is.apart }

pub same-live : (s : List Counts) (i : ℕ) (c d : Counts) → i < length s → slice_index_or s i c ≡ c → d.index ≡ c.index → d.pages ≡ c.pages →
    (index_total (slice_set s i d) ≡ index_total s) × (pages_total (slice_set s i d) ≡ pages_total s)
unfolding index_total pages_total
same-live s i c d within at index pages =
    let x = total-set (λ c. c.index) s i c d within at in
    let y = total-set (λ c. c.pages) s i c d within at in
    (omega (arith, x, index), omega (arith, y, pages))

one-spoiled : (e : ℕ) (s : List Counts) (i : ℕ) (c d : Counts) → All (IsBlock e) s → i < length s → slice_index_or s i c ≡ c → IsBlock e d → kind_of c ≡ for_data → kind_of d ≡ for_data →
    d.index ≡ c.index → d.pages ≡ c.pages → d.free + 1 ≡ c.free → d.deleted ≡ c.deleted + 1 → Spoils e s (slice_set s i d) 1
one-spoiled e s i c d all within at is kc kd index pages free deleted =
    let live = same-live s i c d within at index pages in
    let kinds : kind_of d ≡ kind_of c = kd ∙ sym kc in
    let fi = rw (kc, kd) at (free-set for_index s i c d within at) in
    let fd = rw (kc, kd) at (free-set for_data s i c d within at) in
    let di = rw (kc, kd) at (deleted-set for_index s i c d within at) in
    let dd = rw (kc, kd) at (deleted-set for_data s i c d within at) in
    record {
      blocks = All-set (IsBlock e) s i d is all;
      long = length-set s i d;
      kinds = λ k. let b = rw kinds at (blocks-set k s i c d within at) in omega (arith, b);
      index_live = live.0;
      pages_live = live.1;
      index_free = omega (arith, fi);
      index_deleted = omega (arith, di);
      data_free = omega (arith, fd, free);
      data_deleted = omega (arith, dd, deleted);
    }

pub spoils_one : SpoilsOne
spoils_one e s i c all within at kind some =
    let is = block-of e s i c all within at in
    let pages : 0 < c.pages = by (seen e c is) in
    one-spoiled e s i c (spoiled c) all within at (spoiled-block e c is some) kind (kind-data (spoiled c) pages) refl refl (omega (arith, some)) refl
  where
    by : Seen e c → 0 < c.pages
    by (is_unused j i p x) = absurd (cc)
    by (is_index j p x w) = absurd (cc)
    by (is_data j i x w) = x

-- the place of an index page was spoiled
pub reached-spoiled : (e : ℕ) (r s : List Counts) (n i : ℕ) (c : Counts) → Reached e r s n → CanPut s for_index i c → Reached e r (slice_set s i (spoiled c)) (n + 1)
reached-spoiled e r s n i c was can =
    let is = block-of e s i c was.blocks can.within can.at in
    let none = no-pages e s c (seen e c is) can.rule in
    to-index e r s n (n + 1) i c (spoiled c) was can.within can.at (spoiled-block e c is can.place)
    can.rule (kind-index (spoiled c) none (omega arith)) (seen e c is) (omega arith) (omega (arith, is.whole, can.place)) (omega arith)

-- the counts but those of blocks for index pages are as they were
pub record StillData (s t : List Counts) : Type 0 where
  pub blocks : blocks_of for_data t ≡ blocks_of for_data s
  pub index_live : index_total t ≡ index_total s
  pub pages_live : pages_total t ≡ pages_total s

index-spoiled : (s : List Counts) (i : ℕ) (c d : Counts) → i < length s → slice_index_or s i c ≡ c → (kind_of c ≡ for_index) ⊎ ((kind_of c ≡ unused) × (free_of for_index s ≡ 0)) → kind_of d ≡ for_index →
    d.index ≡ c.index → d.pages ≡ c.pages → StillData s (slice_set s i d)
index-spoiled s i c d within at rule kd index pages =
    let live = same-live s i c d within at index pages in
    record {
      blocks = ⊎_elim
          (λ (kc : kind_of c ≡ for_index). let b = rw (kc, kd) at (blocks-set for_data s i c d within at) in omega (arith, b))
          (λ (kc : (kind_of c ≡ unused) × (free_of for_index s ≡ 0)). let b = rw (kc.0, kd) at (blocks-set for_data s i c d within at) in omega (arith, b))
          rule;
      index_live = live.0;
      pages_live = live.1;
    }

pub still-data : (e : ℕ) (s t : List Counts) → All (IsBlock e) s → LosesIndex s t → StillData s t
still-data e s t all (i, x, can, eq) =
    let is = block-of e s i x all can.within can.at in
    let none = no-pages e s x (seen e x is) can.rule in
    subst (λ (z : List Counts). StillData s z) (sym eq) (index-spoiled s i x (spoiled x) can.within can.at can.rule (kind-index (spoiled x) none (omega arith)) refl refl)

-- ---- blocks that are opened

pub opens_few : OpensFew
opens_few e c r d s carried is was few =
    let c_is = is.blocks 0 c (omega arith) in
    let n = need-some e d.pages (free_of for_data s) is.entries few in
    let m = need-few e c.pages (free_of for_data r) is.entries (omega (arith, c_is.whole)) in
    omega (arith, n, m, was.spent)

-- ---- cuts

no-index : (e : ℕ) (c : Counts) → Seen e c → kind_of c ≡ for_data → c.index ≡ 0
no-index e c (is_unused k i p x) j = i
no-index e c (is_index k d x w) j = absurd (cc)
no-index e c (is_data k i x w) j = i

no-data : (e : ℕ) (c : Counts) → Seen e c → kind_of c ≡ for_index → c.pages ≡ 0
no-data e c (is_unused k i p x) j = p
no-data e c (is_index k p x w) j = p
no-data e c (is_data k i x w) j = absurd (cc)

in-use : (e : ℕ) (c : Counts) → Seen e c → kind_of c ≡ for_index → 0 < c.index + c.deleted
in-use e c (is_unused k i p x) j = absurd (cc)
in-use e c (is_index k p x w) j = x
in-use e c (is_data k i x w) j = absurd (cc)

module _ (e : ℕ) (c : Counts) (r : List Counts) (d : Counts) (s : List Counts) (carried : ℕ) (is : IsVolume e (c ∷ r)) (was : Emptying e c r d s carried) (same : SameTotals c r d s) where
  head : Seen e c
  head = seen e c (is.blocks 0 c (omega arith))

  -- of a block for index pages, where m index entries more are deleted
  index-cut : (t : List Counts) (m : ℕ) → kind_of c ≡ for_index → m ≤ 1 → m ≤ d.index → Reached e r t (was.renewed + m) → StillData s t → CutIndex e c r d t
  index-cut t m kind one few reached still =
      let none = no-data e c head kind in
      let some = in-use e c head kind in
      let spent : blocks_of for_data s ≤ blocks_of for_data r =
      let n = need-none e (free_of for_data r) is.entries in
      let spent = rw none at was.spent in omega (arith, spent, n) in
      record {
        kind = kind;
        still = kind-index d (omega (arith, was.few, none)) (omega (arith, was.whole, was.few, none, some));
        free = was.free;
        fewer = was.index;
        index = omega (arith, same.index, still.index_live);
        copies = omega (arith, same.index, still.index_live, reached.index_deleted, was.few, none, few);
        spoiled = omega (arith, reached.index_deleted, was.few, none, one);
        takes = reached.on_index;
        pages = omega (arith, spent, still.blocks);
      }

  -- of a data block, with a batch or none that was lost
  data-cut : (s' t : List Counts) (m n : ℕ) → kind_of c ≡ for_data → m ≤ 1 → Reached e r s' (was.renewed + m) → StillData s s' → Spoils e s' t n → n ≤ d.pages → n ≤ max 1 (c.deleted + c.free) → CutData e c r d t
  data-cut s' t m n kind one reached still spoils few batch =
      let none = no-index e c head kind in
      record {
        kind = kind;
        free = was.free;
        no_index = omega (arith, was.index, none);
        index = omega (arith, same.index, was.index, none, still.index_live, spoils.index_live);
        pages = omega (arith, same.pages, still.pages_live, spoils.pages_live);
        lost = inl (record {
          copies = omega (arith, same.pages, still.pages_live, spoils.pages_live, reached.data_deleted, spoils.data_deleted, few);
          batch = omega (arith, reached.data_deleted, spoils.data_deleted, batch);
          renewed = omega (arith, same.pages, still.pages_live, spoils.pages_live, reached.index_deleted, spoils.index_deleted, was.few, one);
          takes_data = record { taken = λ h. let low = reached.on_data.taken (omega (arith, h, spoils.kinds for_data)) in omega (arith, low, spoils.data_free) };
          takes_index = record { taken = λ h. let low = reached.on_index.taken (omega (arith, h, spoils.kinds for_index)) in omega (arith, low, spoils.index_free) };
        });
      }

  still : StillData s s
  still = record { blocks = refl; index_live = refl; pages_live = refl }

  whole : Reached e r s (was.renewed + 0)
  whole = subst (λ (z : ℕ). Reached e r s z) (omega arith) was.reached

  lost : (t : List Counts) → LosesIndex s t → Reached e r t (was.renewed + 1)
  lost t (i, x, can, eq) = subst (λ (z : List Counts). Reached e r z (was.renewed + 1)) (sym eq) (reached-spoiled e r s was.renewed i x was.reached can)

  by-kind : {C : Type 0} → (kind_of c ≡ unused → ⊥) → (kind_of c ≡ for_index → C) → (kind_of c ≡ for_data → C) → C
  by-kind {C} used index pages = pick head
    where
      pick : Seen e c → C
      pick (is_unused k i p x) = absurd (used k)
      pick (is_index k p x w) = index k
      pick (is_data k i x w) = pages k

  emptying-cut : (kind_of c ≡ unused → ⊥) → CutIndex e c r d s ⊎ CutData e c r d s
  emptying-cut used = by-kind used
      (λ kind. inl (index-cut s 0 kind (omega arith) (omega arith) whole still))
      (λ kind. inr (data-cut s s 0 0 kind (omega arith) whole still (spoils_none e s was.reached.blocks) (omega arith) (omega arith)))

  index-lost-cut : (t : List Counts) → (kind_of c ≡ unused → ⊥) → (kind_of c ≡ for_index → 0 < d.index) → LosesIndex s t → CutIndex e c r d t ⊎ CutData e c r d t
  index-lost-cut t used some loses =
      let still' = still-data e s t was.reached.blocks loses in
      let reached = lost t loses in
      by-kind used
      (λ kind. inl (index-cut t 1 kind (omega arith) (some kind) reached still'))
      (λ kind. inr (data-cut t t 1 0 kind (omega arith) reached still' (spoils_none e t reached.blocks) (omega arith) (omega arith)))

  pages-lost-cut : (s' t : List Counts) (n : ℕ) → kind_of c ≡ for_data → (s' ≡ s) ⊎ LosesIndex s s' → Spoils e s' t n → n ≤ d.pages → n ≤ max 1 (c.deleted + c.free) → CutData e c r d t
  pages-lost-cut s' t n kind (inl eq) spoils few batch = data-cut s t 0 n kind (omega arith) whole still (subst (λ (z : List Counts). Spoils e z t n) eq spoils) few batch
  pages-lost-cut s' t n kind (inr loses) spoils few batch = data-cut s' t 1 n kind (omega arith) (lost s' loses) (still-data e s s' was.reached.blocks loses) spoils few batch

  dead-cut : (t : List Counts) → kind_of c ≡ for_data → free_of for_data s < d.pages → LeavesOneDead s t → CutData e c r d t
  dead-cut t kind few dead =
      let none = no-index e c head kind in
      record {
        kind = kind;
        free = was.free;
        no_index = omega (arith, was.index, none);
        index = omega (arith, same.index, was.index, none, dead.index_live);
        pages = omega (arith, same.pages, dead.pages_live);
        lost = inr (dead.block, dead.one, kind-index dead.block dead.no_pages (omega (arith, dead.deleted)), dead.no_index, dead.deleted, omega (arith, dead.data_blocks, opens_few e c r d s carried is was few));
      }

pub emptying_is_cut : EmptyingIsCut
emptying_is_cut e c r d s carried is used was same = emptying-cut e c r d s carried is was same used

pub index_lost_is_cut : IndexLostIsCut
index_lost_is_cut e c r d s t carried is used some was same loses = index-lost-cut e c r d s carried is was same t used some loses

pub pages_lost_are_cut : PagesLostAreCut
pages_lost_are_cut e c r d s s' t carried n is kind was same loses spoils few batch = pages-lost-cut e c r d s carried is was same s' t n kind loses spoils few batch

pub dead_is_cut : DeadIsCut
dead_is_cut e c r d s t carried is kind was same few dead = dead-cut e c r d s carried is was same t kind few dead
