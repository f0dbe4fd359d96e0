-- Live pages that leave a block.
use Rattle.std.proofs.Common.{◌≡◌, ℕ, suc, ◌≤◌, ◌+◌, ◌-◌, ◌<◌, List, ◌∷◌, length, refl, sym, ◌∙◌, subst, arith, ⊎_elim, slice_index_or, slice_set}
use Rattle.room_laws.specs.Counts.{Counts, Kind, unused, for_index, for_data, kind_of, if_kind}
use Rattle.room_laws.specs.Volume.{IsVolume, blocks_of, free_of, deleted_of, index_total, pages_total}
use Rattle.room_laws.specs.Steps.{placed, killed, CanPut, Reached}
use Rattle.room_laws.specs.Order.{Rearranged, Stays}
use Rattle.room_laws.specs.Cleaning.{KindKept}
use Rattle.room_laws.specs.Leaving.{Emptying, SameTotals, fresh, EmptyingStarts, IndexLeaves, PageLeaves, IndexRenewed, EmptyingCleans, CleanedRearranged}
use Rattle.room_laws.proofs.Totals.{Seen, is_unused, is_index, is_data, seen, sums}
use Rattle.room_laws.proofs.Cuts.{one-more}
use Rattle.room_laws.proofs.Moves.{kind-data, reached_start, reached_index, reached_data, reached_kill, reached_end}
use Rattle.room_laws.proofs.Orders.{stays_start, stays_set, stays_end, blocks-same, free-same, index-same}
use Rattle.room_laws.proofs.Puts.{put-index, put-data, kill-index}
use Rattle.room_laws.proofs.HavePlaces.{need-put, need-opened}

pub emptying_starts : EmptyingStarts
emptying_starts e c r all = record {
  renewed = 0;
  reached = reached_start e r all;
  stays = stays_start r;
  spent = omega arith;
  free = refl;
  whole = refl;
  index = omega arith;
  few = omega arith;
}

-- no data block is changed by an index page
stays-index : (r s : List Counts) (i : ℕ) (c d : Counts) → Stays r s → CanPut s for_index i c → Stays r (slice_set s i d)
stays-index r s i c d was can = stays_set r s i c d was can.within can.at (λ kind. ⊎_elim (λ (k : kind_of c ≡ for_index). absurd (cc)) (λ (k : (kind_of c ≡ unused) × (free_of for_index s ≡ 0)). let u = k.0 in absurd (cc)) can.rule)

pub index_leaves : IndexLeaves
index_leaves e c r d s carried i x can some was =
    let t = put-index e s i x was.reached.blocks can in
    record {
      renewed = was.renewed;
      reached = reached_index e r s was.renewed i x was.reached can;
      stays = stays-index r s i x (placed for_index x) was.stays can;
      spent = rw (t.other_blocks, t.other_free) was.spent;
      free = was.free;
      whole = omega (arith, was.whole, some);
      index = omega (arith, was.index);
      few = was.few;
    }

pub page_leaves : PageLeaves
page_leaves e c r d s carried i x pos can some was =
    let t = put-data e s i x was.reached.blocks can in
    let one : d.pages ≡ d.pages - 1 + 1 = omega arith in
    record {
      renewed = was.renewed;
      reached = reached_data e r s was.renewed i x was.reached can;
      stays = stays_set r s i x (placed for_data x) was.stays can.within can.at (λ kind. (kind-data (placed for_data x) (omega arith), omega arith));
      spent = ⊎_elim
          (λ own. let n = need-put e (d.pages - 1) (free_of for_data s) (free_of for_data (slice_set s i (placed for_data x))) own.2 in
          let n' = rw (sym one) at n in omega (arith, n', own.1, was.spent))
          (λ own.
          let n = need-opened e (d.pages - 1) (free_of for_data (slice_set s i (placed for_data x))) pos own.3 in
          let n' = rw (sym one) at n in
          let spent = rw own.2 at was.spent in
          omega (arith, n', own.1, spent))
          t.own;
      free = was.free;
      whole = omega (arith, was.whole, some);
      index = was.index;
      few = omega (arith, was.few, some);
    }

-- nor by one that is killed
stays-kill : (r s : List Counts) (i : ℕ) (c d : Counts) → Stays r s → i < length s → slice_index_or s i c ≡ c → kind_of c ≡ for_index → Stays r (slice_set s i d)
stays-kill r s i c d was within at kind = stays_set r s i c d was within at (λ k. absurd (cc))

pub index_renewed : IndexRenewed
index_renewed e c r d s t carried i j x y some can eq within at kind live was =
    let is : t ≡ slice_set s i (placed for_index x) = eq in
    let p = put-index e s i x was.reached.blocks can in
    let reached : Reached e r t was.renewed = subst (λ (z : List Counts). Reached e r z was.renewed) (sym eq) (reached_index e r s was.renewed i x was.reached can) in
    let stays : Stays r t = subst (λ (z : List Counts). Stays r z) (sym eq) (stays-index r s i x (placed for_index x) was.stays can) in
    let k = kill-index e t j y reached.blocks within at kind live in
    let same_blocks : blocks_of for_data (slice_set t j (killed y)) ≡ blocks_of for_data s = k.blocks for_data ∙ (rw eq p.other_blocks) in
    let same_free : free_of for_data (slice_set t j (killed y)) ≡ free_of for_data s = k.free for_data ∙ (rw eq p.other_free) in
    record {
      renewed = was.renewed + 1;
      reached = reached_kill e r t was.renewed j y reached within at kind live;
      stays = stays-kill r t j y (killed y) stays within at kind;
      spent = rw (same_blocks, same_free) was.spent;
      free = was.free;
      whole = was.whole;
      index = was.index;
      few = omega (arith, was.few, some);
    }

-- a block for index pages has no data page to carry
pub none-renewed : (e : ℕ) (c : Counts) (r : List Counts) (d : Counts) (s : List Counts) (carried : ℕ) → IsVolume e (c ∷ r) → (was : Emptying e c r d s carried) → kind_of c ≡ for_index → c.pages ≡ 0
none-renewed e c r d s carried is was kind = by (seen e c (is.blocks 0 c (omega arith)))
  where
    by : Seen e c → c.pages ≡ 0
    by (is_unused j i p x) = p
    by (is_index j p x w) = p
    by (is_data j i x w) = absurd (cc)

-- at most one block more is for index pages
index-few : (e : ℕ) (c : Counts) (r : List Counts) (d : Counts) (s : List Counts) (carried : ℕ) → IsVolume e (c ∷ r) → Emptying e c r d s carried → SameTotals c r d s → d.index ≡ 0 → blocks_of for_index s ≤ blocks_of for_index r + 1
index-few e c r d s carried is was same none =
    let x = sums e r (λ k b low. is.blocks (suc k) b (omega (arith, low))) in
    let y = sums e s was.reached.blocks in
    let whole = (is.blocks 0 c (omega arith)).whole in
    one-more e (index_total r) (free_of for_index r) (deleted_of for_index r) (blocks_of for_index r) (index_total s) (free_of for_index s) (deleted_of for_index s) (blocks_of for_index s) x.index y.index was.reached.on_index.taken
    (omega (arith, same.index, none, was.reached.index_deleted, was.few, whole))

pub emptying_cleans : EmptyingCleans
emptying_cleans e c r d s carried is was same no_index no_pages = record {
  cleaned = reached_end e c (fresh e) r s was.renewed is was.reached
      (λ kind. let none = none-renewed e c r d s carried is was kind in omega (arith, was.few, none))
      (index-few e c r d s carried is was same no_index)
      refl refl refl refl (omega (arith, same.index, no_index)) (omega (arith, same.pages, no_pages));
  stay = stays_end r s c (fresh e) was.stays;
  deleted = omega (arith, was.reached.index_deleted, was.reached.data_deleted, was.few);
}

deleted-same : (k : Kind) (a b : List Counts) → Rearranged a b → deleted_of k a ≡ deleted_of k b
unfolding deleted_of
deleted-same k a b r = sym (r.totals (λ c. if_kind k c c.deleted))

pages-same : (a b : List Counts) → Rearranged a b → pages_total a ≡ pages_total b
unfolding pages_total
pages-same a b r = sym (r.totals (λ c. c.pages))

kept-same : (e : ℕ) (a a' b b' : List Counts) (c : Counts) (k : Kind) → Rearranged a a' → Rearranged b b' → KindKept e a c b k → KindKept e a' c b' k
kept-same e a a' b b' c k x y was = record {
  taken = λ h. let low = was.taken (omega (arith, h, blocks-same k a a' x, blocks-same k b b' y)) in omega (arith, low, free-same k b b' y);
  deleted = omega (arith, was.deleted, deleted-same k a a' x, deleted-same k b b' y);
}

pub cleaned_rearranged : CleanedRearranged
cleaned_rearranged e a a' b b' c before after x y was = record {
  before = before;
  after = after;
  victim = x.blocks c was.victim;
  blocks = y.long ∙ was.blocks ∙ sym x.long;
  index = sym (index-same b b' y) ∙ was.index ∙ index-same a a' x;
  pages = sym (pages-same b b' y) ∙ was.pages ∙ pages-same a a' x;
  free = omega (arith, was.free, blocks-same unused b b' y);
  for_index_kept = λ kind. kept-same e a a' b b' c for_index x y (was.for_index_kept kind);
  for_data_kept = kept-same e a a' b b' c for_data x y was.for_data_kept;
  index_few = omega (arith, was.index_few, blocks-same for_index a a' x, blocks-same for_index b b' y);
}
