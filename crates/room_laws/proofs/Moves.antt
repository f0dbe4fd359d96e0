-- Steps of a cleaning.
use Rattle.std.proofs.Common.{◌≡◌, ℕ, zero, suc, ◌+◌, ◌<◌, ◌≤◌, ◌⊎◌, List, [], ◌∷◌, length, refl, ap, subst, arith, inl, inr, slice_index_or, slice_set}
use Rattle.std.specs.Prelude.{All}
use Rattle.std.proofs.lemmas.List.Elements.{All-set}
use Rattle.std.proofs.lemmas.Bool.{lt-ltb, le-ltb}
use Rattle.room_laws.specs.Counts.{Counts, IsBlock, Kind, unused, for_index, for_data, kind_of, if_kind}
use Rattle.room_laws.specs.Volume.{total, blocks_of, free_of, deleted_of, index_total, pages_total}
use Rattle.room_laws.specs.Cleaning.{KindKept}
use Rattle.room_laws.specs.Cut.{Takes}
use Rattle.room_laws.specs.Steps.{placed, killed, Reached, ReachedStart, ReachedIndex, ReachedData, ReachedKill, ReachedEnd}
use Rattle.room_laws.proofs.Totals.{Seen, is_unused, is_index, is_data, seen}

pub total-set : (f : Counts → ℕ) (r : List Counts) (i : ℕ) (c d : Counts) → i < length r → slice_index_or r i c ≡ c → total f (slice_set r i d) + f c ≡ total f r + f d
total-set f [] i c d within at = absurd (omega arith)
total-set f (x ∷ r) zero c d within at = rw at (omega arith)
total-set f (x ∷ r) (suc i) c d within at = omega (arith, total-set f r i c d (omega arith) at)

pub length-set : (r : List Counts) (i : ℕ) (d : Counts) → length (slice_set r i d) ≡ length r
length-set [] i d = refl
length-set (x ∷ r) zero d = refl
length-set (x ∷ r) (suc i) d = ap suc (length-set r i d)

pub reached_start : ReachedStart
reached_start e r all = record { blocks = all; long = refl; on_index = record { taken = λ h. absurd (omega arith) }; on_data = record { taken = λ h. absurd (omega arith) }; index_deleted = omega arith; data_deleted = refl }

pub blocks-set : (k : Kind) (s : List Counts) (i : ℕ) (c d : Counts) → i < length s → slice_index_or s i c ≡ c → blocks_of k (slice_set s i d) + if_kind k c 1 ≡ blocks_of k s + if_kind k d 1
unfolding blocks_of
blocks-set k s i c d within at = total-set (λ c. if_kind k c 1) s i c d within at

pub free-set : (k : Kind) (s : List Counts) (i : ℕ) (c d : Counts) → i < length s → slice_index_or s i c ≡ c → free_of k (slice_set s i d) + if_kind k c c.free ≡ free_of k s + if_kind k d d.free
unfolding free_of
free-set k s i c d within at = total-set (λ c. if_kind k c c.free) s i c d within at

pub deleted-set : (k : Kind) (s : List Counts) (i : ℕ) (c d : Counts) → i < length s → slice_index_or s i c ≡ c → deleted_of k (slice_set s i d) + if_kind k c c.deleted ≡ deleted_of k s + if_kind k d d.deleted
unfolding deleted_of
deleted-set k s i c d within at = total-set (λ c. if_kind k c c.deleted) s i c d within at

-- a block of the kind stays one and gains no free entry, or one is begun where none was free
abbrev pub Begins : ℕ → List Counts → Kind → Counts → Counts → Type 0
Begins e s k c d = ((if_kind k c 1 ≡ if_kind k d 1) × (if_kind k d d.free ≤ if_kind k c c.free)) ⊎ ((if_kind k c 1 ≤ if_kind k d 1) × (free_of k s ≡ 0) × (if_kind k d d.free < e))

takes-on : (e : ℕ) (r s : List Counts) (k : Kind) (i : ℕ) (c d : Counts) → i < length s → slice_index_or s i c ≡ c → Takes e r s k → Begins e s k c d → Takes e r (slice_set s i d) k
takes-on e r s k i c d within at was (inl (same, less)) =
    let b = blocks-set k s i c d within at in let f = free-set k s i c d within at in
    record { taken = λ h. let low = was.taken (omega (arith, b, same, h)) in omega (arith, f, less, low) }
takes-on e r s k i c d within at was (inr (more, none, low)) =
    let b = blocks-set k s i c d within at in let f = free-set k s i c d within at in
    record { taken = λ h. omega (arith, f, none, low) }

turn : (e : ℕ) (r s : List Counts) (n m i : ℕ) (c d : Counts) → Reached e r s n → i < length s → slice_index_or s i c ≡ c → IsBlock e d →
    Begins e s for_index c d → Begins e s for_data c d → m + if_kind for_index c c.deleted ≡ n + if_kind for_index d d.deleted → if_kind for_data c c.deleted ≡ if_kind for_data d d.deleted →
    Reached e r (slice_set s i d) m
turn e r s n m i c d was within at is on off x y = record {
  blocks = All-set (IsBlock e) s i d is was.blocks;
  long = omega (arith, length-set s i d, was.long);
  on_index = takes-on e r s for_index i c d within at was.on_index on;
  on_data = takes-on e r s for_data i c d within at was.on_data off;
  index_deleted = omega (arith, deleted-set for_index s i c d within at, x, was.index_deleted);
  data_deleted = omega (arith, deleted-set for_data s i c d within at, y, was.data_deleted);
}

pub kind-index : (d : Counts) → d.pages ≡ 0 → 0 < d.index + d.deleted → kind_of d ≡ for_index
unfolding kind_of
kind-index d x y = rw (le-ltb 0 d.pages (omega arith), lt-ltb 0 (d.index + d.deleted) y) refl

pub kind-data : (d : Counts) → 0 < d.pages → kind_of d ≡ for_data
unfolding kind_of
kind-data d x = rw (lt-ltb 0 d.pages x) refl

pub block-of : (e : ℕ) (s : List Counts) (i : ℕ) (c : Counts) → All (IsBlock e) s → i < length s → slice_index_or s i c ≡ c → IsBlock e c
block-of e s i c all within at = subst (IsBlock e) at (all i c within)

pub to-index : (e : ℕ) (r s : List Counts) (n m i : ℕ) (c d : Counts) → Reached e r s n → i < length s → slice_index_or s i c ≡ c → IsBlock e d →
    (kind_of c ≡ for_index) ⊎ ((kind_of c ≡ unused) × (free_of for_index s ≡ 0)) → kind_of d ≡ for_index → Seen e c →
    d.free ≤ c.free → d.free < e → m + c.deleted ≡ n + d.deleted → Reached e r (slice_set s i d) m
to-index e r s n m i c d was within at is (inl kc) kd look less low x =
    turn e r s n m i c d was within at is (inl (rw (kc, kd) (refl, less))) (inl (rw (kc, kd) (refl, omega arith))) (rw (kc, kd) x) (rw (kc, kd) refl)
to-index e r s n m i c d was within at is (inr (kc, none)) kd (is_unused k j p y) less low x =
    turn e r s n m i c d was within at is (inr (rw (kc, kd) (omega arith, none, low))) (inl (rw (kc, kd) (refl, omega arith))) (rw (kc, kd) (omega arith)) (rw (kc, kd) refl)
to-index e r s n m i c d was within at is (inr (kc, none)) kd (is_index k j p y) less low x = absurd (cc)
to-index e r s n m i c d was within at is (inr (kc, none)) kd (is_data k j p y) less low x = absurd (cc)

to-data : (e : ℕ) (r s : List Counts) (n i : ℕ) (c d : Counts) → Reached e r s n → i < length s → slice_index_or s i c ≡ c → IsBlock e d →
    (kind_of c ≡ for_data) ⊎ ((kind_of c ≡ unused) × (free_of for_data s ≡ 0)) → kind_of d ≡ for_data → Seen e c →
    d.free ≤ c.free → d.free < e → c.deleted ≡ d.deleted → Reached e r (slice_set s i d) n
to-data e r s n i c d was within at is (inl kc) kd look less low x =
    turn e r s n n i c d was within at is (inl (rw (kc, kd) (refl, omega arith))) (inl (rw (kc, kd) (refl, less))) (rw (kc, kd) refl) (rw (kc, kd) x)
to-data e r s n i c d was within at is (inr (kc, none)) kd (is_unused k j p y) less low x =
    turn e r s n n i c d was within at is (inl (rw (kc, kd) (refl, omega arith))) (inr (rw (kc, kd) (omega arith, none, low))) (rw (kc, kd) refl) (rw (kc, kd) (omega arith))
to-data e r s n i c d was within at is (inr (kc, none)) kd (is_index k j p y) less low x = absurd (cc)
to-data e r s n i c d was within at is (inr (kc, none)) kd (is_data k j p y) less low x = absurd (cc)

pub no-pages : (e : ℕ) (r : List Counts) (c : Counts) → Seen e c → (kind_of c ≡ for_index) ⊎ ((kind_of c ≡ unused) × (free_of for_index r ≡ 0)) → c.pages ≡ 0
no-pages e r c (is_unused k j p y) rule = p
no-pages e r c (is_index k p x w) rule = p
no-pages e r c (is_data k j p y) (inl q) = absurd (cc)
no-pages e r c (is_data k j p y) (inr (q, none)) = absurd (cc)

pub no-names : (e : ℕ) (r : List Counts) (c : Counts) → Seen e c → (kind_of c ≡ for_data) ⊎ ((kind_of c ≡ unused) × (free_of for_data r ≡ 0)) → c.index ≡ 0
no-names e r c (is_unused k j p y) rule = j
no-names e r c (is_data k j x w) rule = j
no-names e r c (is_index k j p y) (inl q) = absurd (cc)
no-names e r c (is_index k j p y) (inr (q, none)) = absurd (cc)

pub reached_index : ReachedIndex
reached_index e r s n i c was can =
    let is = block-of e s i c was.blocks can.within can.at in
    let none = no-pages e s c (seen e c is) can.rule in
    to-index e r s n n i c (placed for_index c) was can.within can.at (record { whole = omega (arith, is.whole, can.place); apart = λ h. absurd (omega arith) })
    can.rule (kind-index (placed for_index c) none (omega arith)) (seen e c is) (omega arith) (omega (arith, is.whole, can.place)) refl

pub reached_data : ReachedData
reached_data e r s n i c was can =
    let is = block-of e s i c was.blocks can.within can.at in
    let none = no-names e s c (seen e c is) can.rule in
    to-data e r s n i c (placed for_data c) was can.within can.at (record { whole = omega (arith, is.whole, can.place); apart = λ h. none })
    can.rule (kind-data (placed for_data c) (omega arith)) (seen e c is) (omega arith) (omega (arith, is.whole, can.place)) refl

pub reached_kill : ReachedKill
reached_kill e r s n i c was within at kind some =
    let is = block-of e s i c was.blocks within at in
    let none = no-pages e s c (seen e c is) (inl kind) in
    to-index e r s n (n + 1) i c (killed c) was within at (record { whole = omega (arith, is.whole, some); apart = λ h. absurd (omega arith) })
    (inl kind) (kind-index (killed c) none (omega arith)) (seen e c is) (omega arith) (omega (arith, is.whole, some)) (omega arith)

pub kind-unused : (d : Counts) → d.index ≡ 0 → d.pages ≡ 0 → d.deleted ≡ 0 → kind_of d ≡ unused
unfolding kind_of
kind-unused d i p x = rw (le-ltb 0 d.pages (omega arith), le-ltb 0 (d.index + d.deleted) (omega arith)) refl

pub cons-all : (P : Counts → Type 0) (c : Counts) (v : List Counts) → P c → All P v → All P (c ∷ v)
cons-all P c v here rest zero d low = here
cons-all P c v here rest (suc k) d low = rest k d (omega arith)

kept : (e : ℕ) (r s : List Counts) (k : Kind) (c d : Counts) → Takes e r s k → if_kind k d 1 ≡ 0 → if_kind k d d.free ≡ 0 → if_kind k d d.deleted ≡ 0 → deleted_of k s ≤ deleted_of k r → KindKept e (c ∷ r) c (d ∷ s) k
unfolding blocks_of free_of deleted_of
kept e r s k c d t x y z less = record { taken = λ h. omega (arith, y, t.taken (omega (arith, h, x))); deleted = omega (arith, z, less) }

pub reached_end : ReachedEnd
unfolding blocks_of index_total pages_total
reached_end e c d r s n is was few one i p x f li ld =
    let k = kind-unused d i p x in
    record {
      before = is;
      after = record { entries = is.entries; blocks = cons-all (IsBlock e) d s (record { whole = omega arith; apart = λ h. i }) was.blocks };
      victim = (0, omega arith, refl);
      blocks = omega (arith, was.long);
      index = omega arith;
      pages = omega arith;
      free = rw k (omega arith);
      for_index_kept = λ j. kept e r s for_index c d was.on_index (rw k refl) (rw k refl) (rw k refl) (omega (arith, was.index_deleted, few j));
      for_data_kept = kept e r s for_data c d was.on_data (rw k refl) (rw k refl) (rw k refl) (omega (arith, was.data_deleted));
      index_few = rw k (omega (arith, one));
    }
