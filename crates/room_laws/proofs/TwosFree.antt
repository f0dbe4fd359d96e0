-- Cleanings that begin with two free blocks.
use Rattle.std.proofs.Common.{◌≡◌, ℕ, zero, suc, ◌+◌, ◌<◌, ◌≤◌, List, [], ◌∷◌, length, refl, subst, arith, inl, inr}
use Rattle.std.specs.Prelude.{All, Contains}
use Rattle.room_laws.specs.Counts.{Counts, IsBlock, unused, for_index, kind_of}
use Rattle.room_laws.specs.Volume.{IsVolume, blocks_of, free_of, deleted_of, index_total, pages_total}
use Rattle.room_laws.specs.Bounds.{Bound}
use Rattle.room_laws.specs.Mending.{Opens, Mending, strong, strong_none, near, near_none}
use Rattle.room_laws.specs.Cut.{CutIndex}
use Rattle.room_laws.specs.TwoFree.{TwoCutMends, TwoLeaveOne, TwoLeaveTwo, counted, SpareIsNeeded}
use Rattle.room_laws.proofs.Totals.{sums}
use Rattle.room_laws.proofs.Bounding.{reserve_bound, bound_kept, index-size, no-more}
use Rattle.room_laws.proofs.Cuts.{tail-sums, head-seen, one-more, bound-from, lost-data}
use Rattle.room_laws.proofs.Numbers.{no-rise}

more-unused : (c : Counts) (r : List Counts) → blocks_of unused r ≤ blocks_of unused (c ∷ r)
unfolding blocks_of
more-unused c r = omega arith

-- the bound of two free blocks
bound-two : (e : ℕ) (c : Counts) (r : List Counts) → IsVolume e (c ∷ r) → 2 ≤ blocks_of unused r → Bound e (c ∷ r)
bound-two e c r is two = reserve_bound e (c ∷ r) is (let u = more-unused c r in omega (arith, two, u))

-- index pages open one block at most, whatever block they come from
index-cut : (e : ℕ) (c : Counts) (r : List Counts) (d : Counts) (s : List Counts) → IsVolume e (c ∷ r) → IsVolume e (d ∷ s) → length s ≡ length r → 2 ≤ blocks_of unused r → CutIndex e c r d s → Mending e (d ∷ s)
unfolding blocks_of free_of deleted_of index_total pages_total
index-cut e c r d s is is' len two cut =
    let x = tail-sums e c r is in
    let y = tail-sums e d s is' in
    let size = index-size e c (head-seen e c r is) cut.kind in
    let more : blocks_of for_index s ≤ blocks_of for_index r + 1 = one-more e (index_total r) (free_of for_index r) (deleted_of for_index r) (blocks_of for_index r) (index_total s) (free_of for_index s) (deleted_of for_index s) (blocks_of for_index s) x.index y.index cut.takes.taken (omega (arith, cut.copies, size)) in
    let bound' : Bound e (d ∷ s) = bound-from e (c ∷ r) (d ∷ s) cut.index (rw (cut.kind, cut.still) (omega (arith, cut.pages))) (omega arith) (bound-two e c r is two) in
    strong bound' (rw cut.still (omega (arith, x.all, y.all, more, cut.pages, two, len)))

pub two_cut_mends : TwoCutMends
two_cut_mends e c r d s is is' len two spare (inl cut) = index-cut e c r d s is is' len two cut
two_cut_mends e c r d s is is' len two spare (inr cut) = lost-data e c r d s is is' len (bound-two e c r is two) two (λ few. spare cut.kind) cut cut.lost

pub two_leave_one : TwoLeaveOne
two_leave_one e a b c done two = record { free = done.free; bound = bound_kept e a b c done (reserve_bound e a done.before two) }

pub two_leave_two : TwoLeaveTwo
two_leave_two e a b c done kind two =
    let x = sums e a done.before.blocks in
    let y = sums e b done.after.blocks in
    let kd = no-more e a b c done in
    let kept = done.for_index_kept kind in
    let ki = no-rise e (index_total a) (free_of for_index a) (deleted_of for_index a) (blocks_of for_index a) (free_of for_index b) (deleted_of for_index b) (blocks_of for_index b)
    x.index (omega (arith, y.index, done.index)) (omega (arith, kept.deleted)) (λ h. kept.taken (omega arith)) in
    omega (arith, x.all, y.all, kd, ki, two, done.blocks)

-- ---- an entry to spare is needed

is-block : (i p d f e : ℕ) → i + p + d + f ≡ e → (0 < p → i ≡ 0) → IsBlock e (counted i p d f)
is-block i p d f e whole apart = record { whole = whole; apart = apart }

-- a list of blocks begins with one
all-more : (P : Counts → Type 0) (c : Counts) (v : List Counts) → P c → All P v → All P (c ∷ v)
all-more P c v first rest zero d low = first
all-more P c v first rest (suc k) d low = rest k d (omega (arith, low))

all-none : (P : Counts → Type 0) → All P []
all-none P k d low = absurd (omega (arith, low))

four : (a b c d : Counts) → IsBlock 2 a → IsBlock 2 b → IsBlock 2 c → IsBlock 2 d → IsVolume 2 (a ∷ b ∷ c ∷ d ∷ [])
four a b c d w x y z = record {
  entries = omega arith;
  blocks = all-more (IsBlock 2) a (b ∷ c ∷ d ∷ []) w (all-more (IsBlock 2) b (c ∷ d ∷ []) x (all-more (IsBlock 2) c (d ∷ []) y (all-more (IsBlock 2) d [] z (all-none (IsBlock 2)))));
}

abbrev stranded_volume : List Counts
stranded_volume = counted 0 1 1 0 ∷ counted 1 0 1 0 ∷ counted 1 0 0 1 ∷ counted 0 1 1 0 ∷ []

few : (c : Counts) → Contains stranded_volume c → c.deleted ≤ 1
few c (zero, low, at) = subst (λ (x : Counts). x.deleted ≤ 1) at (omega arith)
few c (suc zero, low, at) = subst (λ (x : Counts). x.deleted ≤ 1) at (omega arith)
few c (suc (suc zero), low, at) = subst (λ (x : Counts). x.deleted ≤ 1) at (omega arith)
few c (suc (suc (suc zero)), low, at) = subst (λ (x : Counts). x.deleted ≤ 1) at (omega arith)
few c (suc (suc (suc (suc k))), low, at) = absurd (omega (arith, low))

no-bound : Bound 2 stranded_volume → ⊥
unfolding blocks_of index_total kind_of
no-bound bound = absurd (omega (arith, bound))

no-opens : (c : Counts) → Contains stranded_volume c → Opens 2 stranded_volume c → ⊥
unfolding free_of kind_of
no-opens c at opens = let f = few c at in let x = opens.enough in absurd (omega (arith, f, x))

stranded : Mending 2 stranded_volume → ⊥
stranded (strong bound some) = no-bound bound
stranded (strong_none bound c at k w f) = no-bound bound
stranded (near n c at opens some) = no-opens c at opens
stranded (near_none n c at opens f) = no-opens c at opens

pub spare_is_needed : SpareIsNeeded
unfolding blocks_of free_of deleted_of index_total pages_total kind_of
spare_is_needed = record {
  was = four (counted 0 2 0 0) (counted 2 0 0 0) (counted 0 0 0 2) (counted 0 0 0 2) (is-block 0 2 0 0 2 refl (λ h. refl)) (is-block 2 0 0 0 2 refl (λ h. absurd (omega (arith, h)))) (is-block 0 0 0 2 2 refl (λ h. refl)) (is-block 0 0 0 2 2 refl (λ h. refl));
  now = four (counted 0 1 1 0) (counted 1 0 1 0) (counted 1 0 0 1) (counted 0 1 1 0) (is-block 0 1 1 0 2 refl (λ h. refl)) (is-block 1 0 1 0 2 refl (λ h. absurd (omega (arith, h)))) (is-block 1 0 0 1 2 refl (λ h. absurd (omega (arith, h)))) (is-block 0 1 1 0 2 refl (λ h. refl));
  long = refl;
  two = omega arith;
  cut = record {
    kind = refl;
    free = refl;
    no_index = refl;
    index = refl;
    pages = refl;
    lost = inl (record {
      copies = omega arith;
      batch = omega arith;
      renewed = omega arith;
      takes_data = record { taken = λ more. omega arith };
      takes_index = record { taken = λ more. omega arith };
    });
  };
  lost = stranded;
}
