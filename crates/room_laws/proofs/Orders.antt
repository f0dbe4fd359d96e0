-- Rearranged volumes.
use Rattle.std.proofs.Common.{◌≡◌, ℕ, zero, suc, ◌+◌, ◌<◌, List, [], ◌∷◌, length, refl, sym, ap, subst, arith, slice_index_or, slice_set, ◌∙◌, ◌≤◌, ⊎_elim}
use Rattle.std.specs.Prelude.{Contains}
use Rattle.room_laws.specs.Counts.{Counts, Kind, unused, for_index, for_data, kind_of, if_kind, if_any}
use Rattle.room_laws.specs.Volume.{total, blocks_of, free_of, index_total, free_beside, Worth, Fits}
use Rattle.room_laws.specs.Bounds.{Bound}
use Rattle.room_laws.specs.Mending.{NearBound, Opens, strong, strong_none, near, near_none}
use Rattle.room_laws.specs.Order.{without, Rearranged, ToFront, MendingRearranged, CleanedMends, StaysStart, StaysSet, StaysEnd, StoppedIsMended}
use Rattle.room_laws.proofs.Bounding.{bound_kept}
use Rattle.room_laws.proofs.Mend.{goes_on}
use Rattle.std.proofs.lemmas.Bool.{cases_eq, cases_lt}
use Rattle.std.proofs.lemmas.List.{get_or-set_same, get_or-set_other}
use Rattle.room_laws.proofs.Moves.{length-set}

total-without : (f : Counts → ℕ) (v : List Counts) (i : ℕ) (c : Counts) → i < length v → slice_index_or v i c ≡ c → total f v ≡ f c + total f (without i v)
total-without f [] i c within at = absurd (omega arith)
total-without f (x ∷ v) zero c within at = rw at refl
total-without f (x ∷ v) (suc i) c within at = omega (arith, total-without f v i c (omega arith) at)

length-without : (v : List Counts) (i : ℕ) → i < length v → length v ≡ suc (length (without i v))
length-without [] i within = absurd (omega arith)
length-without (x ∷ v) zero within = refl
length-without (x ∷ v) (suc i) within = ap suc (length-without v i (omega arith))

pub others-in : (v : List Counts) (i : ℕ) (c : Counts) → Contains (without i v) c → Contains v c
others-in [] i c (k, low, e) = (k, low, e)
others-in (x ∷ v) zero c (k, low, e) = (suc k, omega arith, e)
others-in (x ∷ v) (suc i) c (zero, low, e) = (zero, omega arith, e)
others-in (x ∷ v) (suc i) c (suc k, low, e) = let r = others-in v i c (k, omega arith, e) in (suc r.0, omega (arith, r.1), r.2)

front-in : (v : List Counts) (i : ℕ) (c d : Counts) → i < length v → slice_index_or v i c ≡ c → Contains (c ∷ without i v) d → Contains v d
front-in v i c d within at (zero, low, e) = subst (Contains v) e (i, within, at)
front-in v i c d within at (suc k, low, e) = others-in v i d (k, omega arith, e)

pub to_front : ToFront
to_front v i c within at = record { long = length-without v i within; totals = λ f. total-without f v i c within at; blocks = λ d h. front-in v i c d within at h }

pub blocks-same : (k : Kind) (a b : List Counts) → Rearranged a b → blocks_of k a ≡ blocks_of k b
unfolding blocks_of
blocks-same k a b r = sym (r.totals (λ c. if_kind k c 1))

pub free-same : (k : Kind) (a b : List Counts) → Rearranged a b → free_of k a ≡ free_of k b
unfolding free_of
free-same k a b r = sym (r.totals (λ c. if_kind k c c.free))

pub beside-same : (a b : List Counts) → Rearranged a b → free_beside a ≡ free_beside b
unfolding free_beside
beside-same a b r = sym (r.totals (λ c. if_any c.index (if_kind for_index c c.free)))

pub index-same : (a b : List Counts) → Rearranged a b → index_total a ≡ index_total b
unfolding index_total
index-same a b r = sym (r.totals (λ c. c.index))

bound-same : (e : ℕ) (a b : List Counts) → Rearranged a b → Bound e a → Bound e b
bound-same e a b r bound = let h = rw (index-same a b r) at bound in omega (arith, h, blocks-same for_data a b r, r.long)

near-same : (e : ℕ) (a b : List Counts) → Rearranged a b → NearBound e a → NearBound e b
near-same e a b r bound = let h = rw (index-same a b r) at bound in omega (arith, h, blocks-same for_data a b r, r.long)

worth-same : (a b : List Counts) (c : Counts) → Rearranged a b → kind_of c ≡ for_index → Worth a c → Worth b c
worth-same a b c r k w = rw k (rw (k, beside-same a b r) at w)

fits-index-same : (e : ℕ) (a b : List Counts) (c : Counts) → Rearranged a b → kind_of c ≡ for_index → Fits e a c → Fits e b c
fits-index-same e a b c r k f = rw k (rw (k, free-same for_index a b r, blocks-same unused a b r) at f)

fits-data-same : (e : ℕ) (a b : List Counts) (c : Counts) → Rearranged a b → kind_of c ≡ for_data → Fits e a c → Fits e b c
fits-data-same e a b c r k f = rw k (rw (k, free-same for_index a b r, free-same for_data a b r, blocks-same unused a b r) at f)

opens-same : (e : ℕ) (a b : List Counts) (c : Counts) → Rearranged a b → Opens e a c → Opens e b c
opens-same e a b c r o = record { kind = o.kind; enough = omega (arith, free-same for_data a b r, o.enough) }

pub mending_rearranged : MendingRearranged
mending_rearranged e a b r (strong bound some) = strong (bound-same e a b r bound) (omega (arith, blocks-same unused a b r))
mending_rearranged e a b r (strong_none bound c at k w f) = strong_none (bound-same e a b r bound) c (r.blocks c at) k (worth-same a b c r k w) (fits-index-same e a b c r k f)
mending_rearranged e a b r (near bound c at o some) = near (near-same e a b r bound) c (r.blocks c at) (opens-same e a b c r o) (omega (arith, blocks-same unused a b r))
mending_rearranged e a b r (near_none bound c at o f) = near_none (near-same e a b r bound) c (r.blocks c at) (opens-same e a b c r o) (fits-data-same e a b c r o.kind f)

pub cleaned_mends : CleanedMends
cleaned_mends e a b c k bound = strong (bound_kept e a b c k bound) k.free

pub same-at : (s : List Counts) (i : ℕ) (x y : Counts) → i < length s → slice_index_or s i x ≡ slice_index_or s i y
same-at [] i x y within = absurd (omega arith)
same-at (z ∷ s) zero x y within = refl
same-at (z ∷ s) (suc i) x y within = same-at s i x y (omega arith)

pub stays_start : StaysStart
stays_start r k x low at kind = (x, low, at, kind, omega arith)

pub stays_set : StaysSet
stays_set r s i c d was within here keeps k x low at kind =
    let o = was k x low at kind in
    let l = length-set s i d in
    ⊎_elim
    (λ (same : k ≡ i).
    let there : slice_index_or s i o.0 ≡ o.0 = subst (λ (j : ℕ). slice_index_or s j o.0 ≡ o.0) same o.2 in
    let eq : o.0 ≡ c = sym there ∙ (same-at s i o.0 c within ∙ here) in
    let kc : kind_of c ≡ for_data = subst (λ (z : Counts). kind_of z ≡ for_data) eq o.3 in
    let le : x.deleted ≤ c.deleted = subst (λ (z : Counts). x.deleted ≤ z.deleted) eq o.4 in
    let now = keeps kc in
    (d, omega (arith, l, o.1), subst (λ (j : ℕ). slice_index_or (slice_set s i d) j d ≡ d) (sym same) (get_or-set_same s i d d within), now.0, omega (arith, le, now.1)))
    (λ (other : k ≡ i → ⊥). (o.0, omega (arith, l, o.1), get_or-set_other s i k d o.0 other ∙ o.2, o.3, o.4))
    (cases_eq k i)

pub stays_end : StaysEnd
stays_end r s c d was x (zero, low, at) kind away = absurd (away (subst (λ (z : Counts). kind_of z ≡ for_data) (sym at) kind) (ap (λ (z : Counts). z.deleted) (sym at)))
stays_end r s c d was x (suc k, low, at) kind away = let o = was k x (omega arith) at kind in (o.0, (suc k, omega (arith, o.1), o.2), o.3, o.4)

pub stopped_mended : StoppedIsMended
stopped_mended e v is m nil = ⊎_elim
    (λ (few : blocks_of unused v < 2). let r = goes_on e v is m few in absurd (nil r.0 r.1 r.2 r.3))
    (λ (enough : 2 ≤ blocks_of unused v). enough)
    (cases_lt (blocks_of unused v) 2)
