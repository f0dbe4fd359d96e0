-- Sums over the blocks.
use Rattle.std.proofs.Common.{◌≡◌, ℕ, zero, suc, ◌+◌, ◌-◌, ◌*◌, ◌<◌, ◌≤◌, List, [], ◌∷◌, length, refl, subst, arith, ⊎_elim}
use Rattle.std.specs.Prelude.{All, Contains}
use Rattle.std.proofs.lemmas.Nat.{div-mul-add}
use Rattle.std.proofs.lemmas.Bool.{cases_lt, lt-ltb, le-ltb}
use Rattle.geometry.specs.Numbers.{ceil}
use Rattle.image_laws.proofs.Serving.{ceil-mono}
use Rattle.room_laws.specs.Counts.{Counts, IsBlock, Kind, unused, for_index, for_data, kind_of, if_same, if_kind, if_any}
use Rattle.room_laws.specs.Volume.{total, blocks_of, free_of, deleted_of, index_total, pages_total, free_beside, IsVolume}

-- the three kinds of block
pub data Seen (e : ℕ) (c : Counts) : Type 0 where
  is_unused : kind_of c ≡ unused → c.index ≡ 0 → c.pages ≡ 0 → c.deleted ≡ 0 → Seen e c
  is_index : kind_of c ≡ for_index → c.pages ≡ 0 → 0 < c.index + c.deleted → c.index + c.deleted + c.free ≡ e → Seen e c
  is_data : kind_of c ≡ for_data → c.index ≡ 0 → 0 < c.pages → c.pages + c.deleted + c.free ≡ e → Seen e c

pub seen : (e : ℕ) (c : Counts) → IsBlock e c → Seen e c
unfolding kind_of
seen e c is = ⊎_elim
    (λ (d : 0 < c.pages). is_data (rw (lt-ltb 0 c.pages d) refl) (is.apart d) d (omega (arith, is.apart d, is.whole)))
    (λ (d : c.pages ≤ 0). ⊎_elim
    (λ (i : 0 < c.index + c.deleted). is_index (rw (le-ltb 0 c.pages d, lt-ltb 0 (c.index + c.deleted) i) refl) (omega arith) i (omega (arith, is.whole)))
    (λ (i : c.index + c.deleted ≤ 0). is_unused (rw (le-ltb 0 c.pages d, le-ltb 0 (c.index + c.deleted) i) refl) (omega arith) (omega arith) (omega arith))
    (cases_lt 0 (c.index + c.deleted)))
    (cases_lt 0 c.pages)

-- the entries of the blocks of a kind
pub record Sums (e : ℕ) (v : List Counts) : Type 0 where
  pub index : index_total v + free_of for_index v + deleted_of for_index v ≡ blocks_of for_index v * e
  pub pages : pages_total v + free_of for_data v + deleted_of for_data v ≡ blocks_of for_data v * e
  pub all : blocks_of unused v + blocks_of for_index v + blocks_of for_data v ≡ length v

more-sums : (e : ℕ) (c : Counts) (v : List Counts) → Sums e v → Seen e c → Sums e (c ∷ v)
unfolding blocks_of free_of deleted_of index_total pages_total
more-sums e c v rest (is_unused k i d x) = record { index = rw k (omega (arith, rest)); pages = rw k (omega (arith, rest)); all = rw k (omega (arith, rest)) }
more-sums e c v rest (is_index k d x w) = record { index = rw k (omega (arith, rest)); pages = rw k (omega (arith, rest)); all = rw k (omega (arith, rest)) }
more-sums e c v rest (is_data k i x w) = record { index = rw k (omega (arith, rest)); pages = rw k (omega (arith, rest)); all = rw k (omega (arith, rest)) }

pub sums : (e : ℕ) (v : List Counts) → All (IsBlock e) v → Sums e v
unfolding blocks_of free_of deleted_of index_total pages_total
sums e [] is = record { index = omega arith; pages = omega arith; all = omega arith }
sums e (c ∷ v) is = more-sums e c v (sums e v (λ k d low. is (suc k) d (omega arith))) (seen e c (is 0 c (omega arith)))

pub total-le : (f g : Counts → ℕ) → ((c : Counts) → f c ≤ g c) → (v : List Counts) → total f v ≤ total g v
total-le f g le [] = omega arith
total-le f g le (c ∷ v) = omega (arith, le c, total-le f g le v)

-- a sum that is not zero has a term that is not
pub term : (f : Counts → ℕ) (v : List Counts) → 0 < total f v → (c : Counts) × Contains v c × (0 < f c)
term f [] some = absurd (omega arith)
term f (x ∷ v) some = ⊎_elim
    (λ (here : 0 < f x). (x, (0, omega arith, refl), here))
    (λ (none : f x ≤ 0). let r = term f v (omega arith) in (r.0, (suc r.1.0, omega (arith, r.1.1), r.1.2), r.2))
    (cases_lt 0 (f x))

if_any-some : (k n : ℕ) → 0 < k → if_any k n ≡ n
if_any-some zero n h = absurd (omega arith)
if_any-some (suc k) n h = refl

-- with nothing deleted each index block has a live page
one-beside : (e : ℕ) (c : Counts) → Seen e c → if_kind for_index c c.deleted ≡ 0 → if_any c.index (if_kind for_index c c.free) ≡ if_kind for_index c c.free
one-beside e c (is_unused k i d x) none = rw (k, i) refl
one-beside e c (is_index k d x w) none = let n : c.deleted ≡ 0 = rw k at none in rw k (if_any-some c.index c.free (omega arith))
one-beside e c (is_data k i x w) none = rw (k, i) refl

pub beside-all : (e : ℕ) (v : List Counts) → All (IsBlock e) v → deleted_of for_index v ≡ 0 → free_beside v ≡ free_of for_index v
unfolding free_of deleted_of free_beside
beside-all e [] is none = refl
beside-all e (c ∷ v) is none =
    let here : if_any c.index (if_kind for_index c c.free) ≡ if_kind for_index c c.free = one-beside e c (seen e c (is 0 c (omega arith))) (omega arith) in
    let rest : free_beside v ≡ free_of for_index v = beside-all e v (λ k d low. is (suc k) d (omega arith)) (omega arith) in
    omega arith

-- a number of blocks whose last one is begun
pub ceil-is : (n e k r : ℕ) → n + r ≡ k * e → r < e → ceil n e ≡ k
ceil-is n e k r eq low =
    let s : n + e - 1 ≡ k * e + (e - 1 - r) = omega arith in
    rw s (div-mul-add k e (e - 1 - r) (omega arith))

-- pages that so many blocks hold
pub ceil-le : (n e k : ℕ) → 0 < e → n ≤ k * e → ceil n e ≤ k
ceil-le n e k pos le =
    let whole : ceil (k * e) e ≡ k = ceil-is (k * e) e k 0 (omega arith) pos in
    rw whole at (ceil-mono n (k * e) e pos le)

pub if_same-some : (k j : Kind) (n : ℕ) → 0 < if_same k j n → (j ≡ k) × (0 < n)
if_same-some unused unused n h = (refl, h)
if_same-some for_index for_index n h = (refl, h)
if_same-some for_data for_data n h = (refl, h)
if_same-some k j n h = absurd (omega arith)

pub block-at : (e : ℕ) (v : List Counts) (c : Counts) → IsVolume e v → Contains v c → Seen e c
block-at e v c is at = seen e c (subst (IsBlock e) at.2 (is.blocks at.0 c at.1))
