-- Index pages that go out of blocks that hold both kinds.
use Rattle.std.proofs.Common.{◌≡◌, ℕ, zero, suc, ◌+◌, ◌-◌, ◌*◌, ◌<◌, ◌≤◌, ◌⊎◌, List, length, refl, arith, ⊎_elim, inl, inr, slice_index_or, slice_set}
use Rattle.std.proofs.lemmas.Bool.{cases_lt, le-ltb}
use Rattle.room_laws.specs.Counts.{Counts, unused, for_index, for_data, kind_of, if_any}
use Rattle.room_laws.specs.Volume.{blocks_of, free_of}
use Rattle.room_laws.specs.Steps.{placed, killed}
use Rattle.room_laws.specs.Losing.{spoiled}
use Rattle.room_laws.specs.Parting.{shared_total, IsWhole, CanPart, PartFinds, TakesOne, PartPuts, PartKills}
use Rattle.room_laws.proofs.Moves.{total-set, blocks-set, free-set, kind-index, kind-data}

pub part_finds : PartFinds
part_finds e v some fits = ⊎_elim
    (λ (h : 0 < free_of for_index v). inl h)
    (λ (none : free_of for_index v ≤ 0). ⊎_elim
    (λ (h : 2 < blocks_of unused v). inr h)
    (λ (few : blocks_of unused v ≤ 2). absurd (no e (blocks_of unused v) (free_of for_index v) (shared_total v) none few some fits))
    (cases_lt 2 (blocks_of unused v)))
    (cases_lt 0 (free_of for_index v))
  where
    no : (e u f s : ℕ) → f ≤ 0 → u ≤ 2 → 0 < s → s ≤ f + (u - 2) * e → ⊥
    no e u f s none few some fits = let z : u - 2 ≡ 0 = omega arith in let fits' = rw z at fits in omega (arith, none, some, fits')

-- what a block is that takes index pages
none-pages : (v : List Counts) (c : Counts) → (kind_of c ≡ for_index) ⊎ ((kind_of c ≡ unused) × (free_of for_index v ≡ 0)) → c.pages ≡ 0
unfolding kind_of
none-pages v c rule = ⊎_elim
    (λ (some : 0 < c.pages). let k : kind_of c ≡ for_data = kind-data c some in ⊎_elim (λ (a : kind_of c ≡ for_index). absurd (cc)) (λ (b : (kind_of c ≡ unused) × (free_of for_index v ≡ 0)). let u = b.0 in absurd (cc)) rule)
    (λ (none : c.pages ≤ 0). omega (arith, none))
    (cases_lt 0 c.pages)

-- an unused block is free as a whole
all-free : (e : ℕ) (c : Counts) → IsWhole e c → kind_of c ≡ unused → c.free ≡ e
unfolding kind_of
all-free e c whole kind = ⊎_elim
    (λ (some : 0 < c.pages). let k : kind_of c ≡ for_data = kind-data c some in absurd (cc))
    (λ (none : c.pages ≤ 0). ⊎_elim
    (λ (used : 0 < c.index + c.deleted). let k : kind_of c ≡ for_index = kind-index c (omega (arith, none)) used in absurd (cc))
    (λ (empty : c.index + c.deleted ≤ 0). omega (arith, whole, none, empty))
    (cases_lt 0 (c.index + c.deleted)))
    (cases_lt 0 c.pages)

shared-set : (s : List Counts) (i : ℕ) (c d : Counts) → i < length s → slice_index_or s i c ≡ c → shared_total (slice_set s i d) + if_any c.pages c.index ≡ shared_total s + if_any d.pages d.index
unfolding shared_total
shared-set s i c d within at = total-set (λ c. if_any c.pages c.index) s i c d within at

pub any-none : (n m : ℕ) → n ≡ 0 → if_any n m ≡ 0
any-none zero m h = refl
any-none (suc n) m h = absurd (omega (arith, h))

pub any-some : (n m : ℕ) → 0 < n → if_any n m ≡ m
any-some zero m h = absurd (omega (arith, h))
any-some (suc n) m h = refl

-- a free block less, and its other entries are places then
opened : (e u w f x : ℕ) → w + 1 ≡ u → 2 < u → x + 1 ≡ f + e → (x + (w - 2) * e) + 1 ≡ f + (u - 2) * e
opened e u w f x less many more =
    let s : u - 2 ≡ suc (w - 2) = omega (arith, less, many) in
    rw s (omega (arith, more))

-- a block that takes an index page, and one entry less of it is free
takes : (e : ℕ) (v : List Counts) (i : ℕ) (c d : Counts) → CanPart e v i c → d.pages ≡ 0 → 0 < d.index + d.deleted → d.free + 1 ≡ c.free → TakesOne e v (slice_set v i d)
takes e v i c d can none used free =
    let pages = none-pages v c can.put.rule in
    let kd : kind_of d ≡ for_index = kind-index d none used in
    let s = shared-set v i c d can.put.within can.put.at in
    let s0 = any-none c.pages c.index pages in
    let s1 = any-none d.pages d.index none in
    let u = blocks-set unused v i c d can.put.within can.put.at in
    let f = free-set for_index v i c d can.put.within can.put.at in
    ⊎_elim
    (λ (kc : kind_of c ≡ for_index).
    let u' : blocks_of unused (slice_set v i d) ≡ blocks_of unused v = let w = rw (kc, kd) at u in omega (arith, w) in
    let f' : free_of for_index (slice_set v i d) + 1 ≡ free_of for_index v = let w = rw (kc, kd) at f in omega (arith, w, free) in
    record { places = rw u' (omega (arith, f')); shared = omega (arith, s, s0, s1); reserve = λ two. omega (arith, two, u') })
    (λ (b : (kind_of c ≡ unused) × (free_of for_index v ≡ 0)).
    let kc : kind_of c ≡ unused = b.0 in
    let many = can.keeps kc in
    let all = all-free e c can.whole kc in
    let u' : blocks_of unused (slice_set v i d) + 1 ≡ blocks_of unused v = let w = rw (kc, kd) at u in omega (arith, w) in
    let f' : free_of for_index (slice_set v i d) + 1 ≡ free_of for_index v + e = let w = rw (kc, kd) at f in omega (arith, w, free, all) in
    record { places = opened e (blocks_of unused v) (blocks_of unused (slice_set v i d)) (free_of for_index v) (free_of for_index (slice_set v i d)) u' many f'; shared = omega (arith, s, s0, s1); reserve = λ two. omega (arith, many, u') })
    can.put.rule

pub part_puts : PartPuts
part_puts e v i c can =
    let pages = none-pages v c can.put.rule in
    let some = can.put.place in
    (takes e v i c (placed for_index c) can pages (omega arith) (omega (arith, some)), takes e v i c (spoiled c) can pages (omega arith) (omega (arith, some)))

unused-not : (c : Counts) → c.pages ≤ 0 → c.index + c.deleted ≤ 0 → kind_of c ≡ for_data → ⊥
unfolding kind_of
unused-not c none empty kind = let is : kind_of c ≡ unused = rw (le-ltb 0 c.pages none, le-ltb 0 (c.index + c.deleted) empty) refl in absurd (cc)

some-pages : (c : Counts) → kind_of c ≡ for_data → 0 < c.pages
some-pages c kind = ⊎_elim
    (λ (some : 0 < c.pages). some)
    (λ (none : c.pages ≤ 0). ⊎_elim
    (λ (used : 0 < c.index + c.deleted). let k : kind_of c ≡ for_index = kind-index c (omega (arith, none)) used in absurd (cc))
    (λ (empty : c.index + c.deleted ≤ 0). absurd (unused-not c none empty kind))
    (cases_lt 0 (c.index + c.deleted)))
    (cases_lt 0 c.pages)

pub part_kills : PartKills
part_kills e v i c within at kind some =
    let pages = some-pages c kind in
    let kd : kind_of (killed c) ≡ for_data = kind-data (killed c) pages in
    let u = rw (kind, kd) at (blocks-set unused v i c (killed c) within at) in
    let f = rw (kind, kd) at (free-set for_index v i c (killed c) within at) in
    let s = shared-set v i c (killed c) within at in
    let s0 = any-some c.pages c.index pages in
    let s1 = any-some c.pages (c.index - 1) pages in
    let u' : blocks_of unused (slice_set v i (killed c)) ≡ blocks_of unused v = omega (arith, u) in
    record { places = rw u' (omega (arith, f)); shared = omega (arith, s, s0, s1, some); free = u' }
