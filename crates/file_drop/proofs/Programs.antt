-- The programs of the kills of a remove and of a truncation are two for each page that is to go, and two for each entry at most.
use Rattle.std.proofs.Common.{◌≡◌, ℕ, zero, suc, ◌+◌, ◌-◌, ◌*◌, ◌/◌, ◌%◌, ◌<◌, ◌≤◌, List, length, Bool, true, false, not, ◌==◌, ◌&&◌, refl, sym, ◌∙◌, ap, subst, arith, ⊎_elim}
use Rattle.std.specs.Prelude.{filter}
use Rattle.std.specs.List.{range_with_len}
use Rattle.std.proofs.Math.Bool.{and-true, and-false}
use Rattle.std.proofs.Math.Nat.{div-add-mod}
use Rattle.std.proofs.lemmas.Bool.{cases_Bool, cases_eq, cases_lt, eq-eqb, ne_eqb}
use Rattle.std.proofs.lemmas.Nat.{div-mul-add, mod-mul-add}
use Rattle.geometry.specs.declared.geometry.Geometry.{Geometry}
use Rattle.geometry.specs.Numbers.{per_block, lookups, entries, usable, page_count}
use Rattle.image_model.specs.Within.{sizes}
use Rattle.flash_view.specs.Places.{IsEntryPage}
use Rattle.image_laws.proofs.DeadEntries.{filter-one}
use Rattle.image_laws.proofs.Unshared.{counted-le}
use Rattle.file_drop.specs.declared.pages.Kept.{Kept}
use Rattle.file_drop.specs.Drops.{is_left}
use Rattle.file_drop.specs.Programs.{past_in}

-- ---- the numbers from a place on that pass a test

abbrev pub rest : (ℕ → Bool) → (p e : ℕ) → ℕ
rest t p e = length (filter t (range_with_len p (e - p)))

rest_end : (t : ℕ → Bool) (p e : ℕ) → e ≤ p → rest t p e ≡ 0
rest_end t p e h = let n : e - p ≡ 0 = omega arith in rw n refl

range_next : (p e : ℕ) → p < e → e - p ≡ suc (e - (p + 1))
range_next p e h = omega arith

rest_yes : (t : ℕ → Bool) (p e : ℕ) → p < e → t p ≡ true → rest t p e ≡ 1 + rest t (p + 1) e
rest_yes t p e h passes = rw (range_next p e h, passes) (omega arith)

rest_no : (t : ℕ → Bool) (p e : ℕ) → p < e → t p ≡ false → rest t p e ≡ rest t (p + 1) e
rest_no t p e h fails = rw (range_next p e h, fails) refl

rest_less : (t : ℕ → Bool) (p e : ℕ) → rest t (p + 1) e ≤ rest t p e
rest_less t p e = ⊎_elim
    (λ (low : p < e). ⊎_elim
    (λ (yes : t p ≡ true). omega (arith, rest_yes t p e low yes))
    (λ (no : t p ≡ false). omega (arith, rest_no t p e low no))
    (cases_Bool (t p)))
    (λ (high : e ≤ p). omega (arith, rest_end t (p + 1) e (omega arith)))
    (cases_lt p e)

rest_on : (t : ℕ → Bool) (p d q e : ℕ) → p + d ≡ q → rest t q e ≤ rest t p e
rest_on t p zero q e to = let same : p ≡ q = omega (arith, to) in subst (λ (k : ℕ). rest t k e ≤ rest t p e) same (omega arith)
rest_on t p (suc d) q e to =
    let there = rest_on t (p + 1) d q e (omega (arith, to)) in
    let here = rest_less t p e in
    omega (arith, there, here)

-- no more of them are behind a later place,
pub rest_later : (t : ℕ → Bool) (a p e : ℕ) → a ≤ p → rest t p e ≤ rest t a e
rest_later t a p e h = rest_on t a (p - a) p e (omega (arith, h))

-- and one fewer behind one of them
pub rest_met : (t : ℕ → Bool) (a p e : ℕ) → a ≤ p → p < e → t p ≡ true → rest t (p + 1) e + 1 ≤ rest t a e
rest_met t a p e h low passes = omega (arith, rest_yes t p e low passes, rest_later t a p e h)

-- Where fewer pass, and one that passed doesn't, one fewer is counted.
pub one_fewer : (t now : ℕ → Bool) (p n : ℕ) → p < n → t p ≡ true → now p ≡ false → ((q : ℕ) → now q ≡ true → t q ≡ true) → length (filter now (range_with_len 0 n)) + 1 ≤ length (filter t (range_with_len 0 n))
one_fewer t now p n low was is each =
    let one = filter-one t (λ q. t q && not (q == p)) p 0 n (omega arith) (omega arith) was (rw (eq-eqb p p refl) (and-false (t p))) (λ q there. rw (ne_eqb q p there) (and-true (t q))) in
    let le = counted-le now (λ q. t q && not (q == p)) 0 n (λ q l h yes. ⊎_elim
    (λ (here : q ≡ p). let bad : true ≡ false = sym yes ∙ (ap now here ∙ is) in absurd (cc))
    (λ (there : q ≡ p → ⊥). rw (ne_eqb q p there, each q yes) refl)
    (cases_eq q p)) in
    omega (arith, one, le)

-- ---- the entries before a page

abbrev pub entries_before : Geometry → ℕ → ℕ
entries_before g n = (n / per_block g) * entries g + (n % per_block g - lookups g)

-- the next page, by its block and its place there
next_places : (P n : ℕ) → 0 < P → (n % P + 1 < P → ((n + 1) / P ≡ n / P) × ((n + 1) % P ≡ n % P + 1)) × (n % P + 1 ≡ P → ((n + 1) / P ≡ n / P + 1) × ((n + 1) % P ≡ 0))
next_places P n pos =
    let whole : P * (n / P) + n % P ≡ n = div-add-mod n P in (
      (λ low. let at : (n / P) * P + (n % P + 1) ≡ n + 1 = omega (arith, whole) in (rw at at (div-mul-add (n / P) P (n % P + 1) low), rw at at (mod-mul-add (n / P) P (n % P + 1) low))),
      (λ last. let at : (n / P + 1) * P + 0 ≡ n + 1 = omega (arith, whole, last) in (rw at at (div-mul-add (n / P + 1) P 0 pos), rw at at (mod-mul-add (n / P + 1) P 0 pos))),
    )

entries_fill : (g : Geometry) → entries g + lookups g ≡ per_block g
unfolding entries
entries_fill g = omega (arith, (sizes g).lookups_fit)

before_next : (g : Geometry) (n : ℕ) → (entries_before g n ≤ entries_before g (n + 1)) × (lookups g ≤ n % per_block g → entries_before g n + 1 ≤ entries_before g (n + 1))
before_next g n =
    let fits : lookups g < per_block g = (sizes g).lookups_fit in
    let fill = entries_fill g in
    let less : n % per_block g < per_block g = omega arith in
    let next = next_places (per_block g) n (omega (arith, fits)) in
    ⊎_elim
    (λ (low : n % per_block g + 1 < per_block g). let w = next.0 low in rw (w.0, w.1) (omega arith, λ at. omega (arith, at)))
    (λ (high : per_block g ≤ n % per_block g + 1). let w = next.1 (omega (arith, high, less)) in rw (w.0, w.1) (omega (arith, high, fits, less, fill), λ at. omega (arith, high, fits, less, at, fill)))
    (cases_lt (n % per_block g + 1) (per_block g))

before_on : (g : Geometry) (n d m : ℕ) → n + d ≡ m → entries_before g n ≤ entries_before g m
before_on g n zero m to = let same : n ≡ m = omega (arith, to) in subst (λ (k : ℕ). entries_before g n ≤ entries_before g k) same (omega arith)
before_on g n (suc d) m to = let there = before_on g (n + 1) d m (omega (arith, to)) in let here = (before_next g n).0 in omega (arith, there, here)

before_later : (g : Geometry) (a p : ℕ) → a ≤ p → entries_before g a ≤ entries_before g p
before_later g a p h = before_on g a (p - a) p (omega (arith, h))

-- one more is before the page behind an entry page,
pub entry_met : (g : Geometry) (a p : ℕ) → a ≤ p → IsEntryPage g p → entries_before g a + 1 ≤ entries_before g (p + 1)
entry_met g a p h page = omega (arith, before_later g a p h, (before_next g p).1 page.behind)

-- and before no page are more than there are
pub entries_all : (g : Geometry) (n : ℕ) → n ≤ page_count g → entries_before g n ≤ usable g
unfolding page_count
entries_all g n h =
    let fits : lookups g < per_block g = (sizes g).lookups_fit in
    let whole : g.blocks * per_block g + 0 ≡ g.blocks * per_block g = omega arith in
    let pos : 0 < per_block g = omega (arith, fits) in
    let block : (g.blocks * per_block g) / per_block g ≡ g.blocks = rw whole at (div-mul-add g.blocks (per_block g) 0 pos) in
    let place : (g.blocks * per_block g) % per_block g ≡ 0 = rw whole at (mod-mul-add g.blocks (per_block g) 0 pos) in
    let end : entries_before g (g.blocks * per_block g) ≡ g.blocks * entries g = rw (block, place) (omega arith) in
    omega (arith, end, before_later g n (g.blocks * per_block g) h)

-- ---- what the turns of the kills take

-- Before page n two were taken for each page of image a that is to go.
abbrev pub TwoEach : Geometry → List ℕ → ℕ → Kept → (n before after : ℕ) → Type 0
TwoEach g a id kept n before after = after + 2 * rest (λ p. is_left g a id kept p) n (page_count g) ≤ before + 2 * past_in g a id kept.index_pages kept.data_pages

pub two_start : (g : Geometry) (a : List ℕ) (id : ℕ) (kept : Kept) (before : ℕ) → TwoEach g a id kept 0 before before
unfolding past_in
two_start g a id kept before = let all : page_count g - 0 ≡ page_count g = omega arith in rw all (omega arith)

pub two_end : (g : Geometry) (a : List ℕ) (id : ℕ) (kept : Kept) (n before after : ℕ) → TwoEach g a id kept n before after → after ≤ before + 2 * past_in g a id kept.index_pages kept.data_pages
two_end g a id kept n before after was = omega (arith, was)

-- the turn of page p, on image b
pub two_turn : (g : Geometry) (a b : List ℕ) (id : ℕ) (kept : Kept) (n p before mid after : ℕ) → n ≤ p → p < page_count g → (is_left g a id kept p ≡ false → is_left g b id kept p ≡ false) → TwoEach g a id kept n before mid → after ≤ mid + 2 →
    (is_left g b id kept p ≡ false → after ≤ mid) → TwoEach g a id kept (p + 1) before after
two_turn g a b id kept n p before mid after from low others was few spares = ⊎_elim
    (λ (yes : is_left g a id kept p ≡ true). omega (arith, was, few, rest_met (λ q. is_left g a id kept q) n p (page_count g) from low yes))
    (λ (no : is_left g a id kept p ≡ false). omega (arith, was, spares (others no), rest_later (λ q. is_left g a id kept q) n (p + 1) (page_count g) (omega (arith, from))))
    (cases_Bool (is_left g a id kept p))
