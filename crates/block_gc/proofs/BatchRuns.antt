-- Pages that were carried in page order, the last one in front: those before a page, and what a page of the batch has for a copy.
use Rattle.std.proofs.Common.{◌≡◌, ◌≢◌, ℕ, ◌+◌, ◌*◌, ◌/◌, ◌%◌, ◌<◌, ◌≤◌, List, [], ◌∷◌, length, Bool, true, false, ◌==◌, ◌||◌, Option, Some, None, ap, refl, sym, ◌∙◌, arith, ⊎_elim, subst}
use Rattle.std.specs.Prelude.{All, Contains, nat_lt, if◌then◌else◌}
use Rattle.std.proofs.Math.Nat.{mul-le-mul_right}
use Rattle.std.proofs.lemmas.Bool.{cases_eq, cases_lt, eq-eqb, eqb-true, ne_eqb, or_cases, lt-ltb, le-ltb}
use Rattle.geometry.specs.declared.geometry.Geometry.{Geometry}
use Rattle.geometry.specs.Numbers.{page_count, per_block, lookups, entries}
use Rattle.image_model.specs.Headers.{obj_id, span_of, names_index}
use Rattle.image_model.specs.Live.{live_at, own}
use Rattle.image_model.specs.Places.{block_of}
use Rattle.image_model.specs.Within.{entry_in, entry_of_block, entry_number_in, block_number}
use Rattle.room_laws.proofs.OnTheWay.{all_head, all_tail, all_at, all_cons, all_nil, all_from, in_head, in_tail}
use Rattle.flash_view.specs.Places.{IsEntryPage}
use Rattle.flash_view.proofs.Heads.{entry_page_told}
use Rattle.block_gc.specs.declared.batch.Batch.{Batch}
use Rattle.block_gc.specs.declared.batch.Run.{Run}
use Rattle.block_gc.specs.Batches.{Carried, are_from, IsFalling, below, IsRun, IsOfBatch}

-- ---- pages of a block behind one of its entry pages

pub in_block : (g : Geometry) (block first p : ℕ) → IsEntryPage g first → block_of g first ≡ block → first ≤ p → p < (block + 1) * per_block g → IsEntryPage g p × (block_of g p ≡ block)
unfolding per_block lookups entries
in_block g block first p first_is at from to =
    let low : block < g.blocks = rw at at (block_number g first first_is.below) in
    let w = entry_of_block g first (entry_page_told g first first_is) in
    let start : block * per_block g + lookups g ≤ first = rw at at w.0 in
    let fits : first < block * per_block g + lookups g + entries g = rw at at w.1 in
    let above : block * per_block g + lookups g ≤ p = omega (arith, start, from) in
    let within : p < block * per_block g + lookups g + entries g = omega (arith, to, fits, start) in
    let n = entry_number_in g block p low above within in
    (record { below = n.0; behind = n.1 }, (entry_in g block p low above within).0)

-- an entry page lies before the page behind its block
pub first_below : (g : Geometry) (block first : ℕ) → IsEntryPage g first → block_of g first ≡ block → first ≤ (block + 1) * per_block g
unfolding per_block lookups entries
first_below g block first first_is at =
    let w = entry_of_block g first (entry_page_told g first first_is) in
    let start : block * per_block g + lookups g ≤ first = rw at at w.0 in
    let fits : first < block * per_block g + lookups g + entries g = rw at at w.1 in
    omega (arith, fits, start)

-- a page has a number of two bytes, and so has the one behind it
pub page_few : (g : Geometry) (p : ℕ) → p < page_count g → p < 65535
unfolding page_count per_block
page_few g p below = omega (arith, below, g.valid.few_pages)

-- the page behind a block has a number of two bytes
pub behind_fits : (g : Geometry) (block : ℕ) → block < g.blocks → (block + 1) * per_block g ≤ 65535
unfolding per_block
behind_fits g block low =
    let next : (block + 1) * per_block g ≤ g.blocks * per_block g = mul-le-mul_right (per_block g) (omega (arith, low)) in
    omega (arith, next, g.valid.few_pages)

-- ---- those before a page

module _ (n : ℕ) where
  -- all are
  pub below_all : (cs : List Carried) → All (λ (c : Carried). c.from < n) cs → below n cs ≡ cs
  unfolding below
  below_all [] all = refl
  below_all (c ∷ cs) all = rw (lt-ltb c.from n (all_head (λ (c : Carried). c.from < n) c cs all)) refl

  -- none is
  pub below_none : (cs : List Carried) → All (λ (c : Carried). n ≤ c.from) cs → below n cs ≡ []
  unfolding below
  below_none [] all = refl
  below_none (c ∷ cs) all = rw (le-ltb c.from n (all_head (λ (c : Carried). n ≤ c.from) c cs all)) (below_none cs (all_tail (λ (c : Carried). n ≤ c.from) c cs all))

-- none was carried from a page that isn't among theirs
pub not_among : (q : ℕ) (cs : List Carried) → All (λ (c : Carried). c.from ≢ q) cs → are_from cs q ≡ false
not_among q [] all = refl
not_among q (c ∷ cs) all =
    let other : q ≢ c.from = λ e. all_head (λ (d : Carried). d.from ≢ q) c cs all (sym e) in
    rw (not_among q cs (all_tail (λ (d : Carried). d.from ≢ q) c cs all), ne_eqb q c.from other) refl

from_rest : (cs : List Carried) (c : Carried) (q : ℕ) → q ≢ c.from → are_from (c ∷ cs) q ≡ true → are_from cs q ≡ true
from_rest cs c q other e = ⊎_elim (λ (yes : are_from cs q ≡ true). yes) (λ (here : (q == c.from) ≡ true). absurd (other (eqb-true q c.from here))) (or_cases (are_from cs q) (q == c.from) e)

rest_false : (cs : List Carried) (c : Carried) (q : ℕ) → are_from (c ∷ cs) q ≡ false → (q ≢ c.from) × (are_from cs q ≡ false)
rest_false cs c q e = (
  λ same. or_right (are_from cs q) (rw (eq-eqb q c.from same) at e),
  or_left (are_from cs q) (q == c.from) e,
)
  where
    or_right : (x : Bool) → (x || true) ≡ false → ⊥
    or_right true e = absurd (cc)
    or_right false e = absurd (cc)

    or_left : (x y : Bool) → (x || y) ≡ false → x ≡ false
    or_left true y e = e
    or_left false y e = refl

-- with one more page: the one from page q comes in front of those before it, where there is one
module _ (q : ℕ) where
  pub below_with : (cs : List Carried) → IsFalling cs → are_from cs q ≡ true → (c : Carried) × Contains cs c × (c.from ≡ q) × (below (q + 1) cs ≡ c ∷ below q cs)
  unfolding below IsFalling
  below_with [] falls e = absurd (cc)
  below_with (c ∷ cs) falls e = ⊎_elim
      (λ (here : q ≡ c.from).
      let low : c.from < q + 1 = omega (arith, here) in
      let high : q ≤ c.from = omega (arith, here) in
      let rest : below q cs ≡ cs = below_all q cs (λ k d less. let f = falls.0 k d less in omega (arith, f, here)) in
      (c, in_head c cs, sym here, rw (lt-ltb c.from (q + 1) low, le-ltb c.from q high, rest) refl))
      (λ (there : q ≡ c.from → ⊥). ⊎_elim
      (λ (low : c.from < q).
      let none : are_from cs q ≡ false = not_among q cs (λ k d less. λ e. let f = falls.0 k d less in omega (arith, f, low, e)) in
      let bad : true ≡ false = sym (from_rest cs c q there e) ∙ none in
      absurd (cc))
      (λ (high : q ≤ c.from).
      let above : q + 1 ≤ c.from = omega (arith, high, there) in
      let x = below_with cs falls.1 (from_rest cs c q there e) in
      (x.0, in_tail c x.0 cs x.1, x.2, rw (le-ltb c.from (q + 1) above, le-ltb c.from q high) x.3))
      (cases_lt c.from q))
      (cases_eq q c.from)

  pub below_without : (cs : List Carried) → are_from cs q ≡ false → below (q + 1) cs ≡ below q cs
  unfolding below
  below_without [] e = refl
  below_without (c ∷ cs) e =
      let w = rest_false cs c q e in
      ⊎_elim
      (λ (low : c.from < q). let more : c.from < q + 1 = omega (arith, low) in rw (lt-ltb c.from (q + 1) more, lt-ltb c.from q low) refl)
      (λ (high : q ≤ c.from).
      let other = w.0 in
      let above : q + 1 ≤ c.from = omega (arith, high, other) in rw (le-ltb c.from (q + 1) above, le-ltb c.from q high) (below_without cs w.1))
      (cases_lt c.from q)

-- ---- a list that falls has one page for each page it was carried from

apart_each : (xs : List Carried) → IsFalling xs → All (λ (x : Carried). All (λ (y : Carried). x.from ≡ y.from → x ≡ y) xs) xs
unfolding IsFalling
apart_each [] falls = all_nil (λ (x : Carried). All (λ (y : Carried). x.from ≡ y.from → x ≡ y) [])
apart_each (x ∷ xs) falls =
    all_cons (λ (z : Carried). All (λ (y : Carried). z.from ≡ y.from → z ≡ y) (x ∷ xs)) x xs
    (all_cons (λ (y : Carried). x.from ≡ y.from → x ≡ y) x xs (λ e. refl) (λ k y less e. let f = falls.0 k y less in absurd (omega (arith, e, f))))
    (all_from (λ (z : Carried). All (λ (y : Carried). z.from ≡ y.from → z ≡ y) (x ∷ xs)) xs (λ z has.
    all_cons (λ (y : Carried). z.from ≡ y.from → z ≡ y) x xs
    (λ e. let f = all_at (λ (d : Carried). d.from < x.from) xs z falls.0 has in absurd (omega (arith, e, f)))
    (all_at (λ (v : Carried). All (λ (y : Carried). v.from ≡ y.from → v ≡ y) xs) xs z (apart_each xs falls.1) has)))

pub one_from : (cs : List Carried) → IsFalling cs → (c d : Carried) → Contains cs c → Contains cs d → c.from ≡ d.from → c ≡ d
one_from cs falls c d has_c has_d same =
    all_at (λ (y : Carried). c.from ≡ y.from → c ≡ y) cs d (all_at (λ (x : Carried). All (λ (y : Carried). x.from ≡ y.from → x ≡ y) cs) cs c (apart_each cs falls) has_c) has_d same
