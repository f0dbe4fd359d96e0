-- The test of a mixed block, images without one, and the magic after an interrupted erase.
use Rattle.std.proofs.Common.{◌≡◌, ℕ, zero, suc, ◌+◌, ◌*◌, ◌<◌, ◌≤◌, Bool, true, false, List, refl, sym, ◌∙◌, subst, arith, ⊎_elim}
use Rattle.std.specs.Prelude.{Option, Some, None}
use Rattle.std.specs.List.{range_with_len, list_any}
use Rattle.std.proofs.lemmas.Bool.{cases_eq, cases_Bool, and_parts, and_from, or_cases, or_left, or_right, ne_eqb}
use Rattle.geometry.specs.declared.geometry.Geometry.{Geometry}
use Rattle.geometry.specs.Numbers.{per_block, lookups, entries}
use Rattle.image_model.specs.Places.{has_magic, slot_of, block_of, is_entry_page}
use Rattle.image_model.specs.Headers.{names_index}
use Rattle.image_model.specs.Live.{Live, live_at, is_live}
use Rattle.image_model.specs.Sound.{IsMixed}
use Rattle.image_model.specs.Kinds.{is_index_page, is_data_page, is_index_block, is_data_block, is_mixed}
use Rattle.image_model.specs.Within.{entry_in, entry_of_block}
use Rattle.image_laws.specs.Blocks.{ScrambledLacksMagic, MixedIsTested}

any_in : (test : ℕ → Bool) (a n q : ℕ) → a ≤ q → q < a + n → test q ≡ true → list_any test (range_with_len a n) ≡ true
any_in test a zero q low high h = absurd (omega arith)
any_in test a (suc n) q low high h =
    ⊎_elim
    (λ (here : a ≡ q). or_left (test a) _ (rw here h))
    (λ (there : a ≡ q → ⊥). or_right (test a) _ (any_in test (a + 1) n q (omega (arith, there)) (omega arith) h))
    (cases_eq a q)

any_at : (test : ℕ → Bool) (a n : ℕ) → list_any test (range_with_len a n) ≡ true → (q : ℕ) × (a ≤ q) × (q < a + n) × (test q ≡ true)
any_at test a zero h = absurd (let bad : false ≡ true = h in cc)
any_at test a (suc n) h =
    ⊎_elim
    (λ (here : test a ≡ true). (a, omega arith, omega arith, here))
    (λ (later : list_any test (range_with_len (a + 1) n) ≡ true). let w = any_at test (a + 1) n later in (w.0, omega (arith, w.1), omega (arith, w.2), w.3))
    (or_cases (test a) _ h)

live_entry : (g : Geometry) (image : List ℕ) (p : ℕ) (x : List ℕ) → live_at g image p ≡ Some x → is_entry_page g p ≡ true
unfolding live_at is_live
live_entry g image p x e =
    ⊎_elim
    (λ (yes' : is_entry_page g p ≡ true). yes')
    (λ (no' : is_entry_page g p ≡ false). let bad = rw no' at e in absurd (cc))
    (cases_Bool (is_entry_page g p))

pub index_some : (o : Option (List ℕ)) → is_index_page o ≡ true → (x : List ℕ) × (o ≡ Some x) × (names_index x ≡ true)
index_some None h = absurd (let bad : false ≡ true = h in cc)
index_some (Some x) h = (x, refl, h)

pub data_some : (o : Option (List ℕ)) → is_data_page o ≡ true → (x : List ℕ) × (o ≡ Some x) × (names_index x ≡ false)
data_some None h = absurd (let bad : false ≡ true = h in cc)
data_some (Some x) h = (x, refl, ⊎_elim (λ (y : names_index x ≡ true). let bad = rw y at h in absurd (cc)) (λ (n : names_index x ≡ false). n) (cases_Bool (names_index x)))

mixed-pages : (g : Geometry) (image : List ℕ) (block : ℕ) → block < g.blocks → is_mixed g image block ≡ true → IsMixed g (live_at g image) block
unfolding is_mixed is_index_block is_data_block
mixed-pages g image block low h =
    let both = and_parts _ _ h in
    let v = any_at (λ (r : ℕ). is_index_page (live_at g image r)) _ _ both.0 in
    let w = any_at (λ (r : ℕ). is_data_page (live_at g image r)) _ _ both.1 in
    let x = index_some (live_at g image v.0) v.3 in
    let y = data_some (live_at g image w.0) w.3 in
    record {
      p = v.0;
      q = w.0;
      x = x.0;
      y = y.0;
      p_at = (entry_in g block v.0 low v.1 v.2).0;
      q_at = (entry_in g block w.0 low w.1 w.2).0;
      p_is = x.1;
      q_is = y.1;
      names = x.2;
      holds = y.2;
    }

mixed-test : (g : Geometry) (image : List ℕ) (block : ℕ) → IsMixed g (live_at g image) block → is_mixed g image block ≡ true
unfolding is_mixed is_index_block is_data_block
mixed-test g image block m =
    let v = subst (λ (b : ℕ). (b * per_block g + lookups g ≤ m.p) × (m.p < b * per_block g + lookups g + entries g)) m.p_at (entry_of_block g m.p (live_entry g image m.p m.x m.p_is)) in
    let w = subst (λ (b : ℕ). (b * per_block g + lookups g ≤ m.q) × (m.q < b * per_block g + lookups g + entries g)) m.q_at (entry_of_block g m.q (live_entry g image m.q m.y m.q_is)) in
    and_from _ _
    (any_in (λ (r : ℕ). is_index_page (live_at g image r)) _ _ m.p v.0 v.1 (rw m.p_is m.names))
    (any_in (λ (r : ℕ). is_data_page (live_at g image r)) _ _ m.q w.0 w.1 (rw (m.q_is, m.holds) refl))

pub mixed-tested : (g : Geometry) → MixedIsTested g
mixed-tested g image block low = (mixed-pages g image block low, mixed-test g image block)

-- ---- images without one

-- where the live pages of each block are of one kind no block is mixed, and the other way round
pub mixed-none : (g : Geometry) (live : Live) → ((p q : ℕ) (x y : List ℕ) → live p ≡ Some x → live q ≡ Some y → block_of g p ≡ block_of g q → names_index x ≡ names_index y) → (c : ℕ) → IsMixed g live c → ⊥
mixed-none g live one c m = let same = one m.p m.q m.x m.y m.p_is m.q_is (m.p_at ∙ sym m.q_at) in let n = m.names in let h = m.holds in absurd (cc)

pub unmixed-from : (g : Geometry) (live : Live) → ((c : ℕ) → IsMixed g live c → ⊥) → (p q : ℕ) (x y : List ℕ) → live p ≡ Some x → live q ≡ Some y → block_of g p ≡ block_of g q → names_index x ≡ names_index y
unmixed-from g live none p q x y e f at =
    ⊎_elim
    (λ (i : names_index x ≡ true). ⊎_elim
    (λ (j : names_index y ≡ true). i ∙ sym j)
    (λ (d : names_index y ≡ false). absurd (none (block_of g q) (record { p = p; q = q; x = x; y = y; p_at = at; q_at = refl; p_is = e; q_is = f; names = i; holds = d })))
    (cases_Bool (names_index y)))
    (λ (d : names_index x ≡ false). ⊎_elim
    (λ (j : names_index y ≡ true). absurd (none (block_of g q) (record { p = q; q = p; x = y; y = x; p_at = refl; q_at = at; p_is = f; q_is = e; names = j; holds = d })))
    (λ (k : names_index y ≡ false). d ∙ sym k)
    (cases_Bool (names_index y)))
    (cases_Bool (names_index x))

pub scrambled-lacks : (g : Geometry) → ScrambledLacksMagic g
unfolding has_magic slot_of
scrambled-lacks g a b block count s = ne_eqb _ _ s.unmarked
