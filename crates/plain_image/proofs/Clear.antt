-- An image is tidy exactly where four counts vanish.
use Rattle.std.proofs.Common.{◌≡◌, ℕ, zero, suc, ◌+◌, ◌<◌, ◌≤◌, Bool, true, false, not, ◌&&◌, ◌==◌, List, [], length, refl, sym, ◌∙◌, arith, ⊎_elim, inl, inr}
use Rattle.std.specs.Prelude.{Option, Some, None, filter, ◌⊎◌}
use Rattle.std.specs.List.{range_with_len, list_any}
use Rattle.std.proofs.lemmas.Bool.{cases_eq, cases_Bool, and_parts, and_from, or_cases, or_left, or_right, eqb-true, eq-eqb}
use Rattle.geometry.specs.declared.geometry.Geometry.{Geometry}
use Rattle.geometry.specs.Numbers.{page_count}
use Rattle.image_model.specs.Places.{has_magic, entry_of, block_of, is_entry_page}
use Rattle.image_model.specs.Headers.{names_index}
use Rattle.image_model.specs.Live.{live_at, is_live}
use Rattle.image_model.specs.Tables.{damaged_of}
use Rattle.image_model.specs.Tidy.{IsTidy, is_free_entry, is_wanted}
use Rattle.image_model.specs.Killed.{is_used, is_killable, killed_of}
use Rattle.image_model.specs.Kinds.{is_index_page, is_data_page, is_index_block, is_data_block, is_mixed, mixed_blocks, spoiled_blocks}
use Rattle.image_model.specs.Within.{entry_in, entry_of_block, block_number, page_number}

-- ---- tests over a range

none_pass : (test : ℕ → Bool) (a n : ℕ) → length (filter test (range_with_len a n)) ≡ 0 → (q : ℕ) → a ≤ q → q < a + n → test q ≡ false
none_pass test a zero h q low high = absurd (omega arith)
none_pass test a (suc n) h q low high =
    ⊎_elim
    (λ (yes' : test a ≡ true). let bad = rw yes' at h in absurd (omega (arith, bad)))
    (λ (no' : test a ≡ false). ⊎_elim
    (λ (here : a ≡ q). rw here at no')
    (λ (there : a ≡ q → ⊥). none_pass test (a + 1) n (rw no' at h) q (omega (arith, there)) (omega arith))
    (cases_eq a q))
    (cases_Bool (test a))

all_fail : (test : ℕ → Bool) (a n : ℕ) → ((q : ℕ) → a ≤ q → q < a + n → test q ≡ false) → length (filter test (range_with_len a n)) ≡ 0
all_fail test a zero h = refl
all_fail test a (suc n) h = rw (h a (omega arith) (omega arith)) (all_fail test (a + 1) n (λ q low high. h q (omega arith) (omega arith)))

any_in : (test : ℕ → Bool) (a n q : ℕ) → a ≤ q → q < a + n → test q ≡ true → list_any test (range_with_len a n) ≡ true
any_in test a zero q low high h = absurd (omega arith)
any_in test a (suc n) q low high h =
    ⊎_elim
    (λ (here : a ≡ q). or_left (test a) _ (rw here h))
    (λ (there : a ≡ q → ⊥). or_right (test a) _ (any_in test (a + 1) n q (omega (arith, there)) (omega arith) h))
    (cases_eq a q)

any_at : (test : ℕ → Bool) (a n : ℕ) → list_any test (range_with_len a n) ≡ true → (q : ℕ) × (a ≤ q) × (q < a + n) × (test q ≡ true)
any_at test a zero h = absurd (let bad : false ≡ true = h in cc)
any_at test a (suc n) h =
    ⊎_elim
    (λ (here : test a ≡ true). (a, omega arith, omega arith, here))
    (λ (later : list_any test (range_with_len (a + 1) n) ≡ true). let w = any_at test (a + 1) n later in (w.0, omega (arith, w.1), omega (arith, w.2), w.3))
    (or_cases (test a) _ h)

-- ---- live pages

live_entry : (g : Geometry) (image : List ℕ) (p : ℕ) (x : List ℕ) → live_at g image p ≡ Some x → is_entry_page g p ≡ true
unfolding live_at is_live
live_entry g image p x e =
    ⊎_elim
    (λ (yes' : is_entry_page g p ≡ true). yes')
    (λ (no' : is_entry_page g p ≡ false). let bad = rw no' at e in absurd (cc))
    (cases_Bool (is_entry_page g p))

index_some : (o : Option (List ℕ)) → is_index_page o ≡ true → (x : List ℕ) × (o ≡ Some x) × (names_index x ≡ true)
index_some None h = absurd (let bad : false ≡ true = h in cc)
index_some (Some x) h = (x, refl, h)

data_some : (o : Option (List ℕ)) → is_data_page o ≡ true → (x : List ℕ) × (o ≡ Some x) × (names_index x ≡ false)
data_some None h = absurd (let bad : false ≡ true = h in cc)
data_some (Some x) h = (x, refl, ⊎_elim (λ (y : names_index x ≡ true). let bad = rw y at h in absurd (cc)) (λ (n : names_index x ≡ false). n) (cases_Bool (names_index x)))

-- ---- mixed blocks

mixed_by : (g : Geometry) (image : List ℕ) (p q : ℕ) (x y : List ℕ) → live_at g image p ≡ Some x → live_at g image q ≡ Some y → block_of g p ≡ block_of g q → names_index x ≡ true → names_index y ≡ false → is_mixed g image (block_of g p) ≡ true
unfolding is_mixed is_index_block is_data_block
mixed_by g image p q x y ep eq same nx ny =
    let v = entry_of_block g p (live_entry g image p x ep) in
    let w = entry_of_block g q (live_entry g image q y eq) in
    and_from _ _
    (any_in (λ (r : ℕ). is_index_page (live_at g image r)) _ _ p v.0 v.1 (rw ep nx))
    (rw same (any_in (λ (r : ℕ). is_data_page (live_at g image r)) _ _ q w.0 w.1 (rw (eq, ny) refl)))

unmixed_at : (g : Geometry) (image : List ℕ) → mixed_blocks g image ≡ 0 → (p : ℕ) (x : List ℕ) → live_at g image p ≡ Some x → is_mixed g image (block_of g p) ≡ false
unfolding mixed_blocks
unmixed_at g image h p x e = none_pass (λ (block : ℕ). is_mixed g image block) 0 g.blocks h (block_of g p) (omega arith) (let low = block_number g p (page_number g p (live_entry g image p x e)) in omega (arith, low))

unmixed_pair : (g : Geometry) (image : List ℕ) → mixed_blocks g image ≡ 0 → (p q : ℕ) (x y : List ℕ) → live_at g image p ≡ Some x → live_at g image q ≡ Some y → block_of g p ≡ block_of g q → names_index x ≡ names_index y
unmixed_pair g image h p q x y ep eq same =
    ⊎_elim
    (λ (ix : names_index x ≡ true). ⊎_elim
    (λ (iy : names_index y ≡ true). ix ∙ sym iy)
    (λ (dy : names_index y ≡ false). let a = mixed_by g image p q x y ep eq same ix dy in let b = unmixed_at g image h p x ep in absurd (let bad : true ≡ false = sym a ∙ b in cc))
    (cases_Bool (names_index y)))
    (λ (dx : names_index x ≡ false). ⊎_elim
    (λ (iy : names_index y ≡ true). let a = mixed_by g image q p y x eq ep (sym same) iy dx in let b = unmixed_at g image h q y eq in absurd (let bad : true ≡ false = sym a ∙ b in cc))
    (λ (dy : names_index y ≡ false). dx ∙ sym dy)
    (cases_Bool (names_index y)))
    (cases_Bool (names_index x))

tidy_unmixed : (g : Geometry) (image : List ℕ) → IsTidy g image → mixed_blocks g image ≡ 0
unfolding mixed_blocks is_mixed is_index_block is_data_block
tidy_unmixed g image t = all_fail (λ (block : ℕ). is_mixed g image block) 0 g.blocks (λ block low high.
    ⊎_elim
    (λ (yes' : (is_index_block g image block && is_data_block g image block) ≡ true).
    let both = and_parts _ _ yes' in
    let v = any_at (λ (r : ℕ). is_index_page (live_at g image r)) _ _ both.0 in
    let w = any_at (λ (r : ℕ). is_data_page (live_at g image r)) _ _ both.1 in
    let x = index_some (live_at g image v.0) v.3 in
    let y = data_some (live_at g image w.0) w.3 in
    let at = (entry_in g block v.0 (omega arith) v.1 v.2).0 ∙ sym (entry_in g block w.0 (omega arith) w.1 w.2).0 in
    let same = t.unmixed v.0 w.0 x.0 y.0 x.1 y.1 at in
    absurd (let bad : true ≡ false = sym x.2 ∙ same ∙ y.2 in cc))
    (λ (no' : (is_index_block g image block && is_data_block g image block) ≡ false). no')
    (cases_Bool (is_index_block g image block && is_data_block g image block)))

-- ---- magics and entries

not_false : (b : Bool) → not b ≡ false → b ≡ true
not_false true h = refl
not_false false h = absurd (let bad : true ≡ false = h in cc)

not_true : (b : Bool) → b ≡ true → not b ≡ false
not_true b h = rw h refl

cleared : (z f w : Bool) → (not z && not f && not w) ≡ false → (z ≡ true) ⊎ ((f ≡ true) ⊎ (w ≡ true))
cleared true f w h = inl refl
cleared false true w h = inr (inl refl)
cleared false false true h = inr (inr refl)
cleared false false false h = absurd (let bad : true ≡ false = h in cc)

clear : (z f w : Bool) → (z ≡ true) ⊎ ((f ≡ true) ⊎ (w ≡ true)) → (not z && not f && not w) ≡ false
clear z f w h = ⊎_elim (λ (a : z ≡ true). rw a refl) (λ (m : (f ≡ true) ⊎ (w ≡ true)). ⊎_elim (λ (b : f ≡ true). rw b (⊎_elim (λ (y : z ≡ true). rw y refl) (λ (n : z ≡ false). rw n refl) (cases_Bool z))) (λ (c : w ≡ true). rw c (⊎_elim (λ (y : z ≡ true). rw y refl) (λ (n : z ≡ false). rw n (⊎_elim (λ (y : f ≡ true). rw y refl) (λ (n : f ≡ false). rw n refl) (cases_Bool f))) (cases_Bool z))) m) h

pub record AllClear (g : Geometry) (image : List ℕ) : Type 0 where
  pub spoiled : spoiled_blocks g image ≡ 0
  pub mixed : mixed_blocks g image ≡ 0
  pub killed : killed_of g image ≡ 0
  pub damaged : damaged_of g image ≡ []

magic_of : (g : Geometry) (image : List ℕ) → spoiled_blocks g image ≡ 0 → (block : ℕ) → block < g.blocks → has_magic g image block ≡ true
unfolding spoiled_blocks
magic_of g image h block low = not_false _ (none_pass (λ (b : ℕ). not (has_magic g image b)) 0 g.blocks h block (omega arith) (omega arith))

entry_by : (g : Geometry) (image : List ℕ) → AllClear g image → (p : ℕ) → is_entry_page g p ≡ true → ((entry_of g image p == 0) ≡ true) ⊎ ((is_free_entry g image p ≡ true) ⊎ (is_wanted g image p ≡ true))
unfolding killed_of is_used
entry_by g image c p page =
    let low = page_number g p page in
    let magic = magic_of g image c.spoiled (block_of g p) (block_number g p low) in
    let kept = none_pass (λ (q : ℕ). is_killable g image q) 0 (page_count g) c.killed p (omega arith) (omega (arith, low)) in
    cleared _ _ _ (rw (page, magic) at kept)

pub tidy_from : (g : Geometry) (image : List ℕ) → AllClear g image → IsTidy g image
tidy_from g image c = record {
  magic = magic_of g image c.spoiled;
  entries = λ p page. ⊎_elim (λ (z : (entry_of g image p == 0) ≡ true). inl (eqb-true _ _ z)) (λ (m : (is_free_entry g image p ≡ true) ⊎ (is_wanted g image p ≡ true)). inr m) (entry_by g image c p page);
  undamaged = c.damaged;
  unmixed = unmixed_pair g image c.mixed;
}

tidy_killed : (g : Geometry) (image : List ℕ) → IsTidy g image → killed_of g image ≡ 0
unfolding killed_of is_used
tidy_killed g image t = all_fail (λ (p : ℕ). is_killable g image p) 0 (page_count g) (λ p low high.
    ⊎_elim
    (λ (page : is_entry_page g p ≡ true).
    let magic = t.magic (block_of g p) (block_number g p (omega arith)) in
    let kept = clear (entry_of g image p == 0) (is_free_entry g image p) (is_wanted g image p) (⊎_elim (λ (z : entry_of g image p ≡ 0). inl (eq-eqb _ _ z)) (λ (m : (is_free_entry g image p ≡ true) ⊎ (is_wanted g image p ≡ true)). inr m) (t.entries p page)) in
    rw (page, magic) kept)
    (λ (none : is_entry_page g p ≡ false). rw none refl)
    (cases_Bool (is_entry_page g p)))

tidy_magics : (g : Geometry) (image : List ℕ) → IsTidy g image → spoiled_blocks g image ≡ 0
unfolding spoiled_blocks
tidy_magics g image t = all_fail (λ (b : ℕ). not (has_magic g image b)) 0 g.blocks (λ b low high. not_true _ (t.magic b (omega arith)))

pub tidy_to : (g : Geometry) (image : List ℕ) → IsTidy g image → AllClear g image
tidy_to g image t = record { spoiled = tidy_magics g image t; mixed = tidy_unmixed g image t; killed = tidy_killed g image t; damaged = t.undamaged }
