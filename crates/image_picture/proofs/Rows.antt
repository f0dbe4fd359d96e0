-- Pages and rows one after the other.
use Rattle.std.proofs.Common.{◌≡◌, ℕ, zero, suc, ◌+◌, ◌-◌, ◌*◌, ◌<◌, ◌≤◌, List, ◌++◌, refl, sym, ap, ◌∙◌, arith, append_assoc, append-nil, zero-add, add-zero}
use Rattle.std.specs.List.{flat_map, range_with_len}
use Rattle.std.proofs.lemmas.Nat.{div-mul-add}
use Rattle.std.proofs.Math.Nat.{mul-le-mul_right}
use Rattle.geometry.specs.declared.geometry.Geometry.{Geometry}
use Rattle.geometry.specs.Numbers.{per_block, page_count}
use Rattle.image_model.specs.Places.{block_of}

-- the texts of numbers from one on: of the first ones, and of those behind them
texts_front : (f : ℕ → List ℕ) (a k m : ℕ) → flat_map f (range_with_len a (k + m)) ≡ flat_map f (range_with_len a k) ++ flat_map f (range_with_len (a + k) m)
texts_front f a zero m = rw (zero-add, add-zero) refl
texts_front f a (suc k) m =
    let e : suc k + m ≡ suc (k + m) = omega arith in
    let s : a + suc k ≡ a + 1 + k = omega arith in
    rw (e, s) (ap (λ (l : List ℕ). f a ++ l) (texts_front f (a + 1) k m) ∙ sym (append_assoc (f a) (flat_map f (range_with_len (a + 1) k)) (flat_map f (range_with_len (a + 1 + k) m))))

-- the texts of numbers from `a` on, where p is one of them: those before it, its own, and those behind it
pub texts_split : (f : ℕ → List ℕ) (a p n : ℕ) → a ≤ p → p < a + n → flat_map f (range_with_len a n) ≡ flat_map f (range_with_len a (p - a)) ++ (f p ++ flat_map f (range_with_len (p + 1) (a + n - p - 1)))
texts_split f a p n from to =
    let whole : (p - a) + suc (a + n - p - 1) ≡ n = omega arith in
    let here : a + (p - a) ≡ p = omega arith in
    rw here at (rw whole at (texts_front f a (p - a) (suc (a + n - p - 1))))

-- one more
pub texts_more : (f : ℕ → List ℕ) (a p : ℕ) → a ≤ p → flat_map f (range_with_len a (p + 1 - a)) ≡ flat_map f (range_with_len a (p - a)) ++ f p
texts_more f a p from =
    let next : (p - a) + 1 ≡ p + 1 - a = omega arith in
    let here : a + (p - a) ≡ p = omega arith in
    rw here at (rw next at (texts_front f a (p - a) 1)) ∙ ap (λ (l : List ℕ). flat_map f (range_with_len a (p - a)) ++ l) (append-nil (f p))

-- a page of a block
pub page_in : (g : Geometry) (b p : ℕ) → b < g.blocks → b * per_block g ≤ p → p < b * per_block g + per_block g → (block_of g p ≡ b) × (p < page_count g)
unfolding page_count
page_in g b p low from to =
    let small : p - b * per_block g < per_block g = omega arith in
    let whole : b * per_block g + (p - b * per_block g) ≡ p = omega arith in
    let next : b + 1 ≤ g.blocks = omega arith in
    (rw whole at (div-mul-add b (per_block g) (p - b * per_block g) small), omega (arith, mul-le-mul_right (per_block g) next))
