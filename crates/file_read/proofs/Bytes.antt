-- Bytes of pieces of one length, one behind the other.
use Rattle.std.proofs.Common.{◌≡◌, ℕ, zero, suc, ◌+◌, ◌-◌, ◌*◌, ◌/◌, ◌%◌, ◌<◌, ◌≤◌, List, ◌++◌, length, take, drop, slice_range, ap, refl, sym, ◌∙◌, arith, length-take, length-drop, length-append}
use Rattle.std.specs.List.{range_with_len, flat_map}
use Rattle.std.proofs.Math.Seq.{take-add, take-append-add, drop-append-add}
use Rattle.std.proofs.lemmas.List.{take-take, drop-take, drop-drop, take-append-le, drop-append-le, length-take-le, take_at}

-- bytes inside piece s
pub in_piece : (f : ℕ → List ℕ) (w a n s from len : ℕ) → ((j : ℕ) → a ≤ j → j < a + n → length (f j) ≡ w) → s < n → from + len ≤ w →
    take len (drop (s * w + from) (flat_map f (range_with_len a n))) ≡ take len (drop from (f (a + s)))
in_piece f w a zero s from len long below fits = absurd (omega arith)
in_piece f w a (suc n) zero from len long below fits =
    let here : length (f a) ≡ w = long a (omega arith) (omega arith) in
    let at : 0 * w + from ≡ from = omega arith in
    let rest : len ≤ length (drop from (f a)) = simp length-drop (omega (arith, here)) in
    let same : a + 0 ≡ a = omega arith in
    rw (at, drop-append-le from (f a) (flat_map f (range_with_len (a + 1) n)) (omega (arith, here)), take-append-le len (drop from (f a)) (flat_map f (range_with_len (a + 1) n)) rest, same) refl
in_piece f w a (suc n) (suc s) from len long below fits =
    let here : length (f a) ≡ w = long a (omega arith) (omega arith) in
    let at : suc s * w + from ≡ length (f a) + (s * w + from) = omega (arith, here) in
    let later : a + suc s ≡ a + 1 + s = omega arith in
    rw (at, drop-append-add (f a) (flat_map f (range_with_len (a + 1) n)) (s * w + from), later)
    (in_piece f w (a + 1) n s from len (λ j low high. long j (omega arith) (omega arith)) (omega arith) fits)

-- bytes before a cut
pub before_cut : (xs : List ℕ) (size at len : ℕ) → at + len ≤ size → take len (drop at (take size xs)) ≡ take len (drop at xs)
before_cut xs size at len fits =
    let parts : size ≡ at + (size - at) = omega arith in
    ap (λ (n : ℕ). take len (drop at (take n xs))) parts
    ∙ ap (λ (ys : List ℕ). take len ys) (drop-take at (size - at) xs)
    ∙ take-take len (size - at) (drop at xs) (omega arith)

-- bytes of the body of a page
pub in_body : (page : List ℕ) (size from len : ℕ) → 5 + from + len ≤ size → take len (drop from (slice_range page 5 size)) ≡ slice_range page (5 + from) (5 + from + len)
in_body page size from len fits =
    let count : 5 + from + len - (5 + from) ≡ len = omega arith in
    before_cut (drop 5 page) (size - 5) from len (omega arith)
    ∙ ap (λ (ys : List ℕ). take len ys) (drop-drop from 5 page)
    ∙ ap (λ (n : ℕ). take n (drop (5 + from) page)) (sym count)

-- so many bytes and a part behind them
pub read_more : (old part bytes : List ℕ) (at done len : ℕ) → take done old ≡ take done (drop at bytes) → length (take done old) ≡ done → part ≡ take len (drop (at + done) bytes) →
    take (done + len) (take done old ++ part) ≡ take (done + len) (drop at bytes)
read_more old part bytes at done len was size is =
    let same : take len part ≡ take len (drop done (drop at bytes)) = ap (λ (xs : List ℕ). take len xs) is ∙ take-take len len (drop (at + done) bytes) (omega arith) ∙ ap (λ (xs : List ℕ). take len xs) (sym (drop-drop done at bytes)) in
    ap (λ (n : ℕ). take (n + len) (take done old ++ part)) (sym size)
    ∙ take-append-add (take done old) part len
    ∙ ap (λ (xs : List ℕ). take done old ++ xs) same
    ∙ ap (λ (xs : List ℕ). xs ++ take len (drop done (drop at bytes))) was
    ∙ sym (take-add done len (drop at bytes))
