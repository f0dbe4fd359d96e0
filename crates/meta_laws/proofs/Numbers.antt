-- Page numbers of a header page, read from another place.
use Rattle.std.proofs.Common.{◌≡◌, ◌≢◌, ℕ, ◌+◌, ◌-◌, ◌*◌, ◌/◌, ◌%◌, ◌<◌, ◌≤◌, ◌⊎◌, refl, sym, ◌∙◌, ap, arith, ⊎_elim}
use Rattle.std.proofs.lemmas.Bool.{cases_lt, cases_eq}

-- two bytes, read little endian
abbrev pub word : (ℕ → ℕ) → ℕ → ℕ
word w i = w i + 256 * w (i + 1)

-- Bytes of a header page of so many bytes with m meta bytes, and n page numbers: the meta bytes are 0xFF, and so are the numbers behind those.
pub record Plain (w : ℕ → ℕ) (page m n : ℕ) : Type 0 where
  pub small : (i : ℕ) → i < page → w i < 256
  pub meta : (i : ℕ) → 45 ≤ i → i < 45 + m → w i ≡ 255
  pub free : (t : ℕ) → n ≤ t → t < (page - 45 - m) / 2 → word w (45 + m + 2 * t) ≡ 0xFFFF
  pub real : (t : ℕ) → t < n → t < (page - 45 - m) / 2 → word w (45 + m + 2 * t) < 0xFFFF
  pub apart : (s t : ℕ) → s < n → t < n → s < (page - 45 - m) / 2 → t < (page - 45 - m) / 2 → word w (45 + m + 2 * s) ≡ word w (45 + m + 2 * t) → s ≡ t

-- With k meta bytes they read as the same page numbers, and where these don't fit there they fit as they are.
pub record SameBy (w : ℕ → ℕ) (page m n k : ℕ) : Type 0 where
  pub same : (t : ℕ) → t < n → t < (page - 45 - k) / 2 → t < (page - 45 - m) / 2 → word w (45 + k + 2 * t) ≡ word w (45 + m + 2 * t)
  pub far : (page - 45 - k) / 2 < n → (page - 45 - k) / 2 < (page - 45 - m) / 2 → ⊥

-- the bytes of equal words
low_byte : (a b c d : ℕ) → a < 256 → b < 256 → c < 256 → d < 256 → a + 256 * b ≡ c + 256 * d → a ≡ c
low_byte a b c d la lb lc ld e = omega (arith, la, lb, lc, ld, e)

high_byte : (a b c d : ℕ) → a < 256 → b < 256 → c < 256 → d < 256 → a + 256 * b ≡ c + 256 * d → b ≡ d
high_byte a b c d la lb lc ld e = omega (arith, la, lb, lc, ld, e)

module _ (w : ℕ → ℕ) (page m n k : ℕ) (big : 128 ≤ page) (m_few : m ≤ 64) (k_few : k ≤ 64) (some : 0 < n) (plain : Plain w page m n) (by : SameBy w page m n k) where
  at : (i j : ℕ) → i ≡ j → w i ≡ w j
  at i j e = ap w e

  -- byte j from the first page number on, where it is behind the last
  tail : (j : ℕ) → 2 * n ≤ j → j < 2 * ((page - 45 - m) / 2) → w (45 + m + j) ≡ 255
  tail j low high =
      let t = j / 2 in
      let whole : word w (45 + m + 2 * t) ≡ 0xFFFF = plain.free t (omega (arith, low)) (omega (arith, high)) in
      let one : w (45 + m + 2 * t) < 256 = plain.small _ (omega (arith, high)) in
      let two : w (45 + m + 2 * t + 1) < 256 = plain.small _ (omega (arith, high)) in
      ⊎_elim
      (λ (even : 2 * t < j). at (45 + m + j) (45 + m + 2 * t + 1) (omega (arith, even)) ∙ high_byte _ _ 255 255 one two (omega arith) (omega arith) whole)
      (λ (odd : j ≤ 2 * t). at (45 + m + j) (45 + m + 2 * t) (omega (arith, odd)) ∙ low_byte _ _ 255 255 one two (omega arith) (omega arith) whole)
      (cases_lt (2 * t) j)

  -- the two bytes of page number t, by both
  module _ (t : ℕ) (below : t < n) (near : t < (page - 45 - k) / 2) (here : t < (page - 45 - m) / 2) where
    both : word w (45 + k + 2 * t) ≡ word w (45 + m + 2 * t)
    both = by.same t below near here

    first : w (45 + m + 2 * t) ≡ w (45 + k + 2 * t)
    first = sym (low_byte _ _ _ _ (plain.small (45 + k + 2 * t) (omega (arith, near))) (plain.small (45 + k + 2 * t + 1) (omega (arith, near))) (plain.small (45 + m + 2 * t) (omega (arith, here))) (plain.small (45 + m + 2 * t + 1) (omega (arith, here))) both)

    second : w (45 + m + 2 * t + 1) ≡ w (45 + k + 2 * t + 1)
    second = sym (high_byte _ _ _ _ (plain.small (45 + k + 2 * t) (omega (arith, near))) (plain.small (45 + k + 2 * t + 1) (omega (arith, near))) (plain.small (45 + m + 2 * t) (omega (arith, here))) (plain.small (45 + m + 2 * t + 1) (omega (arith, here))) both)

    -- it isn't 0xFFFF
    not_free : w (45 + m + 2 * t) ≡ 255 → w (45 + m + 2 * t + 1) ≡ 255 → ⊥
    not_free one two = omega (arith, plain.real t below here, one, two)

  -- fewer meta bytes: the first page number begins in these
  fewer : k < m → ⊥
  fewer less =
      let near : 0 < (page - 45 - k) / 2 = omega (arith, big, k_few) in
      let here : 0 < (page - 45 - m) / 2 = omega (arith, big, m_few) in
      let one : w (45 + m + 2 * 0) ≡ 255 = first 0 some near here ∙ plain.meta (45 + k + 2 * 0) (omega arith) (omega (arith, less)) in
      let two : w (45 + m + 2 * 0 + 1) ≡ 255 = second 0 some near here ∙ ⊎_elim
      (λ (in_meta : k + 1 < m). plain.meta (45 + k + 2 * 0 + 1) (omega arith) (omega (arith, in_meta)))
      (λ (last : m ≤ k + 1). at (45 + k + 2 * 0 + 1) (45 + m + 2 * 0) (omega (arith, less, last)) ∙ one)
      (cases_lt (k + 1) m) in
      not_free 0 some near here one two

  -- one meta byte more
  one_more : k ≡ m + 1 → ⊥
  one_more e =
      let near : 1 < (page - 45 - k) / 2 = omega (arith, big, k_few) in
      let here : 1 < (page - 45 - m) / 2 = omega (arith, big, m_few) in
      let a : w (45 + m + 2 * 0) ≡ w (45 + k + 2 * 0) = first 0 some (omega (arith, near)) (omega (arith, here)) in
      let b : w (45 + m + 2 * 0 + 1) ≡ w (45 + k + 2 * 0 + 1) = second 0 some (omega (arith, near)) (omega (arith, here)) in
      let x : w (45 + k + 2 * 0) ≡ w (45 + m + 2 * 0 + 1) = at _ _ (omega (arith, e)) in
      let y : w (45 + k + 2 * 0 + 1) ≡ w (45 + m + 2 * 1) = at _ _ (omega (arith, e)) in
      ⊎_elim
      (λ (two : 1 < n).
      let c : w (45 + m + 2 * 1) ≡ w (45 + k + 2 * 1) = first 1 two near here in
      let z : w (45 + k + 2 * 1) ≡ w (45 + m + 2 * 1 + 1) = at _ _ (omega (arith, e)) in
      let same : word w (45 + m + 2 * 0) ≡ word w (45 + m + 2 * 1) = omega (arith, a, b, c, x, y, z) in
      let bad : 0 ≡ 1 = plain.apart 0 1 some two (omega (arith, here)) here same in
      omega (arith, bad))
      (λ (only : n ≤ 1).
      let free : w (45 + m + 2 * 1) ≡ 255 = at (45 + m + 2 * 1) (45 + m + 2) (omega arith) ∙ tail 2 (omega (arith, only)) (omega (arith, here)) in
      not_free 0 some (omega (arith, near)) (omega (arith, here)) (omega (arith, a, b, x, y, free)) (omega (arith, b, y, free)))
      (cases_lt 1 n)

  -- more meta bytes, and all page numbers fit
  module _ (d : ℕ) (more : 2 ≤ d) (e : k ≡ m + d) (fits : n ≤ (page - 45 - k) / 2) where
    near : (t : ℕ) → t < n → t < (page - 45 - k) / 2
    near t below = omega (arith, below, fits)

    here : (t : ℕ) → t < n → t < (page - 45 - m) / 2
    here t below = omega (arith, below, fits, e)

    -- byte j of the page numbers is the one d bytes behind it
    moved : (t : ℕ) → t < n → (w (45 + m + 2 * t) ≡ w (45 + m + (2 * t + d))) × (w (45 + m + 2 * t + 1) ≡ w (45 + m + (2 * t + 1 + d)))
    moved t below = (
      first t below (near t below) (here t below) ∙ at _ _ (omega (arith, e)),
      second t below (near t below) (here t below) ∙ at _ _ (omega (arith, e)),
    )

    -- where both bytes behind a page number are behind the last one
    free_at : (t : ℕ) → t < n → 2 * n ≤ 2 * t + d → 2 * t + 1 + d < 2 * ((page - 45 - m) / 2) → ⊥
    free_at t below low high =
        let v = moved t below in
        not_free t below (near t below) (here t below) (v.0 ∙ tail (2 * t + d) low (omega (arith, high))) (v.1 ∙ tail (2 * t + 1 + d) (omega (arith, low)) high)

    all_fit : ⊥
    all_fit =
        ⊎_elim
        (λ (edge : 2 * ((page - 45 - m) / 2) < 2 * n + d).
        let last : 2 * n + d ≡ 2 * ((page - 45 - m) / 2) + 1 = omega (arith, edge, fits, e, big, k_few) in
        let many : 3 ≤ n = omega (arith, last, e, big, k_few) in
        ⊎_elim
        (λ (four : 3 < d). free_at (n - 2) (omega (arith, many)) (omega (arith, many, four)) (omega (arith, many, last)))
        (λ (three : d ≤ 3).
        let is : d ≡ 3 = omega (arith, three, more, last) in
        let a : w (45 + m + (2 * (n - 1))) ≡ 255 = (moved (n - 1) (omega (arith, many))).0 ∙ tail (2 * (n - 1) + d) (omega (arith, many, is)) (omega (arith, many, is, last)) in
        let b : w (45 + m + 2 * (n - 2) + 1) ≡ 255 = (moved (n - 2) (omega (arith, many))).1 ∙ tail (2 * (n - 2) + 1 + d) (omega (arith, many, is)) (omega (arith, many, is, last)) in
        let v = moved (n - 3) (omega (arith, many)) in
        not_free (n - 3) (omega (arith, many)) (near (n - 3) (omega (arith, many))) (here (n - 3) (omega (arith, many)))
        (v.0 ∙ at _ (45 + m + 2 * (n - 2) + 1) (omega (arith, many, is)) ∙ b)
        (v.1 ∙ at _ (45 + m + (2 * (n - 1))) (omega (arith, many, is)) ∙ a))
        (cases_lt 3 d))
        (λ (inside : 2 * n + d ≤ 2 * ((page - 45 - m) / 2)). free_at (n - 1) (omega (arith, some)) (omega (arith, some, more)) (omega (arith, some, inside)))
        (cases_lt (2 * ((page - 45 - m) / 2)) (2 * n + d))

  pub no_other : k ≢ m → ⊥
  no_other differ =
      ⊎_elim
      (λ (less : k < m). fewer less)
      (λ (le : m ≤ k).
      ⊎_elim
      (λ (one : k ≡ m + 1). one_more one)
      (λ (other : k ≡ m + 1 → ⊥).
      let more : 2 ≤ k - m = omega (arith, le, differ, other) in
      let e : k ≡ m + (k - m) = omega (arith, le) in
      ⊎_elim
      (λ (over : (page - 45 - k) / 2 < n). by.far over (omega (arith, more, big, k_few)))
      (λ (fits : n ≤ (page - 45 - k) / 2). all_fit (k - m) more e fits)
      (cases_lt ((page - 45 - k) / 2) n))
      (cases_eq k (m + 1)))
      (cases_lt k m)
