-- Numbers of a range that pass a test, and those of them before which a multiple of so many do.
use Rattle.std.proofs.Common.{◌≡◌, ◌≢◌, ℕ, zero, suc, ◌+◌, ◌*◌, ◌/◌, ◌%◌, ◌<◌, ◌≤◌, ◌⊎◌, length, Bool, true, false, not, cond, nat_lt, ◌==◌, ◌&&◌, refl, sym, ◌∙◌, subst, arith, ⊎_elim}
use Rattle.std.specs.Prelude.{filter}
use Rattle.std.specs.List.{range_with_len}
use Rattle.std.proofs.Math.Nat.{mul-le-mul_right, div-add-mod}
use Rattle.std.proofs.lemmas.Bool.{cases_Bool, cases_eq, cases_lt, eqb-true, lt-ltb, le-ltb, eqb-false}
use Rattle.image_laws.proofs.DeadEntries.{filter-one}
use Rattle.image_laws.proofs.FreeBlocks.{filter-same}
use Rattle.image_laws.proofs.Matching.{filter-none_in}

-- how many numbers of a range pass
abbrev pub count : (ℕ → Bool) → (a n : ℕ) → ℕ
count test a n = length (filter test (range_with_len a n))

count_on : (test : ℕ → Bool) (a n : ℕ) → count test a (suc n) ≡ cond (test a) 1 0 + count test (a + 1) n
count_on test a n = ⊎_elim (λ (holds : test a ≡ true). rw holds (omega arith)) (λ (none : test a ≡ false). rw none (omega arith)) (cases_Bool (test a))

-- those that pass two tests, and those that pass the first one alone
pub count_split : (test other : ℕ → Bool) (a n : ℕ) → count test a n ≡ count (λ p. test p && other p) a n + count (λ p. test p && not (other p)) a n
count_split test other a zero = refl
count_split test other a (suc n) =
    let whole = count_on test a n in
    let both = count_on (λ p. test p && other p) a n in
    let alone = count_on (λ p. test p && not (other p)) a n in
    let rest = count_split test other (a + 1) n in
    let here : cond (test a) 1 0 ≡ cond (test a && other a) 1 0 + cond (test a && not (other a)) 1 0 = by (test a) (other a) in
    omega (arith, whole, both, alone, rest, here)
  where
    by : (x y : Bool) → cond x 1 0 ≡ cond (x && y) 1 0 + cond (x && not y) 1 0
    by true true = refl
    by true false = refl
    by false true = refl
    by false false = refl

-- where each that passes one test passes another, no more pass it
pub count_less : (test other : ℕ → Bool) (a n : ℕ) → ((q : ℕ) → a ≤ q → q < a + n → test q ≡ true → other q ≡ true) → count test a n ≤ count other a n
count_less test other a zero each = omega arith
count_less test other a (suc n) each =
    let one = count_on test a n in
    let two = count_on other a n in
    let rest = count_less test other (a + 1) n (λ q low high is. each q (omega arith) (omega arith) is) in
    ⊎_elim
    (λ (holds : test a ≡ true). let there = each a (omega arith) (omega arith) holds in let x : ◌≡◌ {A = ℕ} (cond (test a) 1 0) 1 = rw holds refl in let y : ◌≡◌ {A = ℕ} (cond (other a) 1 0) 1 = rw there refl in omega (arith, one, two, x, y, rest))
    (λ (fails : test a ≡ false). let x : ◌≡◌ {A = ℕ} (cond (test a) 1 0) 0 = rw fails refl in omega (arith, one, x, two, rest))
    (cases_Bool (test a))

-- so many numbers over so many in each, rounded up
pub record IsOver (all each parts : ℕ) : Type 0 where
  pub enough : all ≤ parts * each
  pub least : parts * each < all + each

-- one more: where the number was a multiple, it begins a further part
over_more : (all each parts : ℕ) → 0 < each → IsOver all each parts → IsOver (all + 1) each (parts + cond (all % each == 0) 1 0)
over_more all each parts some over = by (all % each == 0) refl
  where
    whole : each * (all / each) + all % each ≡ all
    whole = div-add-mod all each

    same : each * (all / each) ≡ (all / each) * each
    same = omega arith

    by : (b : Bool) → (all % each == 0) ≡ b → IsOver (all + 1) each (parts + cond b 1 0)
    by true e =
        let none : all % each ≡ 0 = eqb-true (all % each) 0 e in
        let most : parts ≤ all / each = ⊎_elim
        (λ (less : all / each < parts). let m : (all / each + 1) * each ≤ parts * each = mul-le-mul_right each (omega arith) in let l = over.least in absurd (omega (arith, m, l, none, whole, same)))
        (λ (ok : parts ≤ all / each). ok)
        (cases_lt (all / each) parts) in
        let up : parts * each ≤ (all / each) * each = mul-le-mul_right each most in
        let en = over.enough in
        record { enough = omega (arith, en, some); least = omega (arith, up, none, whole, same) }
    by false e =
        let some_left : all % each ≢ 0 = eqb-false (all % each) 0 e in
        let apart : all ≢ parts * each = λ is. some_left (zero_rest is) in
        let en = over.enough in let l = over.least in
        record { enough = omega (arith, en, apart); least = omega (arith, l) }
      where
        zero_rest : all ≡ parts * each → all % each ≡ 0
        zero_rest is = ⊎_elim
            (λ (less : all / each < parts). let m : (all / each + 1) * each ≤ parts * each = mul-le-mul_right each (omega arith) in let small : all % each < each = omega arith in absurd (omega (arith, m, small, whole, same, is)))
            (λ (ok : parts ≤ all / each). let m : parts * each ≤ (all / each) * each = mul-le-mul_right each ok in omega (arith, m, whole, same, is))
            (cases_lt (all / each) parts)

-- Those before which a multiple of so many pass are the parts of all that pass.
module _ (test : ℕ → Bool) (before : ℕ → ℕ) (each : ℕ) (some : 0 < each) where
  firsts_next : (a n parts : ℕ) → before (a + 1) ≡ before a + cond (test a) 1 0 → IsOver (before a) each parts →
      ((add : ℕ) → IsOver (before (a + 1)) each (parts + add) → IsOver (before (a + 1) + count test (a + 1) n) each (parts + add + count (λ p. test p && (before p % each == 0)) (a + 1) n)) →
      IsOver (before a + count test a (suc n)) each (parts + count (λ p. test p && (before p % each == 0)) a (suc n))
  firsts_next a n parts next over rest = by (test a) refl
    where
      all : count test a (suc n) ≡ cond (test a) 1 0 + count test (a + 1) n
      all = count_on test a n

      ones : count (λ p. test p && (before p % each == 0)) a (suc n) ≡ cond (test a && (before a % each == 0)) 1 0 + count (λ p. test p && (before p % each == 0)) (a + 1) n
      ones = count_on (λ p. test p && (before p % each == 0)) a n

      go : (add : ℕ) → add ≡ cond (test a && (before a % each == 0)) 1 0 → IsOver (before (a + 1)) each (parts + add) →
          IsOver (before a + count test a (suc n)) each (parts + count (λ p. test p && (before p % each == 0)) a (suc n))
      go add is start =
          let done = rest add start in
          let e1 : before (a + 1) + count test (a + 1) n ≡ before a + count test a (suc n) = omega (arith, next, all) in
          let e2 : parts + add + count (λ p. test p && (before p % each == 0)) (a + 1) n ≡ parts + count (λ p. test p && (before p % each == 0)) a (suc n) = omega (arith, ones, is) in
          let e = done.enough in
          let l = done.least in
          record { enough = subst (λ (k : ℕ). before a + count test a (suc n) ≤ k * each) e2 (omega (arith, e, e1)); least = subst (λ (k : ℕ). k * each < before a + count test a (suc n) + each) e2 (omega (arith, l, e1)) }

      by : (b : Bool) → test a ≡ b → IsOver (before a + count test a (suc n)) each (parts + count (λ p. test p && (before p % each == 0)) a (suc n))
      by true holds =
          let one : before (a + 1) ≡ before a + 1 = rw holds at next in
          go (cond (before a % each == 0) 1 0) (rw holds refl) (subst (λ (k : ℕ). IsOver k each (parts + cond (before a % each == 0) 1 0)) (sym one) (over_more (before a) each parts some over))
      by false none =
          let same : before (a + 1) ≡ before a = (let h = rw none at next in omega (arith, h)) in
          let e = over.enough in
          let l = over.least in
          go 0 (rw none refl) (subst (λ (k : ℕ). IsOver k each (parts + 0)) (sym same) (record { enough = omega (arith, e); least = omega (arith, l) }))

  firsts_from : (a n parts : ℕ) → ((p : ℕ) → a ≤ p → p < a + n → before (p + 1) ≡ before p + cond (test p) 1 0) → IsOver (before a) each parts →
      IsOver (before a + count test a n) each (parts + count (λ p. test p && (before p % each == 0)) a n)
  firsts_from a zero parts steps over = let e = over.enough in let l = over.least in record { enough = omega (arith, e); least = omega (arith, l) }
  firsts_from a (suc n) parts steps over =
      firsts_next a n parts (steps a (omega arith) (omega arith)) over (λ add start. firsts_from (a + 1) n (parts + add) (λ p low high. steps p (omega arith) (omega arith)) start)

-- how many of a range pass below p
abbrev pub below : (ℕ → Bool) → (a n p : ℕ) → ℕ
below test a n p = count (λ q. nat_lt q p && test q) a n

below_more : (test : ℕ → Bool) (a n p : ℕ) → a ≤ p → p < a + n → below test a n (p + 1) ≡ below test a n p + cond (test p) 1 0
below_more test a n p low high = by (test p) refl
  where
    aside : (q : ℕ) → q ≢ p → nat_lt q p ≡ nat_lt q (p + 1)
    aside q out = ⊎_elim
        (λ (less : q < p). lt-ltb q p less ∙ sym (lt-ltb q (p + 1) (omega arith)))
        (λ (more : p ≤ q). le-ltb q p more ∙ sym (le-ltb q (p + 1) (omega arith)))
        (cases_lt q p)

    by : (b : Bool) → test p ≡ b → below test a n (p + 1) ≡ below test a n p + cond b 1 0
    by true holds =
        let one = filter-one (λ (q : ℕ). nat_lt q (p + 1) && test q) (λ (q : ℕ). nat_lt q p && test q) p a n low high (rw (lt-ltb p (p + 1) (omega arith), holds) refl) (rw (le-ltb p p (omega arith)) refl)
        (λ q out. rw (aside q out) refl) in
        omega (arith, one)
    by false none =
        let same = filter-same (λ (q : ℕ). nat_lt q (p + 1) && test q) (λ (q : ℕ). nat_lt q p && test q) a n
        (λ q l h. ⊎_elim (λ (here : q ≡ p). rw here (rw none (no (nat_lt p p) ∙ sym (no (nat_lt p (p + 1)))))) (λ (out : q ≡ p → ⊥). rw (aside q out) refl) (cases_eq q p)) in
        omega (arith, same)
      where
        no : (x : Bool) → (x && false) ≡ false
        no true = refl
        no false = refl

-- So those with a multiple of so many before them are the parts.
pub firsts : (test : ℕ → Bool) (each a n : ℕ) → 0 < each → IsOver (count test a n) each (count (λ p. test p && (below test a n p % each == 0)) a n)
firsts test each a n some =
    let none : below test a n a ≡ 0 = filter-none_in (λ (q : ℕ). nat_lt q a && test q) a n (λ q low high. rw (le-ltb q a low) refl) in
    let start : IsOver (below test a n a) each 0 = rw none (record { enough = omega arith; least = omega (arith, some) }) in
    let all = firsts_from test (below test a n) each some a n 0 (λ p low high. below_more test a n p low high) start in
    let e = all.enough in
    let l = all.least in
    record { enough = omega (arith, e, none); least = omega (arith, l, none) }

-- Where fewer are left by at least so many, or none is, they make fewer parts.
pub fewer_parts : (each was now m parts left : ℕ) → IsOver was each parts → IsOver now each left → now + m ≡ was → 0 < m → (each ≤ m) ⊎ (now ≡ 0) → left + 1 ≤ parts
fewer_parts each was now m parts left big small went some how =
    let b = big.enough in let s = small.least in
    ⊎_elim
    (λ (less : left < parts). omega arith)
    (λ (same : parts ≤ left).
    let m1 : parts * each ≤ left * each = mul-le-mul_right each same in
    absurd (⊎_elim
    (λ (full : each ≤ m). omega (arith, b, s, m1, went))
    (λ (none : now ≡ 0). ⊎_elim
    (λ (more : 0 < left). let one : 1 * each ≤ left * each = mul-le-mul_right each (omega arith) in omega (arith, one, s, none))
    (λ (zero_left : left ≤ 0). let up : left * each ≤ 0 * each = mul-le-mul_right each zero_left in omega (arith, up, b, m1, went, none, some))
    (cases_lt 0 left))
    how))
    (cases_lt left parts)
