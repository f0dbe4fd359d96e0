-- Blocks looked at one after the other.
use Rattle.std.proofs.Common.{◌≡◌, ℕ, ◌+◌, ◌-◌, ◌<◌, ◌≤◌, Bool, true, false, Some, None, if◌then◌else◌, sym, ap, ◌∙◌, arith, ⊎_elim}
use Rattle.std.proofs.lemmas.Bool.{cases_lt, both_ways}
use Rattle.volume_detect.specs.Rows.{AtMostOne, TwoFail, LongestOfOne, gap_step, GapSeen}

module _ (good : ℕ → Bool) where
  -- a number below the next one is below, or the last
  last_or : (n q : ℕ) → q < n + 1 → (q < n → ⊥) → q ≡ n
  last_or n q low not_below = ⊎_elim (λ (below : q < n). absurd (not_below below)) (λ (above : n ≤ q). omega arith) (cases_lt q n)

  -- one more block
  pub gap_next : (n : ℕ) (lacks has next : Bool) → gap_step lacks has ≡ Some next → good n ≡ has → GapSeen good n lacks → GapSeen good (n + 1) next
  gap_next n false true false is here seen = λ q low. ⊎_elim (λ (below : q < n). seen q below) (λ (above : n ≤ q). let e : q ≡ n = omega arith in ap good e ∙ here) (cases_lt q n)
  gap_next n false true true is here seen = absurd (cc)
  gap_next n true true true is here seen = (seen.0, omega (arith, seen.1), seen.2, λ q low lacks. ⊎_elim (λ (below : q < n). seen.3 q below lacks) (λ (above : n ≤ q). let e : q ≡ n = omega arith in absurd (both_ways (good q) lacks (ap good e ∙ here))) (cases_lt q n))
  gap_next n true true false is here seen = absurd (cc)
  gap_next n false false true is here seen = (n, omega arith, here, λ q low lacks. ⊎_elim (λ (below : q < n). absurd (both_ways (good q) lacks (seen q below))) (λ (above : n ≤ q). omega arith) (cases_lt q n))
  gap_next n false false false is here seen = absurd (cc)
  gap_next n true false next is here seen = absurd (cc)

  -- a second gap
  pub two_gaps : (n m : ℕ) (lacks has : Bool) → gap_step lacks has ≡ None → good n ≡ has → n < m → GapSeen good n lacks → TwoFail good m
  two_gaps n m lacks true is here less seen = absurd (cc)
  two_gaps n m false false is here less seen = absurd (cc)
  two_gaps n m true false is here less seen = (seen.0, n, seen.1, less, seen.2, here)

  -- at most one fails
  pub one_gap : (n : ℕ) (lacks : Bool) → GapSeen good n lacks → AtMostOne good n
  one_gap n false seen b c low low' fails fails' = absurd (both_ways (good b) fails (seen b low))
  one_gap n true seen b c low low' fails fails' = seen.3 b low fails ∙ sym (seen.3 c low' fails')

  -- the longest row so far: all behind it fail
  pub record Longest (n longest : ℕ) (lacks : Bool) : Type 0 where
    pub few : longest ≤ n
    pub last : 0 < longest → good (longest - 1) ≡ true
    pub behind : (q : ℕ) → longest ≤ q → q < n → good q ≡ false
    pub seen : GapSeen good n lacks

  pub longest_next : (n longest : ℕ) (lacks has next : Bool) → gap_step lacks has ≡ Some next → good n ≡ has → Longest n longest lacks → Longest (n + 1) (if has then n + 1 else longest) next
  longest_next n longest lacks true next is here was = record {
    few = omega arith;
    last = λ some. ap good (let e : n + 1 - 1 ≡ n = omega arith in e) ∙ here;
    behind = λ q low high. absurd (omega (arith, low, high));
    seen = gap_next n lacks true next is here was.seen;
  }
  longest_next n longest lacks false next is here was = record {
    few = omega (arith, was.few);
    last = was.last;
    behind = λ q low high. ⊎_elim (λ (below : q < n). was.behind q low below) (λ (above : n ≤ q). let e : q ≡ n = omega (arith, high) in ap good e ∙ here) (cases_lt q n);
    seen = gap_next n lacks false next is here was.seen;
  }

  pub longest_first : Longest 0 0 false
  longest_first = record { few = omega arith; last = λ some. absurd (omega (arith, some)); behind = λ q low high. absurd (omega (arith, high)); seen = λ q low. absurd (omega (arith, low)) }

  fewer_gap : (n m : ℕ) → n ≤ m → AtMostOne good m → AtMostOne good n
  fewer_gap n m le gap b c low low' fails fails' = gap b c (omega (arith, low, le)) (omega (arith, low', le)) fails fails'

  -- all blocks were looked at
  pub longest_all : (n longest : ℕ) (lacks : Bool) → Longest n longest lacks → LongestOfOne good n longest
  longest_all n longest lacks was = record {
    few = was.few;
    last = was.last;
    gap = fewer_gap longest n was.few (one_gap n lacks was.seen);
    longest = λ k more few good_last gap. both_ways (good (k - 1)) (was.behind (k - 1) (omega (arith, more)) (omega (arith, few, more))) good_last;
  }

  -- a second gap ends it
  pub longest_end : (n most longest : ℕ) (lacks has : Bool) → gap_step lacks has ≡ None → good n ≡ has → n < most → Longest n longest lacks → LongestOfOne good most longest
  longest_end n most longest lacks has is here less was = record {
    few = omega (arith, was.few, less);
    last = was.last;
    gap = fewer_gap longest n was.few (one_gap n lacks was.seen);
    longest = λ k more few good_last gap. ⊎_elim
        (λ (below : k - 1 < n). both_ways (good (k - 1)) (was.behind (k - 1) (omega (arith, more)) below) good_last)
        (λ (above : n ≤ k - 1).
        let two = two_gaps n k lacks has is here (omega (arith, above, more)) was.seen in
        let same : two.0 ≡ two.1 = gap two.0 two.1 (omega (arith, two.2, two.3)) two.3 two.4 two.5 in
        absurd (omega (arith, same, two.2)))
        (cases_lt (k - 1) n);
  }
