-- How many blocks lack their magic: counted, and said of each two.
use Rattle.std.proofs.Common.{◌≡◌, ℕ, zero, suc, ◌+◌, ◌<◌, ◌≤◌, length, Bool, true, false, not, refl, sym, ◌∙◌, ap, subst, arith, ⊎_elim}
use Rattle.std.specs.Prelude.{filter}
use Rattle.std.specs.List.{range_with_len}
use Rattle.std.proofs.lemmas.Bool.{cases_Bool, cases_lt, false_from_ne_true, not-true}
use Rattle.geometry.specs.declared.magic.MagicKind.{MagicKind}
use Rattle.geometry.specs.declared.magic.MagicKind.TheVariants.{Plain, Length}
use Rattle.volume_detect.specs.Marks.{failing, HasNoWideGap, widest_gap, most_failing, IsMarkedRow}
use Rattle.volume_detect.specs.Rows.{AtMostOne, LongestRow, LongestOfOne, LongestOfGaps}

-- one that passes is counted
one_at_least : (test : ℕ → Bool) (a n q : ℕ) → a ≤ q → q < a + n → test q ≡ true → 1 ≤ length (filter test (range_with_len a n))
one_at_least test a zero q low high passes = absurd (omega arith)
one_at_least test a (suc n) q low high passes = ⊎_elim
    (λ (here : test a ≡ true). rw here (omega arith))
    (λ (no : test a ≡ false).
    let there : a ≡ q → ⊥ = λ e. let bad : true ≡ false = sym passes ∙ ap test (sym e) ∙ no in absurd (cc) in
    rw no (one_at_least test (a + 1) n q (omega (arith, there)) (omega arith) passes))
    (cases_Bool (test a))

-- where the first passes and no more than one does, it is the one
is_first : (test : ℕ → Bool) (a n q : ℕ) → length (filter test (range_with_len (a + 1) n)) ≤ 0 → a ≤ q → q < a + suc n → test q ≡ true → q ≡ a
is_first test a n q none low high passes = ⊎_elim
    (λ (more : a < q). let one : 1 ≤ length (filter test (range_with_len (a + 1) n)) = one_at_least test (a + 1) n q (omega arith) (omega arith) passes in absurd (omega arith))
    (λ (same : q ≤ a). omega arith)
    (cases_lt a q)

-- where no more than one does, two that pass are one
same_one : (test : ℕ → Bool) (a n b c : ℕ) → length (filter test (range_with_len a n)) ≤ 1 → a ≤ b → b < a + n → test b ≡ true → a ≤ c → c < a + n → test c ≡ true → b ≡ c
same_one test a zero b c few low high here low' high' here' = absurd (omega arith)
same_one test a (suc n) b c few low high here low' high' here' = ⊎_elim
    (λ (first : test a ≡ true).
    let one : suc (length (filter test (range_with_len (a + 1) n))) ≤ 1 = rw first at few in
    let rest : length (filter test (range_with_len (a + 1) n)) ≤ 0 = omega (arith, one) in
    is_first test a n b rest low high here ∙ sym (is_first test a n c rest low' high' here'))
    (λ (no : test a ≡ false).
    let not_b : a ≡ b → ⊥ = λ e. let bad : true ≡ false = sym here ∙ ap test (sym e) ∙ no in absurd (cc) in
    let not_c : a ≡ c → ⊥ = λ e. let bad : true ≡ false = sym here' ∙ ap test (sym e) ∙ no in absurd (cc) in
    same_one test (a + 1) n b c (rw no at few) (omega (arith, not_b)) (omega arith) here (omega (arith, not_c)) (omega arith) here')
    (cases_Bool (test a))

-- where each fails none is counted
none_counted : (test : ℕ → Bool) (a n : ℕ) → ((q : ℕ) → a ≤ q → q < a + n → test q ≡ false) → length (filter test (range_with_len a n)) ≡ 0
none_counted test a zero fails = refl
none_counted test a (suc n) fails = rw (fails a (omega arith) (omega arith)) (none_counted test (a + 1) n (λ q low high. fails q (omega arith) (omega arith)))

-- where any two that pass are one, no more than one is counted
one_at_most : (test : ℕ → Bool) (a n : ℕ) → ((b c : ℕ) → a ≤ b → b < a + n → a ≤ c → c < a + n → test b ≡ true → test c ≡ true → b ≡ c) → length (filter test (range_with_len a n)) ≤ 1
one_at_most test a zero one = omega arith
one_at_most test a (suc n) one = ⊎_elim
    (λ (yes : test a ≡ true).
    let none : length (filter test (range_with_len (a + 1) n)) ≡ 0 = none_counted test (a + 1) n (λ q low high. false_from_ne_true _ (λ passes. let same : a ≡ q = one a q (omega arith) (omega arith) (omega (arith, low)) (omega (arith, high)) yes passes in absurd (omega (arith, same, low)))) in
    rw yes (omega (arith, none)))
    (λ (no : test a ≡ false). rw no (one_at_most test (a + 1) n (λ b c low high low' high' here there. one b c (omega (arith, low)) (omega (arith, high)) (omega (arith, low')) (omega (arith, high')) here there)))
    (cases_Bool (test a))

-- of the blocks of a row
pub one_fails : (good : ℕ → Bool) (n : ℕ) → failing good n ≤ 1 → AtMostOne good n
one_fails good n few b c low low' lacks lacks' = same_one (λ block. not (good block)) 0 n b c few (omega arith) (omega arith) (rw lacks refl) (omega arith) (omega arith) (rw lacks' refl)

pub fails_once : (good : ℕ → Bool) (n : ℕ) → AtMostOne good n → failing good n ≤ 1
fails_once good n gap = one_at_most (λ block. not (good block)) 0 n (λ b c low high low' high' here there. gap b c (omega (arith, high)) (omega (arith, high')) (not-true _ here) (not-true _ there))

-- no more are counted than there are
counted_most : (test : ℕ → Bool) (a n : ℕ) → length (filter test (range_with_len a n)) ≤ n
counted_most test a zero = omega arith
counted_most test a (suc n) = ⊎_elim
    (λ (yes : test a ≡ true). let rest = counted_most test (a + 1) n in rw yes (omega (arith, rest)))
    (λ (no : test a ≡ false). let rest = counted_most test (a + 1) n in rw no (omega (arith, rest)))
    (cases_Bool (test a))

-- where each passes none fails
pub none_fails : (good : ℕ → Bool) (n : ℕ) → ((b : ℕ) → b < n → good b ≡ true) → failing good n ≡ 0
none_fails good n all = none_counted (λ block. not (good block)) 0 n (λ q low high. rw (all q (omega (arith, high))) refl)

-- where at most one does no gap is wide
pub one_narrow : (good : ℕ → Bool) (widest n : ℕ) → 1 ≤ widest → AtMostOne good n → HasNoWideGap good widest n
one_narrow good widest n some gap b low lacks =
    let same : b ≡ b + 1 = gap b (b + 1) (omega (arith, low)) (omega (arith, low, some)) (lacks b (omega arith) (omega arith)) (lacks (b + 1) (omega arith) (omega (arith, some))) in
    absurd (omega (arith, same))

pub widest_some : (kind : MagicKind) → 1 ≤ widest_gap kind
widest_some Plain = omega arith
widest_some Length = omega arith

-- the longest row, by its first block
pub row_of_gaps : (good : ℕ → Bool) (most n : ℕ) → good 0 ≡ true → LongestOfGaps good most n → LongestRow good most n
row_of_gaps good most n here longest = record {
  few = longest.few;
  last = longest.last;
  row = record { gaps = longest.gaps; few = rw here (counted_most (λ block. not (good block)) 0 n) };
  longest = λ k more few last row. longest.longest k more few last row.gaps;
}

pub row_of_one : (good : ℕ → Bool) (most n : ℕ) → good 0 ≡ false → LongestOfOne good most n → LongestRow good most n
row_of_one good most n here longest = record {
  few = longest.few;
  last = longest.last;
  row = record { gaps = one_narrow good 2 n (omega arith) longest.gap; few = rw here (fails_once good n longest.gap) };
  longest = λ k more few last row. longest.longest k more few last (one_fails good k (subst (λ (first : Bool). failing good k ≤ most_failing Plain first k) here row.few));
}

-- a test that is another at each number
same_count : (good other : ℕ → Bool) (a n : ℕ) → ((b : ℕ) → a ≤ b → b < a + n → good b ≡ other b) → length (filter (λ b. not (good b)) (range_with_len a n)) ≡ length (filter (λ b. not (other b)) (range_with_len a n))
same_count good other a zero same = refl
same_count good other a (suc n) same =
    let rest = same_count good other (a + 1) n (λ b low high. same b (omega (arith, low)) (omega (arith, high))) in
    let here : good a ≡ other a = same a (omega arith) (omega arith) in
    ⊎_elim
    (λ (yes : good a ≡ true). rw (yes, sym here ∙ yes) rest)
    (λ (no : good a ≡ false). rw (no, sym here ∙ no) (ap (λ (k : ℕ). suc k) rest))
    (cases_Bool (good a))

pub gaps_by : (good other : ℕ → Bool) (widest n : ℕ) → ((b : ℕ) → b < n → good b ≡ other b) → HasNoWideGap good widest n → HasNoWideGap other widest n
gaps_by good other widest n same gaps b low lacks = gaps b low (λ c from to. same c (omega (arith, low, to)) ∙ lacks c from to)

pub row_by : (good other : ℕ → Bool) (kind : MagicKind) (n : ℕ) → 0 < n → ((b : ℕ) → b < n → good b ≡ other b) → IsMarkedRow good kind n → IsMarkedRow other kind n
row_by good other kind n some same row = record {
  gaps = gaps_by good other (widest_gap kind) n same row.gaps;
  few = (let count : failing good n ≡ failing other n = same_count good other 0 n (λ b low high. same b (omega (arith, high))) in
      subst (λ (x : ℕ). x ≤ most_failing kind (other 0) n) count (subst (λ (first : Bool). failing good n ≤ most_failing kind first n) (same 0 some) row.few));
}
