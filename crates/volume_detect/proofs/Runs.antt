-- Blocks that fail one behind the other, counted.
use Rattle.std.proofs.Common.{◌≡◌, ℕ, suc, ◌+◌, ◌-◌, ◌<◌, ◌≤◌, ◌∷◌, Bool, true, false, not, if◌then◌else◌, length, refl, sym, ap, ◌∙◌, subst, arith, ⊎_elim}
use Rattle.std.specs.Prelude.{filter}
use Rattle.std.specs.List.{range_with_len}
use Rattle.std.proofs.Math.Nat.{sub-zero}
use Rattle.std.proofs.lemmas.Bool.{cases_lt, both_ways}
use Rattle.volume_detect.specs.Marks.{failing, HasNoWideGap}
use Rattle.volume_detect.specs.Rows.{LongestOfGaps, gap_with}

module _ (good : ℕ → Bool) where
  -- of the blocks below `n` the last `gap` fail, and the one before them doesn't
  pub record GapIs (n gap : ℕ) : Type 0 where
    pub inside : gap ≤ n
    pub lack : (c : ℕ) → n ≤ c + gap → c < n → good c ≡ false
    pub before : gap < n → good (n - 1 - gap) ≡ true

  pub gap_none : GapIs 0 0
  gap_none = record { inside = omega arith; lack = λ c low high. absurd (omega (arith, high)); before = λ some. absurd (omega (arith, some)) }

  -- one more block
  pub gap_more : (n gap : ℕ) (has : Bool) → good n ≡ has → GapIs n gap → GapIs (n + 1) (gap_with gap has)
  gap_more n gap true here was = record {
    inside = omega arith;
    lack = λ c low high. absurd (omega (arith, low, high));
    before = λ some. ap good (let e : n + 1 - 1 - 0 ≡ n = omega arith in e) ∙ here;
  }
  gap_more n gap false here was = record {
    inside = omega (arith, was.inside);
    lack = λ c low high. ⊎_elim
        (λ (below : c < n). was.lack c (omega (arith, low)) below)
        (λ (above : n ≤ c). ap good (let e : c ≡ n = omega (arith, high) in e) ∙ here)
        (cases_lt c n);
    before = λ some. ap good (let e : n + 1 - 1 - (gap + 1) ≡ n - 1 - gap = omega arith in e) ∙ was.before (omega (arith, some));
  }

  pub gap_next : (n gap next : ℕ) (has : Bool) → next ≡ gap_with gap has → good n ≡ has → GapIs n gap → GapIs (n + 1) next
  gap_next n gap next has is here was = subst (λ (x : ℕ). GapIs (n + 1) x) (sym is) (gap_more n gap has here was)

  -- the gap at the end isn't too wide
  pub no_wider : (widest n gap : ℕ) → HasNoWideGap good widest n → GapIs (n + 1) gap → gap ≤ widest → HasNoWideGap good widest (n + 1)
  no_wider widest n gap was is few b low lacks = ⊎_elim
      (λ (below : b + widest < n). was b below lacks)
      (λ (here : n ≤ b + widest).
      let has : good (n + 1 - 1 - gap) ≡ true = is.before (omega (arith, low, here, few)) in
      both_ways (good (n + 1 - 1 - gap)) (lacks (n + 1 - 1 - gap) (omega (arith, low, here, few)) (omega (arith, here))) has)
      (cases_lt (b + widest) n)

  -- or it is
  pub too_wide : (widest n gap m : ℕ) → GapIs n gap → widest < gap → n ≤ m → HasNoWideGap good widest m → ⊥
  too_wide widest n gap m is more le none =
      none (n - 1 - widest) (omega (arith, is.inside, more, le)) (λ c low high. is.lack c (omega (arith, low, more, is.inside)) (omega (arith, high, is.inside, more)))

  pub none_wide : (widest : ℕ) → HasNoWideGap good widest 0
  none_wide widest b low lacks = omega (arith, low)

  pub fewer_wide : (widest n m : ℕ) → n ≤ m → HasNoWideGap good widest m → HasNoWideGap good widest n
  fewer_wide widest n m le none b low lacks = none b (omega (arith, low, le)) lacks

  -- ---- the longest row that has no wide gap

  pub record Widest (n longest gap : ℕ) : Type 0 where
    pub few : longest ≤ n
    pub last : 0 < longest → good (longest - 1) ≡ true
    pub behind : (q : ℕ) → longest ≤ q → q < n → good q ≡ false
    pub gap_is : GapIs n gap
    pub narrow : gap ≤ 2
    pub gaps : HasNoWideGap good 2 n

  pub widest_first : Widest 0 0 0
  widest_first = record {
    few = omega arith;
    last = λ some. absurd (omega (arith, some));
    behind = λ q low high. absurd (omega (arith, high));
    gap_is = gap_none;
    narrow = omega arith;
    gaps = none_wide 2;
  }

  pub widest_next : (n longest gap : ℕ) (has : Bool) → good n ≡ has → gap_with gap has ≤ 2 → Widest n longest gap → Widest (n + 1) (if has then n + 1 else longest) (gap_with gap has)
  widest_next n longest gap true here few was = record {
    few = omega arith;
    last = λ some. ap good (let e : n + 1 - 1 ≡ n = omega arith in e) ∙ here;
    behind = λ q low high. absurd (omega (arith, low, high));
    gap_is = gap_more n gap true here was.gap_is;
    narrow = few;
    gaps = no_wider 2 n 0 was.gaps (gap_more n gap true here was.gap_is) few;
  }
  widest_next n longest gap false here few was = record {
    few = omega (arith, was.few);
    last = was.last;
    behind = λ q low high. ⊎_elim (λ (below : q < n). was.behind q low below) (λ (above : n ≤ q). let e : q ≡ n = omega (arith, high) in ap good e ∙ here) (cases_lt q n);
    gap_is = gap_more n gap false here was.gap_is;
    narrow = few;
    gaps = no_wider 2 n (gap + 1) was.gaps (gap_more n gap false here was.gap_is) few;
  }

  -- all blocks were looked at
  pub widest_all : (n longest gap : ℕ) → Widest n longest gap → LongestOfGaps good n longest
  widest_all n longest gap was = record {
    few = was.few;
    last = was.last;
    gaps = fewer_wide 2 longest n was.few was.gaps;
    longest = λ k more few good_last gaps. both_ways (good (k - 1)) (was.behind (k - 1) (omega (arith, more)) (omega (arith, few, more))) good_last;
  }

  -- a wide gap ends it
  pub widest_end : (n most longest gap : ℕ) (has : Bool) → good n ≡ has → 2 < gap_with gap has → n < most → Widest n longest gap → LongestOfGaps good most longest
  widest_end n most longest gap has here wide less was = record {
    few = omega (arith, was.few, less);
    last = was.last;
    gaps = fewer_wide 2 longest n was.few was.gaps;
    longest = λ k more few good_last gaps. ⊎_elim
        (λ (below : k - 1 < n). both_ways (good (k - 1)) (was.behind (k - 1) (omega (arith, more)) below) good_last)
        (λ (above : n ≤ k - 1). too_wide 2 (n + 1) (gap_with gap has) k (gap_more n gap has here was.gap_is) wide (omega (arith, above, more)) gaps)
        (cases_lt (k - 1) n);
  }

-- ---- how many fail

-- those counted so far, and those to come
pub record CountsTo (good : ℕ → Bool) (n b count : ℕ) : Type 0 where
  pub few : count ≤ b
  pub most : b ≤ n
  pub all : count + length (filter (λ c. not (good c)) (range_with_len b (n - b))) ≡ failing good n

pub count_first : (good : ℕ → Bool) (n : ℕ) → CountsTo good n 0 0
count_first good n = record { few = omega arith; most = omega arith; all = rw (sub-zero n) (omega arith) }

range_step : (p e : ℕ) → p < e → range_with_len p (e - p) ≡ p ∷ range_with_len (p + 1) (e - (p + 1))
range_step p e h = let n : e - p ≡ suc (e - (p + 1)) = omega arith in rw n refl

pub count_more : (good : ℕ → Bool) (n b count : ℕ) (has : Bool) → b < n → good b ≡ has → CountsTo good n b count → CountsTo good n (b + 1) (if has then count else count + 1)
count_more good n b count true low here was = record {
  few = omega (arith, was.few);
  most = omega (arith, low);
  all = rw (range_step b n low, here) at was.all;
}
count_more good n b count false low here was = record {
  few = omega (arith, was.few);
  most = omega (arith, low);
  all = (let step = rw (range_step b n low, here) at was.all in omega (arith, step));
}

pub count_next : (good : ℕ → Bool) (n b count next : ℕ) (has : Bool) → next ≡ (if has then count else count + 1) → b < n → good b ≡ has → CountsTo good n b count → CountsTo good n (b + 1) next
count_next good n b count next has is low here was = subst (λ (x : ℕ). CountsTo good n (b + 1) x) (sym is) (count_more good n b count has low here was)

pub count_last : (good : ℕ → Bool) (n b count : ℕ) → n ≤ b → CountsTo good n b count → count ≡ failing good n
count_last good n b count end was = let none : n - b ≡ 0 = omega (arith, end) in let step = rw none at was.all in omega (arith, step)
