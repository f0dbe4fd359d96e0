-- The number of meta bytes that reads most, by trying one after the other.
use Rattle.std.proofs.Common.{◌≡◌, ℕ, ◌+◌, ◌<◌, ◌≤◌, List, length, ap, refl, sym, ◌∙◌, arith, subst, ⊎_elim}
use Rattle.std.specs.Prelude.{nat_lt, if◌then◌else◌}
use Rattle.std.proofs.lemmas.Bool.{lt-ltb, le-ltb, cases_lt}
use Rattle.geometry.specs.declared.geometry.Geometry.{Geometry}
use Rattle.image_model.specs.Tables.{table_of}
use Rattle.meta_guess.specs.declared.counts.Counts.{Counts}
use Rattle.meta_guess.specs.Guesses.{CountsOf, SameBut, CountsBy, IsBest, IsGuess}
use Rattle.meta_guess.proofs.Geometries.{same_meta}
use Rattle.meta_guess.proofs.Sums.{same_sum}

module _ (g : Geometry) (image : List ℕ) where
  -- how many files are whole by so many meta bytes
  whole_by : (meta : ℕ) (counts : Counts) → CountsBy g image meta counts → (h : Geometry) → SameBut g h → h.meta ≡ meta → length (table_of h image) ≡ counts.whole
  whole_by meta counts by h same is =
      let e : h ≡ by.volume = same_meta g h by.volume same by.is.same (is ∙ sym by.is.meta_is) in
      ap (λ (x : Geometry). length (table_of x image)) e ∙ sym by.counts_are.whole

  -- the first number
  pub best_first : (counts : Counts) → CountsBy g image 0 counts → IsBest g image 1 0 counts
  best_first counts by = record {
    counts = by;
    most = λ h same low. let e = whole_by 0 counts by h same (omega arith) in omega (arith, e);
    least = λ h same low. absurd (omega (arith, low));
  }

  more : (end meta : ℕ) (best counts : Counts) → IsBest g image end meta best → CountsBy g image end counts → best.whole < counts.whole → IsBest g image (end + 1) end counts
  more end meta best counts was by lt = record {
    counts = by;
    most = λ h same low. ⊎_elim
        (λ (below : h.meta < end). let e = was.most h same below in omega (arith, e, lt))
        (λ (at : end ≤ h.meta). let e = whole_by end counts by h same (omega (arith, low, at)) in omega (arith, e))
        (cases_lt h.meta end);
    least = λ h same low. let e = was.most h same low in omega (arith, e, lt);
  }

  stays : (end meta : ℕ) (best counts : Counts) → IsBest g image end meta best → CountsBy g image end counts → counts.whole ≤ best.whole → IsBest g image (end + 1) meta best
  stays end meta best counts was by le = record {
    counts = was.counts;
    most = λ h same low. ⊎_elim
        (λ (below : h.meta < end). was.most h same below)
        (λ (at : end ≤ h.meta). let e = whole_by end counts by h same (omega (arith, low, at)) in omega (arith, e, le))
        (cases_lt h.meta end);
    least = was.least;
  }

  -- one number more
  pub best_next : (end : ℕ) (best other next : ℕ × Counts) → other.0 ≡ end → IsBest g image end best.0 best.1 → CountsBy g image end other.1 → next ≡ (if nat_lt best.1.whole other.1.whole then other else best) → IsBest g image (end + 1) next.0 next.1
  best_next end best other next at was by is = ⊎_elim
      (λ (lt : best.1.whole < other.1.whole).
      let e : next ≡ other = is ∙ rw (lt-ltb best.1.whole other.1.whole lt) refl in
      let here : IsBest g image (end + 1) other.0 other.1 = subst (λ (m : ℕ). IsBest g image (end + 1) m other.1) (sym at) (more end best.0 best.1 other.1 was by lt) in
      subst (λ (x : ℕ × Counts). IsBest g image (end + 1) x.0 x.1) (sym e) here)
      (λ (le : other.1.whole ≤ best.1.whole).
      let e : next ≡ best = is ∙ rw (le-ltb best.1.whole other.1.whole le) refl in
      subst (λ (x : ℕ × Counts). IsBest g image (end + 1) x.0 x.1) (sym e) (stays end best.0 best.1 other.1 was by le))
      (cases_lt best.1.whole other.1.whole)

  -- the better one is a number that was tried
  pub next_below : (end : ℕ) (best other next : ℕ × Counts) → other.0 ≡ end → best.0 < end → next ≡ (if nat_lt best.1.whole other.1.whole then other else best) → next.0 < end + 1
  next_below end best other next at low is = ⊎_elim
      (λ (lt : best.1.whole < other.1.whole).
      let e : next ≡ other = is ∙ rw (lt-ltb best.1.whole other.1.whole lt) refl in
      let here : next.0 ≡ other.0 = ap (λ (x : ℕ × Counts). x.0) e in omega (arith, here, at))
      (λ (le : other.1.whole ≤ best.1.whole).
      let e : next ≡ best = is ∙ rw (le-ltb best.1.whole other.1.whole le) refl in
      let here : next.0 ≡ best.0 = ap (λ (x : ℕ × Counts). x.0) e in omega (arith, here, low))
      (cases_lt best.1.whole other.1.whole)

  -- the given number leaves no id damaged
  pub guess_given : (given : Counts) (meta : ℕ) → CountsOf g image given → given.damaged ≡ 0 → meta ≡ g.meta → IsGuess g image (record { given = given; meta = meta; best = given })
  guess_given given meta counts none is = record {
    given = counts;
    best = record { volume = g; is = record { same = record { page_is = refl; block_is = refl; blocks_is = refl; phys_is = refl; meta_is = refl; magic_is = refl }; meta_is = sym is }; counts_are = counts };
    most = λ h same. let sum = same_sum g h image same in omega (arith, sum, counts.whole, counts.damaged, none);
    fewest = λ h same. omega (arith, none);
    stays = λ zero. is;
    least = λ h some same low. absurd (omega (arith, some, none));
  }

  -- it leaves some damaged, and this number reads most
  pub guess_best : (given best : Counts) (meta : ℕ) → CountsOf g image given → 0 < given.damaged → IsBest g image 65 meta best → IsGuess g image (record { given = given; meta = meta; best = best })
  guess_best given best meta counts some found = record {
    given = counts;
    best = found.counts;
    most = λ h same. let few = h.valid.meta_most in found.most h same (omega (arith, few));
    fewest = λ h same.
        let by = found.counts in
        let few = h.valid.meta_most in
        let less = found.most h same (omega (arith, few)) in
        let here = same_sum g h image same in
        let there = same_sum g by.volume image by.is.same in
        omega (arith, less, here, there, by.counts_are.whole, by.counts_are.damaged);
    stays = λ zero. absurd (omega (arith, some, zero));
    least = λ h positive same low. found.least h same low;
  }
