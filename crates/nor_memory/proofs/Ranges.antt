-- Ranges of an image, and what stands in them after a program or an erase.
use Rattle.std.proofs.Common.{◌≡◌, ℕ, zero, suc, ◌+◌, ◌<◌, ◌≤◌, List, [], ◌∷◌, ◌++◌, length, take, drop, get_or, replicate, refl, sym, ◌∙◌, ap, subst, arith, zero-add}
use Rattle.std.proofs.Common.{length-append, length-drop, take-append-drop}
use Rattle.std.proofs.lemmas.List.{length-take, take_all, drop_all, append-nil, length-replicate}
use Rattle.std.proofs.lemmas.Grind.{common_steps}
use Rattle.nor_memory.specs.declared.plan.Way.{Way}
use Rattle.nor_memory.specs.declared.plan.Way.TheVariants.{Whole, Fails, Cut, Unpowered}
use Rattle.nor_core.specs.Flash.{programmed, HalfProgrammed, IsBetween, EachBetween, erased, SameOutside}
use Rattle.nor_memory.specs.Picks.{put, RangeProgrammed, SomeCleared}
use Rattle.nor_core.proofs.Programs.{length-programmed, programmed_range, half_programmed, half_none, between_masked}

range_put : (old : List ℕ) (at n end : ℕ) → end ≡ at + n → end ≤ length old → take at old ++ take n (drop at old) ++ drop end old ≡ old
range_put old zero n end is within = let same : end ≡ n = omega (arith, is) in ap (λ (k : ℕ). take n old ++ drop k old) same ∙ take-append-drop n old
range_put [] (suc at) n end is within = absurd (omega (arith, is, within))
range_put (b ∷ old) (suc at) n zero is within = absurd (omega (arith, is))
range_put (b ∷ old) (suc at) n (suc end) is within = ap (λ (l : List ℕ). b ∷ l) (range_put old at n end (omega (arith, is)) (omega (arith, within)))

-- a range put in keeps the size
pub put_size : (old : List ℕ) (at : ℕ) (bytes : List ℕ) → at + length bytes ≤ length old → length (put old at bytes) ≡ length old
put_size old at bytes within = omega (arith, length-append (take at old ++ bytes) (drop (at + length bytes) old), length-append (take at old) bytes, length-take at old, length-drop (at + length bytes) old, within)

-- a range within an image has its size
pub range_size : (old : List ℕ) (at n : ℕ) → at + n ≤ length old → length (take n (drop at old)) ≡ n
range_size old at n within = omega (arith, within, length-drop at old, length-take n (drop at old))

-- what stands in a range, put back there
pub put_same : (old : List ℕ) (at n : ℕ) (left : List ℕ) → at + n ≤ length old → left ≡ take n (drop at old) → put old at left ≡ old
put_same old at n left within left_is =
    let long = range_size old at n within in
    ap (λ (l : List ℕ). put old at l) left_is
    ∙ range_put old at n (at + length (take n (drop at old))) (omega (arith, long)) (omega (arith, long, within))

-- a finished range of a program, put back
pub put_programmed : (old : List ℕ) (at n : ℕ) (asked left : List ℕ) → n ≡ length asked → at + n ≤ length old → left ≡ programmed (take n (drop at old)) zero asked → put old at left ≡ programmed old at asked
put_programmed old at n asked left n_is within left_is =
    let long : length (programmed (take n (drop at old)) zero asked) ≡ n = length-programmed (take n (drop at old)) zero asked ∙ range_size old at n within in
    ap (λ (l : List ℕ). put old at l) left_is
    ∙ programmed_range old at asked n (at + length (programmed (take n (drop at old)) zero asked)) n_is (omega (arith, long)) (omega (arith, long, within))

-- a finished unit of an erase, put back
pub put_erased : (old : List ℕ) (start unit : ℕ) (left : List ℕ) → left ≡ replicate unit 255 → put old start left ≡ erased old start unit
put_erased old start unit left left_is = ap (λ (l : List ℕ). put old start l) left_is ∙ ap (λ (n : ℕ). take start old ++ replicate unit 255 ++ drop (start + n) old) (length-replicate unit 255)

-- a slice of a whole vector, written back
pub written_back : (items slice : List ℕ) (len : ℕ) → len ≡ length items → length slice ≡ length items → take len (slice ++ drop (length slice) items) ≡ slice
written_back items slice len len_is same =
    ap (λ (l : List ℕ). take len (slice ++ l)) (drop_all (length slice) items (omega (arith, same)))
    ∙ ap (λ (l : List ℕ). take len l) (append-nil slice)
    ∙ take_all len slice (omega (arith, len_is, same))

-- a byte before what was put in stays
pub get_or-put_before : (old : List ℕ) (at : ℕ) (bytes : List ℕ) (k : ℕ) → at + length bytes ≤ length old → k < at → get_or (put old at bytes) k 0 ≡ get_or old k 0
get_or-put_before old at bytes k within below = grind (arith, common_steps)

-- a byte after it stays
pub get_or-put_after : (old : List ℕ) (at : ℕ) (bytes : List ℕ) (k : ℕ) → at + length bytes ≤ length old → at + length bytes ≤ k → get_or (put old at bytes) k 0 ≡ get_or old k 0
get_or-put_after old at bytes k within above = grind (arith, common_steps)

-- a byte of it is there
pub get_or-put_inside : (old : List ℕ) (at : ℕ) (bytes : List ℕ) (k : ℕ) → at + length bytes ≤ length old → k < length bytes → get_or (put old at bytes) (at + k) 0 ≡ get_or bytes k 0
get_or-put_inside old at bytes k within inside = grind (arith, common_steps)

get_or-range : (old : List ℕ) (at n k : ℕ) → k < n → get_or (take n (drop at old)) k 0 ≡ get_or old (at + k) 0
get_or-range old at n k below = grind (arith, common_steps)

-- outside a range that was put in all stays
pub put_outside : (old bytes : List ℕ) (at n : ℕ) → length bytes ≡ n → at + n ≤ length old → SameOutside at n old (put old at bytes)
put_outside old bytes at n size within = record {
  size = put_size old at bytes (omega (arith, size, within));
  before = λ k below. get_or-put_before old at bytes k (omega (arith, size, within)) below;
  after = λ k above. get_or-put_after old at bytes k (omega (arith, size, within)) (omega (arith, size, above));
}

-- a range whose bytes a program may leave half done
pub half_put : (old asked left : List ℕ) (at n : ℕ) → n ≡ length asked → at + length asked ≤ length old → EachBetween (take n (drop at old)) asked left → HalfProgrammed at asked old (put old at left)
half_put old asked left at n n_is within each = record {
  outside = put_outside old left at (length asked) each.size within;
  inside = λ k below.
      subst (IsBetween (get_or old (at + k) 0) (get_or asked k 0)) (sym (get_or-put_inside old at left k (omega (arith, each.size, within)) (omega (arith, each.size, below))))
      (subst (λ (b : ℕ). IsBetween b (get_or asked k 0) (get_or left k 0)) (get_or-range old at n k (omega (arith, below, n_is))) (each.each k below));
}

module _ (old asked left : List ℕ) (same : length old ≡ length asked) where
  between_none : left ≡ old → EachBetween old asked left
  between_none is = subst (EachBetween old asked) (sym is) (record { size = same; each = λ k below. subst (λ (j : ℕ). IsBetween (get_or old j 0) (get_or asked k 0) (get_or old j 0)) (zero-add k) ((half_none old 0 asked).inside k below) })

  between_all : left ≡ programmed old 0 asked → EachBetween old asked left
  between_all is = subst (EachBetween old asked) (sym is) (record { size = length-programmed old 0 asked ∙ same; each = λ k below. subst (λ (j : ℕ). IsBetween (get_or old j 0) (get_or asked k 0) (get_or (programmed old 0 asked) j 0)) (zero-add k) ((half_programmed old 0 asked).inside k below) })

  between_some : (seed : ℕ) → SomeCleared seed old asked left → EachBetween old asked left
  between_some seed some = record {
    size = some.size;
    each = λ k below. subst (IsBetween (get_or old k 0) (get_or asked k 0)) (sym (some.each k below)) (between_masked (get_or old k 0) (get_or asked k 0) _);
  }

  -- what a program leaves in its range is what the rules allow
  pub between_way : (way : Way) → RangeProgrammed way old asked left → EachBetween old asked left
  between_way Whole range = between_all range
  between_way Fails range = between_none range
  between_way (Cut zero) range = between_none (range.nothing refl)
  between_way (Cut (suc zero)) range = between_all (range.all refl)
  between_way (Cut (suc (suc pick))) range = between_some _ (range.between (omega arith))
  between_way Unpowered range = between_none range

-- a program leaves what the rules allow
pub half_leaves : (way : Way) (at n : ℕ) (asked old left : List ℕ) → n ≡ length asked → at + length asked ≤ length old → RangeProgrammed way (take n (drop at old)) asked left → HalfProgrammed at asked old (put old at left)
half_leaves way at n asked old left n_is within range = half_put old asked left at n n_is within (between_way (take n (drop at old)) asked left (range_size old at n (omega (arith, n_is, within)) ∙ n_is) way range)
