-- The numbers from a loop's counter on.
use Rattle.std.proofs.Common.{◌≡◌, ℕ, suc, ◌+◌, ◌-◌, ◌<◌, ◌≤◌, List, [], ◌∷◌, ap, refl, sym, ◌∙◌, ◌++◌, append_assoc, arith, subst, map, Option, Some, None, Bool, true, false, length}
use Rattle.std.specs.Prelude.{filter}
use Rattle.std.proofs.Math.Nat.{sub-zero}
use Rattle.std.specs.Option.{option_map, option_to_list}
use Rattle.std.proofs.lemmas.List.{append-nil, map-append}
use Rattle.std.specs.List.{range_with_len, flat_map, filter_map}
use Rattle.plain_image.specs.Counted.{Counts}
use Rattle.plain_image.specs.Tallied.{Tallies}

pub range_step : (p e : ℕ) → p < e → range_with_len p (e - p) ≡ p ∷ range_with_len (p + 1) (e - (p + 1))
range_step p e h = let n : e - p ≡ suc (e - (p + 1)) = omega arith in rw n refl

pub range_end : (p e : ℕ) → e ≤ p → range_with_len p (e - p) ≡ []
range_end p e h = let n : e - p ≡ 0 = omega arith in rw n refl

pub flat_map_step : {Y : Type 0} (f : ℕ → List Y) (bs cs total : List Y) (p e : ℕ) → p < e → bs ++ flat_map f (range_with_len p (e - p)) ≡ total → cs ≡ bs ++ f p →
    cs ++ flat_map f (range_with_len (p + 1) (e - (p + 1))) ≡ total
flat_map_step f bs cs total p e h all more = rw (more, append_assoc) (ap (λ (xs : List ℕ). bs ++ flat_map f xs) (sym (range_step p e h)) ∙ all)

-- one record more, where there is one
pub filter_map_step : {X Y : Type 0} (v : X → Y) (h : ℕ → Option Y) (bs cs : List X) (o : Option X) (total : List Y) (p e : ℕ) → p < e →
    map v bs ++ filter_map h (range_with_len p (e - p)) ≡ total → option_map v o ≡ h p → cs ≡ bs ++ option_to_list o →
    map v cs ++ filter_map h (range_with_len (p + 1) (e - (p + 1))) ≡ total
filter_map_step v h bs cs None total p e less all is more =
    rw (more, append-nil) (subst (λ ys. map v bs ++ ys ≡ total) (ap (filter_map h) (range_step p e less) ∙ rw (sym is) refl) all)
filter_map_step v h bs cs (Some x) total p e less all is more =
    rw (more, map-append, append_assoc) (subst (λ ys. map v bs ++ ys ≡ total) (ap (filter_map h) (range_step p e less) ∙ rw (sym is) refl) all)

pub flat_map_end : {Y : Type 0} (f : ℕ → List Y) (bs total : List Y) (p e : ℕ) → e ≤ p → bs ++ flat_map f (range_with_len p (e - p)) ≡ total → bs ≡ total
flat_map_end f bs total p e h all = subst (λ ys. ys ≡ total) (append-nil bs) (subst (λ xs. bs ++ flat_map f xs ≡ total) (range_end p e h) all)

-- of the first number on, one passes or not
pub count_yes : (test : ℕ → Bool) (count more p end : ℕ) → p < end → Counts test count p end → test p ≡ true → more ≡ count + 1 → Counts test more (p + 1) end
count_yes test count more p end h was passes next = record {
  few = omega (arith, was.few, next);
  most = omega arith;
  all = (let step = rw (range_step p end h, passes) at was.all in omega (arith, step, next));
}

pub count_no : (test : ℕ → Bool) (count more p end : ℕ) → p < end → Counts test count p end → test p ≡ false → more ≡ count → Counts test more (p + 1) end
count_no test count more p end h was fails next = record {
  few = omega (arith, was.few, next);
  most = omega arith;
  all = (let step = rw (range_step p end h, fails) at was.all in omega (arith, step, next));
}

pub count_none : (test : ℕ → Bool) (end : ℕ) → Counts test 0 0 end
count_none test end = record { few = omega arith; most = omega arith; all = rw (sub-zero end) (omega arith) }

pub count_all : (test : ℕ → Bool) (count p end : ℕ) → end ≤ p → Counts test count p end → count ≡ length (filter test (range_with_len 0 end))
count_all test count p end h was = let step = rw (range_end p end h) at was.all in omega (arith, step)

-- one item more, where there is one
pub filter_map_push : {Y : Type 0} (h : ℕ → Option Y) (bs cs : List Y) (o : Option Y) (total : List Y) (p e : ℕ) → p < e →
    bs ++ filter_map h (range_with_len p (e - p)) ≡ total → o ≡ h p → cs ≡ bs ++ option_to_list o →
    cs ++ filter_map h (range_with_len (p + 1) (e - (p + 1))) ≡ total
filter_map_push h bs cs None total p e less all is more =
    rw (more, append-nil) (subst (λ ys. bs ++ ys ≡ total) (ap (filter_map h) (range_step p e less) ∙ rw (sym is) refl) all)
filter_map_push h bs cs (Some x) total p e less all is more =
    rw (more, append_assoc) (subst (λ ys. bs ++ ys ≡ total) (ap (filter_map h) (range_step p e less) ∙ rw (sym is) refl) all)

-- the same from a first number on
pub tally_yes : (test : ℕ → Bool) (first count more p end total : ℕ) → p < end → Tallies test first count p end total → test p ≡ true → more ≡ count + 1 → Tallies test first more (p + 1) end total
tally_yes test first count more p end total h was passes next = record {
  few = omega (arith, was.few, next);
  most = omega arith;
  all = (let step = rw (range_step p end h, passes) at was.all in omega (arith, step, next));
}

pub tally_no : (test : ℕ → Bool) (first count more p end total : ℕ) → p < end → Tallies test first count p end total → test p ≡ false → more ≡ count → Tallies test first more (p + 1) end total
tally_no test first count more p end total h was fails next = record {
  few = omega (arith, was.few, next);
  most = omega arith;
  all = (let step = rw (range_step p end h, fails) at was.all in omega (arith, step, next));
}

pub tally_none : (test : ℕ → Bool) (first end n : ℕ) → end ≡ first + n → Tallies test first 0 first end (length (filter test (range_with_len first n)))
tally_none test first end n h = record { few = omega arith; most = omega (arith, h); all = (let left : end - first ≡ n = omega (arith, h) in rw left (omega arith)) }

pub tally_all : (test : ℕ → Bool) (first count p end total : ℕ) → end ≤ p → Tallies test first count p end total → count ≡ total
tally_all test first count p end total h was = let step = rw (range_end p end h) at was.all in omega (arith, step)
