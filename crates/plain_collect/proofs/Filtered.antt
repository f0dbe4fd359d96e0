-- Steps of a walk that keeps the numbers that pass.
use Rattle.std.proofs.Common.{◌≡◌, ℕ, ◌+◌, ◌<◌, ◌≤◌, Bool, true, false, List, ◌∷◌, [], ◌++◌, arith, refl, sym, ◌∙◌, append_assoc}
use Rattle.std.specs.Prelude.{filter}
use Rattle.std.specs.List.{range_with_len}
use Rattle.std.proofs.Math.Nat.{sub-zero}
use Rattle.std.proofs.lemmas.List.{append-nil}
use Rattle.std.proofs.lemmas.Grind.{common_steps}
use Rattle.plain_image.proofs.Ranges.{range_step, range_end}
use Rattle.plain_collect.specs.Filtered.{Filters}

pub filter_start : (test : ℕ → Bool) (passed : List ℕ) (end : ℕ) → passed ≡ [] → Filters test passed 0 end
filter_start test passed end none = rw none (record { below = grind (arith, common_steps); all = rw (sub-zero end) refl })

pub filter_yes : (test : ℕ → Bool) (passed more : List ℕ) (p end : ℕ) → p < end → Filters test passed p end → test p ≡ true → more ≡ passed ++ p ∷ [] → Filters test more (p + 1) end
filter_yes test passed more p end h was passes next = rw next (record {
  below = grind (arith, common_steps, was.below);
  all = (let step = rw (range_step p end h, passes) at was.all in rw append_assoc step);
})

pub filter_no : (test : ℕ → Bool) (passed more : List ℕ) (p end : ℕ) → p < end → Filters test passed p end → test p ≡ false → more ≡ passed → Filters test more (p + 1) end
filter_no test passed more p end h was fails next = rw next (record {
  below = was.below;
  all = rw (range_step p end h, fails) at was.all;
})

pub filter_end : (test : ℕ → Bool) (passed : List ℕ) (p end : ℕ) → end ≤ p → Filters test passed p end → passed ≡ filter test (range_with_len 0 end)
filter_end test passed p end h was = sym (append-nil passed) ∙ (rw (range_end p end h) at was.all)
