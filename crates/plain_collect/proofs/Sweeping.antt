-- When the deleted entries after a cleaning are few enough.
use Rattle.std.proofs.Common.{◌≡◌, ◌↔◌, ℕ, ◌+◌, ◌≤◌, List, Some, true, IsTrue, nat_le, arith, sym, ◌∙◌, subst}
use Rattle.geometry.specs.declared.geometry.Geometry.{Geometry}
use Rattle.image_model.specs.Tables.{table_of}
use Rattle.image_model.specs.Tidy.{IsTidy, is_free_block}
use Rattle.image_model.specs.Collect.{chosen_block, data_in, deleted_outside, Swept}

some_same : (x y : ℕ) → Some x ≡ Some y → x ≡ y
some_same x y e = cc

-- Where all else of a cleaning holds, what it leaves is told by the deleted entries of the other blocks.
pub swept_where : (g : Geometry) (a b : List ℕ) (block after before moved : ℕ) → chosen_block g a ≡ Some block → IsTidy g a → IsTidy g b → table_of g b ≡ table_of g a → is_free_block g b block ≡ true →
    after ≡ deleted_outside g b block → before ≡ deleted_outside g a block → moved ≡ data_in g a block → IsTrue (nat_le after (before + moved)) ↔ Swept g a b
swept_where g a b block after before moved chosen tidy tidy_after same free is_after is_before is_data = (
  λ (few : IsTrue (nat_le after (before + moved))). record {
    block = block;
    chosen = chosen;
    tidy_before = tidy;
    tidy_after = tidy_after;
    table = same;
    free = free;
    deleted = (let low : after ≤ before + moved = grind (arith, few) in rw (← is_after, ← is_before, ← is_data) low);
  },
  λ (s : Swept g a b).
      let here : s.block ≡ block = some_same _ _ (sym s.chosen ∙ chosen) in
      let low = subst (λ (n : ℕ). deleted_outside g b n ≤ deleted_outside g a n + data_in g a n) here s.deleted in
      let within : after ≤ before + moved = rw (is_after, is_before, is_data) low in
      grind (arith, within),
)
