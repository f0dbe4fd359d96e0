-- What is free, block after block.
use Rattle.std.proofs.Common.{◌≡◌, ℕ, suc, ◌+◌, ◌-◌, ◌*◌, ◌<◌, ◌≤◌, ⊎_elim, List, [], ◌∷◌, Bool, true, false, ◌==◌, length, refl, ◌∙◌, arith, if◌then◌else◌}
use Rattle.std.specs.Prelude.{filter, sum_by}
use Rattle.std.specs.List.{range_with_len}
use Rattle.std.proofs.Math.Nat.{sub-zero}
use Rattle.std.proofs.lemmas.List.Sums.{sum_by-cons}
use Rattle.std.proofs.lemmas.Bool.{cases_Bool}
use Rattle.geometry.specs.declared.geometry.Geometry.{Geometry}
use Rattle.geometry.specs.Numbers.{entries}
use Rattle.image_model.specs.Tidy.{IsTidy, is_free_block, free_blocks}
use Rattle.image_model.specs.Collect.{free_in, deleted_in}
use Rattle.flash_view.specs.declared.counts.BlockCounts.{BlockCounts}
use Rattle.flash_view.specs.Counts.{AreCounts}
use Rattle.free_search.proofs.FreePages.{free_counted}
use Rattle.room_laws.proofs.Sorted.{tidy_tells_free}
use Rattle.block_gc.proofs.Rooms.{room_is}
use Rattle.file_calls.specs.declared.space.Space.{Space}
use Rattle.file_calls.specs.Spaces.{in_all, IsSpace, IsWithin, with_block}

range_next : (p e : ℕ) → p < e → range_with_len p (e - p) ≡ p ∷ range_with_len (p + 1) (e - (p + 1))
range_next p e h = let n : e - p ≡ suc (e - (p + 1)) = omega arith in rw n refl

range_last : (p e : ℕ) → e ≤ p → range_with_len p (e - p) ≡ []
range_last p e h = let n : e - p ≡ 0 = omega arith in rw n refl

sum_more : (f : ℕ → ℕ) (p e total own all : ℕ) → p < e → total + sum_by f (range_with_len p (e - p)) ≡ all → own ≡ f p → total + own + sum_by f (range_with_len (p + 1) (e - (p + 1))) ≡ all
sum_more f p e total own all h was is = let step = rw (range_next p e h) at was in let first = sum_by-cons f p (range_with_len (p + 1) (e - (p + 1))) in omega (arith, step, first, is)

sum_end : (f : ℕ → ℕ) (p e total all : ℕ) → e ≤ p → total + sum_by f (range_with_len p (e - p)) ≡ all → total ≡ all
sum_end f p e total all h was = let step = rw (range_last p e h) at was in omega (arith, step)

count_more : (t : ℕ → Bool) (p e total own all : ℕ) → p < e → total + length (filter t (range_with_len p (e - p))) ≡ all → own ≡ (if t p then 1 else 0) → total + own + length (filter t (range_with_len (p + 1) (e - (p + 1)))) ≡ all
count_more t p e total own all h was is =
    ⊎_elim
    (λ (yes : t p ≡ true). let step = rw (range_next p e h, yes) at was in let one : own ≡ 1 = rw yes at is in omega (arith, step, one))
    (λ (no : t p ≡ false). let step = rw (range_next p e h, no) at was in let none : own ≡ 0 = rw no at is in omega (arith, step, none))
    (cases_Bool (t p))

count_end : (t : ℕ → Bool) (p e total all : ℕ) → e ≤ p → total + length (filter t (range_with_len p (e - p))) ≡ all → total ≡ all
count_end t p e total all h was = let step = rw (range_last p e h) at was in omega (arith, step)

-- the numbers of the blocks so far, with those to come, are those of all
pub record Adding (g : Geometry) (image : List ℕ) (p e : ℕ) (space : Space) : Type 0 where
  pub blocks : space.free_blocks + length (filter (λ b. is_free_block g image b) (range_with_len p (e - p))) ≡ free_blocks g image
  pub free : space.free_pages + sum_by (λ b. free_in g image b) (range_with_len p (e - p)) ≡ in_all g (λ b. free_in g image b)
  pub deleted : space.deleted_pages + sum_by (λ b. deleted_in g image b) (range_with_len p (e - p)) ≡ in_all g (λ b. deleted_in g image b)

pub adding_start : (g : Geometry) (image : List ℕ) (e : ℕ) → e ≡ g.blocks → Adding g image 0 e (record { free_blocks = 0; free_pages = 0; deleted_pages = 0 })
unfolding free_blocks
adding_start g image e at = record {
  blocks = rw (at, sub-zero g.blocks) (omega arith);
  free = rw (at, sub-zero g.blocks) (omega arith);
  deleted = rw (at, sub-zero g.blocks) (omega arith);
}

pub adding_more : (g : Geometry) (image : List ℕ) (p e : ℕ) (space : Space) (c : BlockCounts) → p < e → e ≡ g.blocks → IsTidy g image → AreCounts g image p c → Adding g image p e space → Adding g image (p + 1) e (with_block space c (entries g))
adding_more g image p e space c h at tidy counts was =
    let below : p < g.blocks = omega (arith, h, at) in
    record {
      blocks = count_more (λ b. is_free_block g image b) p e _ _ _ h was.blocks (room_is g image p c counts tidy below).blocks;
      free = sum_more (λ b. free_in g image b) p e _ _ _ h was.free (counts.free ∙ free_counted g image p (tidy_tells_free g image tidy) below);
      deleted = sum_more (λ b. deleted_in g image b) p e _ _ _ h was.deleted counts.deleted;
    }

pub adding_end : (g : Geometry) (image : List ℕ) (p e : ℕ) (space : Space) → e ≤ p → Adding g image p e space → IsSpace g image space
adding_end g image p e space h was = record {
  blocks = count_end (λ b. is_free_block g image b) p e _ _ h was.blocks;
  free = sum_end (λ b. free_in g image b) p e _ _ h was.free;
  deleted = sum_end (λ b. deleted_in g image b) p e _ _ h was.deleted;
}

pub within_more : (p entries : ℕ) (space : Space) (c : BlockCounts) → c.free ≤ 65535 → c.deleted ≤ 65535 → IsWithin (65535 * p) space → IsWithin (65535 * (p + 1)) (with_block space c entries)
within_more p entries space c free deleted was = record {
  blocks = ⊎_elim
      (λ (yes : (c.free == entries) ≡ true). rw yes (omega (arith, was.blocks)))
      (λ (no : (c.free == entries) ≡ false). rw no (omega (arith, was.blocks)))
      (cases_Bool (c.free == entries));
  free = omega (arith, was.free, free);
  deleted = omega (arith, was.deleted, deleted);
}

-- with at most 65,534 blocks behind, another fits 32 bits
pub within_below : (p : ℕ) (space : Space) → p < 65535 → IsWithin (65535 * p) space → IsWithin 4294836225 space
within_below p space h was = record { blocks = omega (arith, was.blocks); free = omega (arith, was.free); deleted = omega (arith, was.deleted) }
