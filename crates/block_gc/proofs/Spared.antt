-- What may be cleaned by the counts may be so by the image.
use Rattle.std.proofs.Common.{◌≡◌, ℕ, zero, suc, ◌+◌, ◌<◌, ◌≤◌, ◌⊎◌, ⊎_elim, inl, inr, List, Bool, true, false, not, nat_lt, nat_le, ◌==◌, ◌&&◌, ◌||◌, refl, sym, ◌∙◌, arith}
use Rattle.std.proofs.lemmas.Bool.{cases_Bool, cases_lt, lt-ltb, le-leb, lt-leb}
use Rattle.geometry.specs.declared.geometry.Geometry.{Geometry}
use Rattle.image_model.specs.Tidy.{IsTidy, free_blocks}
use Rattle.image_model.specs.Kinds.{is_data_block}
use Rattle.image_model.specs.Collect.{free_in}
use Rattle.flash_view.specs.declared.counts.BlockCounts.{BlockCounts}
use Rattle.flash_view.specs.Counts.{AreCounts}
use Rattle.free_search.proofs.FreePages.{free_counted}
use Rattle.room_laws.proofs.Sorted.{tidy_tells_free}
use Rattle.block_gc.specs.declared.totals.Room.{Room}
use Rattle.block_gc.specs.Totals.{AreTotals}
use Rattle.room_laws.specs.Recovery.{HasSpareEntries}
use Rattle.block_gc.specs.Spares.{MayMove, IfMay, may_by}
use Rattle.block_gc.proofs.Rooms.{data_is}

-- one of two numbers isn't 0
any-two : (a b : ℕ) → (((nat_lt 0 a || nat_lt 0 b) ≡ true) × (0 < a + b)) ⊎ (((nat_lt 0 a || nat_lt 0 b) ≡ false) × (a + b ≡ 0))
any-two zero zero = inr (refl, refl)
any-two zero (suc b) = inl (rw (lt-ltb 0 (suc b) (omega arith)) refl, omega arith)
any-two (suc a) b = inl (rw (lt-ltb 0 (suc a) (omega arith)) refl, omega arith)

-- or of three
any-three : (a b c : ℕ) → (((nat_lt 0 a || nat_lt 0 b || nat_lt 0 c) ≡ true) × (0 < a + b + c)) ⊎ (((nat_lt 0 a || nat_lt 0 b || nat_lt 0 c) ≡ false) × (a + b + c ≡ 0))
any-three zero zero zero = inr (refl, refl)
any-three zero zero (suc c) = inl (rw (lt-ltb 0 (suc c) (omega arith)) refl, omega arith)
any-three zero (suc b) c = inl (rw (lt-ltb 0 (suc b) (omega arith)) refl, omega arith)
any-three (suc a) b c = inl (rw (lt-ltb 0 (suc a) (omega arith)) refl, omega arith)

module _ (g : Geometry) (image : List ℕ) (block : ℕ) (c : BlockCounts) (all : Room) (counts : AreCounts g image block c) (totals : AreTotals g image all) (tidy : IsTidy g image) (low : block < g.blocks) where
  free_is : c.free ≡ free_in g image block
  free_is = counts.free ∙ free_counted g image block (tidy_tells_free g image tidy) low

  spare : (((nat_lt 0 c.deleted || nat_lt 0 all.pages) && (nat_lt 0 c.deleted || nat_lt 0 c.free || nat_lt 0 all.index)) ≡ true) × HasSpareEntries g image block
      ⊎ (((nat_lt 0 c.deleted || nat_lt 0 all.pages) && (nat_lt 0 c.deleted || nat_lt 0 c.free || nat_lt 0 all.index)) ≡ false) × (HasSpareEntries g image block → ⊥)
  spare = ⊎_elim
      (λ p. ⊎_elim
      (λ i. inl (rw (p.0, i.0) refl, record { pages = omega (arith, p.1, counts.deleted, totals.pages); index = omega (arith, i.1, counts.deleted, free_is, totals.index) }))
      (λ i. inr (rw (p.0, i.0) refl, λ s. omega (arith, i.1, s.index, counts.deleted, free_is, totals.index)))
      (any-three c.deleted c.free all.index))
      (λ p. inr (rw p.0 refl, λ s. omega (arith, p.1, s.pages, counts.deleted, totals.pages)))
      (any-two c.deleted all.pages)

  two : 2 ≤ all.blocks → all.blocks < 3 → IfMay g image block (may_by c all)
  two enough few = ⊎_elim
      (λ (yes : is_data_block g image block ≡ true).
      let no_plain : (c.data_live == 0) ≡ false = (data_is g image block c counts).1 ∙ (rw yes refl) in
      ⊎_elim
      (λ s. rw (lt-leb 3 all.blocks few, le-leb 2 all.blocks enough, no_plain, s.0) (inr (omega (arith, enough, totals.blocks), λ d. s.1)))
      (λ s. rw (lt-leb 3 all.blocks few, le-leb 2 all.blocks enough, no_plain, s.0) (none yes s.1))
      spare)
      (λ (no : is_data_block g image block ≡ false).
      let plain : (c.data_live == 0) ≡ true = (data_is g image block c counts).1 ∙ (rw no refl) in
      rw (lt-leb 3 all.blocks few, le-leb 2 all.blocks enough, plain) (inr (omega (arith, enough, totals.blocks), λ d. absurd (let bad : false ≡ true = sym no ∙ d in cc))))
      (cases_Bool (is_data_block g image block))
    where
      none : is_data_block g image block ≡ true → (HasSpareEntries g image block → ⊥) → MayMove g image block → ⊥
      none held without (inl three) = omega (arith, three, few, totals.blocks)
      none held without (inr pair) = without (pair.1 held)

  pub may_told : IfMay g image block (may_by c all)
  may_told = ⊎_elim
      (λ (few : all.blocks < 3). ⊎_elim
      (λ (less : all.blocks < 2). rw (lt-leb 3 all.blocks few, lt-leb 2 all.blocks less) (neither less))
      (λ (enough : 2 ≤ all.blocks). two enough few)
      (cases_lt all.blocks 2))
      (λ (three : 3 ≤ all.blocks). rw (le-leb 3 all.blocks three) (inl (omega (arith, three, totals.blocks))))
      (cases_lt all.blocks 3)
    where
      neither : all.blocks < 2 → MayMove g image block → ⊥
      neither less (inl three) = omega (arith, three, less, totals.blocks)
      neither less (inr pair) = omega (arith, pair.0, less, totals.blocks)
