-- A page that was found is a free page.
use Rattle.std.proofs.Common.{◌≡◌, ℕ, ◌+◌, ◌*◌, ◌<◌, List, [], ◌∷◌, zero, suc, length, slice_index, true, ◌==◌, sym, ◌∙◌, arith, ⊎_elim, add-zero}
use Rattle.std.specs.Prelude.{Option}
use Rattle.std.proofs.lemmas.Bool.{cases_eq, and_parts, eqb-true}
use Rattle.geometry.specs.declared.geometry.Geometry.{Geometry}
use Rattle.image_model.specs.Places.{page_of, entry_of, slot_of, IsImage, entry_at}
use Rattle.image_model.specs.Tidy.{is_erased}
use Rattle.image_model.specs.Within.{page_length}
use Rattle.image_laws.specs.NewFile.{IsFreePage}
use Rattle.image_laws.proofs.Placing.{page_byte}
use Rattle.flash_view.specs.declared.kinds.Kind.{Kind}
use Rattle.free_search.specs.Free.{IsFreeFor}

-- an erased byte
ones_at : (bytes : List ℕ) → is_erased bytes ≡ true → (i : ℕ) → i < length bytes → slice_index bytes i ≡ 255
ones_at [] all i small = absurd (omega arith)
ones_at (b ∷ bytes) all zero small = eqb-true b 255 (and_parts (b == 255) (is_erased bytes) all).0
ones_at (b ∷ bytes) all (suc i) small = ones_at bytes (and_parts (b == 255) (is_erased bytes) all).1 i (omega arith)

-- a page that is free for the next one of a kind is a free page
pub free_of : (g : Geometry) (image : List ℕ) (kind : Kind) (keep p : ℕ) (not_in : Option ℕ) → IsImage g image → IsFreeFor g image kind keep not_in p → IsFreePage g image p
unfolding entry_of slot_of
free_of g image kind keep p not_in is free =
    let parts = and_parts (entry_of g image p == 0xFFFF) (is_erased (page_of g image p)) free.free in
    let ones : slice_index image (entry_at g p) + 256 * slice_index image (entry_at g p + 1) ≡ 0xFFFF = eqb-true _ 0xFFFF parts.0 in
    let low : slice_index image (entry_at g p) ≡ 255 = omega (arith, ones, free.word.low, free.word.high) in
    let high : slice_index image (entry_at g p + 1) ≡ 255 = omega (arith, ones, free.word.low, free.word.high) in
    record {
      entry_page = free.page;
      magic = free.magic;
      entry = λ i small. ⊎_elim
          (λ (first : i ≡ 0). rw (first, add-zero (entry_at g p)) low)
          (λ (other : i ≡ 0 → ⊥). let second : i ≡ 1 = omega (arith, other) in rw second high)
          (cases_eq i 0);
      erased = λ i small. sym (page_byte g image p i small) ∙ ones_at (page_of g image p) parts.1 i (rw (page_length g image p is free.page) small);
    }
