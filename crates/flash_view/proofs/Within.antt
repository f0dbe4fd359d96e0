-- Bytes of a page are bytes of the image.
use Rattle.std.proofs.Common.{ℕ, ◌≡◌, ◌+◌, ◌*◌, ◌<◌, ◌≤◌, List, slice_index, slice_range, add_assoc, ap, arith, refl, ◌∙◌}
use Rattle.geometry.specs.declared.geometry.Geometry.{Geometry}
use Rattle.nor_core.specs.Flash.{word_at}
use Rattle.image_model.specs.Places.{page_of}
use Rattle.flash_view.specs.Places.{IsWordAt}
use Rattle.flash_view.proofs.Parts.{part_byte}

-- a word of a page is a word of the image
pub word_of_page : (g : Geometry) (bytes : List ℕ) (page start : ℕ) → start + 2 ≤ g.page → word_at bytes (page * g.page + start) ≡ word_at (page_of g bytes page) start
unfolding page_of
word_of_page g bytes page start fits =
    let low : slice_index (slice_range bytes (page * g.page) (page * g.page + g.page)) start ≡ slice_index bytes (page * g.page + start) = part_byte (page * g.page) (page * g.page + g.page) start bytes (omega arith) in
    let high : slice_index (slice_range bytes (page * g.page) (page * g.page + g.page)) (start + 1) ≡ slice_index bytes (page * g.page + (start + 1)) = part_byte (page * g.page) (page * g.page + g.page) (start + 1) bytes (omega arith) in
    rw (low, high, ← add_assoc (page * g.page) start 1) refl

-- its bytes are below 256 where those of the page are
pub word_held : (g : Geometry) (image bytes : List ℕ) (page start : ℕ) → bytes ≡ page_of g image page → ((k : ℕ) → slice_index bytes k < 256) → start + 2 ≤ g.page → IsWordAt image (page * g.page + start)
unfolding page_of
word_held g image bytes page start is small fits =
    let byte : (i : ℕ) → i < g.page → slice_index bytes i ≡ slice_index image (page * g.page + i) = λ i low. ap (λ (l : List ℕ). slice_index l i) is ∙ part_byte (page * g.page) (page * g.page + g.page) i image (omega arith) in
    let next : page * g.page + (start + 1) ≡ page * g.page + start + 1 = omega arith in
    record {
      low = rw (byte start (omega arith)) at (small start);
      high = rw (byte (start + 1) (omega arith), next) at (small (start + 1));
    }
