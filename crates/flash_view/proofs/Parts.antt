-- Words and headers within bytes that were read.
use Rattle.std.proofs.Common.{ℕ, ◌≡◌, ◌+◌, ◌-◌, ◌<◌, List, drop, slice_index, slice_range, get_or-take, get_or-drop, arith, refl, ◌∙◌}
use Rattle.image_model.specs.Headers.{is_finished as is_finished_page}
use Rattle.page_layout.specs.Layout.{header_at, is_finished}

-- a byte of a part
pub part_byte : (a b i : ℕ) (xs : List ℕ) → a + i < b → slice_index (slice_range xs a b) i ≡ slice_index xs (a + i)
part_byte a b i xs inside = get_or-take (b - a) (drop a xs) i 0 (omega arith) ∙ get_or-drop a xs i 0

-- the header's own word on whether the page is live
pub finished_is : (page : List ℕ) → is_finished (header_at page) ≡ is_finished_page page
unfolding is_finished_page
finished_is page = refl
