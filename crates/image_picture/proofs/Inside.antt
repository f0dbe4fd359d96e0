-- What is read lies in the volume, and is what the definitions speak of.
use Rattle.std.proofs.Common.{◌≡◌, ℕ, ◌+◌, ◌-◌, ◌*◌, ◌<◌, ◌≤◌, List, drop, slice_range, get_or, get_or-take, get_or-drop, refl, sym, ap, add-zero, ◌∙◌, arith}
use Rattle.std.proofs.Math.Nat.{mul-le-mul_right}
use Rattle.geometry.specs.declared.geometry.Geometry.{Geometry}
use Rattle.geometry.specs.Numbers.{per_block, lookups, slots}
use Rattle.geometry.proofs.Bounds.{block_pages, some_entries, block_inside}
use Rattle.nor_core.specs.Flash.{word_at}
use Rattle.image_model.specs.Places.{page_of}
use Rattle.page_layout.specs.Layout.{header_at}

-- a slot of a block lies in the volume
pub slot_inside : (g : Geometry) (b s : ℕ) → b < g.blocks → s < slots g → b * g.block + 2 * s + 2 ≤ g.blocks * g.block
slot_inside g b s low small =
    let fewer : lookups g ≤ per_block g = omega (arith, some_entries g) in
    let rows : lookups g * g.page ≤ per_block g * g.page = mul-le-mul_right g.page fewer in
    omega (arith, rows, block_pages g, block_inside g b low)

-- a byte of a range
byte_read : (image : List ℕ) (at size k : ℕ) → k < size → get_or (slice_range image at (at + size)) k 0 ≡ get_or image (at + k) 0
byte_read image at size k low =
    let small : k < at + size - at = omega arith in
    get_or-take (at + size - at) (drop at image) k 0 small ∙ get_or-drop at image k 0

-- two bytes that were read are the word there
pub word_read : (image : List ℕ) (at : ℕ) → word_at (slice_range image at (at + 2)) 0 ≡ word_at image at
word_read image at =
    let a : get_or (slice_range image at (at + 2)) 0 0 ≡ get_or image (at + 0) 0 = byte_read image at 2 0 (omega arith) in
    let b : get_or (slice_range image at (at + 2)) 1 0 ≡ get_or image (at + 1) 0 = byte_read image at 2 1 (omega arith) in
    let z : get_or image (at + 0) 0 ≡ get_or image at 0 = ap (λ (n : ℕ). get_or image n 0) (add-zero at) in
    omega (arith, a, b, z)

-- five bytes that were read have the header of the page that begins there
pub header_read : (image : List ℕ) (at size : ℕ) → 5 ≤ size → header_at (slice_range image at (at + 5)) ≡ header_at (slice_range image at (at + size))
header_read image at size least =
    let same : (k : ℕ) → k < 5 → get_or (slice_range image at (at + 5)) k 0 ≡ get_or (slice_range image at (at + size)) k 0 = λ k low. byte_read image at 5 k low ∙ sym (byte_read image at size k (omega arith)) in
    rw (same 0 (omega arith), same 1 (omega arith), same 2 (omega arith), same 3 (omega arith), same 4 (omega arith)) refl

-- the header of a page, by its first five bytes
pub page_header : (g : Geometry) (image : List ℕ) (p : ℕ) → header_at (slice_range image (p * g.page) (p * g.page + 5)) ≡ header_at (page_of g image p)
unfolding page_of
page_header g image p = header_read image (p * g.page) g.page (omega (arith, g.valid.page_least))
