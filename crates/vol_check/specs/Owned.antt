-- What holds of the free entries of a volume that this engine alone wrote.
use Rattle.std.specs.Prelude.{◌≡◌, ℕ, List, Bool, true}
use Rattle.geometry.specs.declared.geometry.Geometry.{Geometry}
use Rattle.image_model.specs.Places.{has_magic, entry_of, page_of, block_of, is_entry_page}
use Rattle.image_model.specs.Tidy.{is_erased}

-- In a block with its magic each entry of 0xFFFF lies over an erased page.
pub record IsOwn (g : Geometry) (image : List ℕ) : Type 0 where
  pub erased : (p : ℕ) → is_entry_page g p ≡ true → has_magic g image (block_of g p) ≡ true → entry_of g image p ≡ 0xFFFF → is_erased (page_of g image p) ≡ true

-- the image is so where a check is told that it is
abbrev pub OwnIf : Bool → Geometry → List ℕ → Type 0
OwnIf own g image = own ≡ true → IsOwn g image
