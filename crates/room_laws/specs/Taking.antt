-- What the tests of an image's blocks tell by what its entries count as.
use Rattle.std.specs.Prelude.{◌≡◌, ◌≢◌, ℕ, ◌<◌, ◌↔◌, List, Bool, true, false, All}
use Rattle.geometry.specs.declared.geometry.Geometry.{Geometry}
use Rattle.geometry.specs.Numbers.{entries}
use Rattle.image_model.specs.Places.{block_of, is_entry_page}
use Rattle.image_model.specs.Tidy.{is_free_entry, is_free_block, free_blocks, TellsFree}
use Rattle.image_model.specs.Collect.{free_in, takes_index, takes_data}
use Rattle.room_laws.specs.Counts.{IsBlock, Kind, unused, for_index, for_data, kind_of}
use Rattle.room_laws.specs.Places.{HadWith}
use Rattle.room_laws.specs.Sorts.{sort_at, counts_by, others_by, IsPlaceBy}

-- a block's free entries are for a kind
abbrev pub takes_as : Geometry → List ℕ → Kind → ℕ → Bool
takes_as g image unused block = is_free_block g image block
takes_as g image for_index block = takes_index g image block
takes_as g image for_data block = takes_data g image block

-- so many pages of a kind among those of both
abbrev pub of_kind : Kind → (index pages : ℕ) → ℕ
of_kind unused index pages = 0
of_kind for_index index pages = index
of_kind for_data index pages = pages

-- no block outside one has a free entry for a kind
abbrev pub IsFullBeside : Geometry → List ℕ → ℕ → Kind → Type 0
IsFullBeside g image block k = (other : ℕ) → other < g.blocks → other ≢ block → takes_as g image k other ≡ true → free_in g image other ≡ 0

-- By the counts of its entries a block is of the kind that the tests find, where it isn't mixed.
abbrev pub KindsAreTested : Geometry → Type 0
KindsAreTested g = (image : List ℕ) (block : ℕ) (k : Kind) → TellsFree g image → block < g.blocks → IsBlock (entries g) (counts_by g (sort_at g image) block) →
    (takes_as g image k block ≡ true) ↔ (kind_of (counts_by g (sort_at g image) block) ≡ k)

-- A free page outside a block, of a block that takes pages of the kind, or that is free where all that take them are full, is a
-- place by the rule.
abbrev pub PlacesAreBy : Geometry → Type 0
PlacesAreBy g = (image : List ℕ) (block : ℕ) (k : Kind) (to : ℕ) → TellsFree g image → block < g.blocks →
    All (IsBlock (entries g)) (others_by g (sort_at g image) block) →
    is_entry_page g to ≡ true → block_of g to ≢ block → is_free_entry g image to ≡ true →
    (is_free_block g image (block_of g to) ≡ false → takes_as g image k (block_of g to) ≡ true) →
    (is_free_block g image (block_of g to) ≡ true → IsFullBeside g image block k) → IsPlaceBy g (sort_at g image) block k to

-- a free block outside one
pub record HasFreeBeside (g : Geometry) (image : List ℕ) (block : ℕ) : Type 0 where
  pub other : ℕ
  pub within : other < g.blocks
  pub apart : other ≢ block
  pub free : is_free_block g image other ≡ true
  pub some : 0 < free_blocks g image

-- Where pages of a kind find places outside a block, and no block there has a free entry for them, one is free there.
abbrev pub PlacesAreFound : Geometry → Type 0
PlacesAreFound g = (image : List ℕ) (block : ℕ) (k : Kind) (index pages : ℕ) → TellsFree g image → block < g.blocks →
    All (IsBlock (entries g)) (others_by g (sort_at g image) block) →
    HadWith (entries g) (others_by g (sort_at g image) block) 0 index pages → 0 < of_kind k index pages → IsFullBeside g image block k →
    HasFreeBeside g image block
