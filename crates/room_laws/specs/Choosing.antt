-- Which block is chosen.
use Rattle.std.specs.Prelude.{◌≡◌, ℕ, ◌<◌, List, true, false, Some, None}
use Rattle.geometry.specs.declared.geometry.Geometry.{Geometry}
use Rattle.image_model.specs.Tidy.{free_blocks}
use Rattle.image_model.specs.Kinds.{is_data_block}
use Rattle.image_model.specs.Collect.{is_worth, is_fitting, chosen_block}

-- The block is worth cleaning and fits.
pub record IsCandidate (g : Geometry) (image : List ℕ) (block : ℕ) : Type 0 where
  pub within : block < g.blocks
  pub worth : is_worth g image block ≡ true
  pub fits : is_fitting g image block ≡ true

-- Where no block is chosen, none is worth cleaning and fits.
abbrev pub NoneIsCandidate : Geometry → Type 0
NoneIsCandidate g = (image : List ℕ) (block : ℕ) → chosen_block g image ≡ None → IsCandidate g image block → ⊥

-- The chosen block is worth cleaning and fits.
abbrev pub ChosenIsCandidate : Geometry → Type 0
ChosenIsCandidate g = (image : List ℕ) (block : ℕ) → chosen_block g image ≡ Some block → IsCandidate g image block

-- With fewer than two free blocks the chosen block has no live data page, if another one that is worth cleaning and fits has none.
abbrev pub ChosenIsPlain : Geometry → Type 0
ChosenIsPlain g = (image : List ℕ) (block other : ℕ) → chosen_block g image ≡ Some block → free_blocks g image < 2 →
    IsCandidate g image other → is_data_block g image other ≡ false → is_data_block g image block ≡ false
