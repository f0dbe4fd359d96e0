-- What a cut leaves of an image that mounting and the check take.
use Rattle.std.specs.Prelude.{◌≡◌, ℕ, ◌≤◌, List, true}
use Rattle.geometry.specs.declared.geometry.Geometry.{Geometry}
use Rattle.image_model.specs.Kinds.{spoiled_blocks, mixed_blocks}
use Rattle.image_model.specs.Shared.{fits_over, FitsWith}
use Rattle.call_model.specs.Safe.{IsSafe}

-- Mounting takes an image of which at most one block lacks its magic. What a cut leaves of such an image is one.
abbrev pub CutsKeepMagics : Geometry → Type 0
CutsKeepMagics g = (was image : List ℕ) → spoiled_blocks g was ≤ 1 → IsSafe g was image → spoiled_blocks g image ≤ 1

-- The check takes a mounted image that has no mixed block, since none is shared then. What a cut leaves of such an image has none.
abbrev pub CutsMixNone : Geometry → Type 0
CutsMixNone g = (was image : List ℕ) → spoiled_blocks g was ≤ 1 → mixed_blocks g was ≡ 0 → IsSafe g was image → mixed_blocks g image ≡ 0

-- It takes one whose shared blocks fit over. What a cut leaves of an image with an entry to spare fits over.
abbrev pub CutsFit : Geometry → Type 0
CutsFit g = (was image : List ℕ) → FitsWith g was 1 → IsSafe g was image → fits_over g image ≡ true
