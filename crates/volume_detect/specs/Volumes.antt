-- Numbers that no volume has.
use Rattle.std.specs.Prelude.{ℕ, ◌≡◌}
use Rattle.geometry.specs.declared.geometry.Geometry.{Geometry}

-- no volume has these numbers
abbrev pub NoVolume : (page block blocks : ℕ) → Type 0
NoVolume page block blocks = (h : Geometry) → h.page ≡ page → h.block ≡ block → h.blocks ≡ blocks → h.phys ≡ block → ⊥
