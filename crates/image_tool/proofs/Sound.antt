-- Where no id is damaged, their part of a list is empty.
use Rattle.std.proofs.Common.{◌≡◌, ℕ, List, [], ◌∙◌, ap}
use Rattle.geometry.specs.declared.geometry.Geometry.{Geometry}
use Rattle.image_model.specs.declared.damage.Damage.{Damage}
use Rattle.image_model.specs.Tables.{damaged_of}
use Rattle.image_tool.specs.Parts.{text_of}
use Rattle.image_tool.specs.Texts.{damage_lines}
use Rattle.image_tool.specs.declared.listing.Part.TheVariants.{Damaged}
use Rattle.image_tool.proofs.Found.{damages_text}

pub no_damages_text : (g : Geometry) (image : List ℕ) → damaged_of g image ≡ [] → text_of Damaged g image ≡ []
unfolding damage_lines
no_damages_text g image none = damages_text g image ∙ ap (λ (ds : List (ℕ × Damage)). damage_lines ds) none
