-- The two parts of a list: the files of the table, and the damaged ids.
use Rattle.std.specs.Prelude.{ℕ, List, map, nat_lt, find, Option}
use Rattle.std.specs.List.{flat_map}
use Rattle.geometry.specs.declared.geometry.Geometry.{Geometry}
use Rattle.image_model.specs.Tables.{table_of, damaged_of}
use Rattle.image_tool.specs.declared.listing.Part.{Part}
use Rattle.image_tool.specs.declared.listing.Part.TheVariants.{Files, Damaged}
use Rattle.image_tool.specs.Texts.{record_line, damage_line, line_if}

-- the ids of a part of an image's list, each with its line
unfoldable pub lines_of : Part → Geometry → List ℕ → List (ℕ × List ℕ)
lines_of Files g image = map (λ f. (f.id, record_line f)) (table_of g image)
lines_of Damaged g image = map (λ d. (d.0, damage_line d.0 d.1)) (damaged_of g image)

-- what such a part says
abbrev pub text_of : Part → Geometry → List ℕ → List ℕ
text_of part g image = flat_map (λ l. l.1) (lines_of part g image)

-- the least id of a part that is above one, with its line
abbrev pub line_above : Part → Geometry → List ℕ → ℕ → Option (ℕ × List ℕ)
line_above part g image after = find (λ l. nat_lt after l.0) (lines_of part g image)

-- that line, or nothing
abbrev pub next_line : Part → Geometry → List ℕ → ℕ → List ℕ
next_line part g image after = line_if (λ l. l.1) (line_above part g image after)
