-- Ids and names that header pages tell are those of the table's files.
use Rattle.std.specs.Prelude.{◌≡◌, ℕ, ◌≤◌, List, [], true, Option, is_some}
use Rattle.std.specs.Option.{option_map}
use Rattle.geometry.specs.declared.geometry.Geometry.{Geometry}
use Rattle.table_model.specs.Table.{has_id, has_name, file_named, file_above}
use Rattle.image_model.specs.Places.{IsImage}
use Rattle.image_model.specs.Tables.{table_of, damaged_of}
use Rattle.image_model.specs.Tidy.{IsTidy}
use Rattle.flash_view.specs.Found.{has_header, first_named, NextId}

-- Where nothing is damaged, an id has a header page exactly where the table has its file.
abbrev pub HasIds : Geometry → Type 0
HasIds g = (a : List ℕ) → damaged_of g a ≡ [] → (id : ℕ) → has_header g a id ≡ has_id id (table_of g a)

-- An id with a header page is from 1 to 0x7FFF.
abbrev pub HeadersWithin : Geometry → Type 0
HeadersWithin g = (a : List ℕ) (id : ℕ) → has_header g a id ≡ true → (1 ≤ id) × (id ≤ 0x7FFF)

-- In a tidy image the first header page with a name is that of the file of that name.
abbrev pub Named : Geometry → Type 0
Named g = (a : List ℕ) → IsImage g a → IsTidy g a → (name : List ℕ) → first_named g a name ≡ option_map (λ f. f.id) (file_named name (table_of g a))

-- So there is such a header page exactly where the table has the name.
abbrev pub HasNames : Geometry → Type 0
HasNames g = (a : List ℕ) → IsImage g a → IsTidy g a → (name : List ℕ) → is_some (first_named g a name) ≡ has_name name (table_of g a)

-- Where nothing is damaged, the next id with a header page is that of the next file.
abbrev pub NextIs : Geometry → Type 0
NextIs g = (a : List ℕ) → damaged_of g a ≡ [] → (after : ℕ) (found : Option ℕ) → NextId g a after found →
    found ≡ option_map (λ f. f.id) (file_above after (table_of g a))
