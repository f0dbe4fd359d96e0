-- Which names are fine, and which are unused.
use Rattle.std.specs.Prelude.{◌≡◌, ◌≢◌, ℕ, ◌≤◌, List, [], length, false, ◌==◌, Some, None}
use Rattle.std.specs.List.{list_any, All}
use Rattle.geometry.specs.declared.geometry.Geometry.{Geometry}
use Rattle.table_model.specs.Table.{File, has_name, file_of}
use Rattle.table_model.specs.Names.{name_refusal}
use Rattle.image_model.specs.Tables.{table_of, damaged_of}

-- a name of 1 to 31 bytes, none of them zero
pub record IsName (name : List ℕ) : Type 0 where
  pub least : 1 ≤ length name
  pub most : length name ≤ 31
  pub no_zero : list_any (λ b. b == 0) name ≡ false

-- A name is such a one exactly where it isn't refused.
abbrev pub FineNames : Type 0
FineNames = (name : List ℕ) → (name_refusal name ≡ None → IsName name) × (IsName name → name_refusal name ≡ None)

-- A name that the table lacks is that of no other file,
abbrev pub NewNameUnused : Type 0
NewNameUnused = (id : ℕ) (name : List ℕ) (files : List File) → has_name name files ≡ false → All (λ x. x.id ≢ id → x.name ≢ name) files

-- and where nothing is damaged, so is that of a file of the table.
abbrev pub OwnNameUnused : Geometry → Type 0
OwnNameUnused g = (a : List ℕ) → damaged_of g a ≡ [] → (id : ℕ) (f : File) → file_of id (table_of g a) ≡ Some f →
    All (λ x. x.id ≢ id → x.name ≢ f.name) (table_of g a)
