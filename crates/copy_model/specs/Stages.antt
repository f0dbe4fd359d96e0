-- What copying makes of each name of a table, record by record.
use Rattle.std.specs.Prelude.{◌≡◌, ◌≢◌, ℕ, List, [], ◌∷◌, ◌++◌, Bool, true, None}
use Rattle.geometry.specs.declared.geometry.Geometry.{Geometry}
use Rattle.table_model.specs.Table.{File, file_named, put_file}
use Rattle.image_model.specs.Tables.{table_of}
use Rattle.copy_model.specs.Copying.{working, keeps, begun, marked, cleared, placed, without_name}
use Rattle.copy_model.specs.Under.{IsTable, IsUnder, IsCopied, IsAllThere}

-- The table of each image is one in which files are found by id and name.
abbrev pub ImageTables : Geometry → Type 0
ImageTables g = (image : List ℕ) → IsTable (table_of g image)

-- Before the first record: the table without a working file is one, nothing is done, and what a cut leaves may be left.
pub record HasStart (first : List File) : Type 0 where
  pub table : IsTable (without_name working first)
  pub copied : (alike : Bool) → IsCopied alike [] first (without_name working first)
  pub under : (alike : Bool) (source : List File) → IsUnder alike source first (without_name working first)

abbrev pub StartsCopy : Type 0
StartsCopy = (first : List File) → IsTable first → HasStart first

-- The records up to `f` are done, whose name no record before has, and which isn't the working name.
pub record IsNext (alike : Bool) (front first files : List File) (f : File) : Type 0 where
  pub table : IsTable files
  pub done : IsCopied alike front first files
  pub unlike_front : file_named f.name front ≡ None
  pub fine : f.name ≢ working

-- The tables that copying that record makes, what they may leave of each name, and what the last one has.
pub record HasStages (g : Geometry) (alike : Bool) (front rest first files : List File) (f : File) : Type 0 where
  pub still_under : IsUnder alike (front ++ f ∷ rest) first files
  pub begun_under : (at : ℕ) → IsUnder alike (front ++ f ∷ rest) first (begun g f files at)
  pub marked_under : IsUnder alike (front ++ f ∷ rest) first (put_file (marked g alike f files) files)
  pub cleared_under : IsUnder alike (front ++ f ∷ rest) first (cleared g alike f files)
  pub cleared_none : file_named f.name (cleared g alike f files) ≡ None
  pub placed_under : IsUnder alike (front ++ f ∷ rest) first (placed g alike f files)
  pub placed_copied : IsCopied alike (front ++ f ∷ []) first (placed g alike f files)
  pub placed_table : IsTable (placed g alike f files)

abbrev pub CopiesNext : Geometry → Type 0
CopiesNext g = (alike : Bool) (front rest first files : List File) (f : File) → IsNext alike front first files f → HasStages g alike front rest first files f

-- A record that is kept is done as it stands.
abbrev pub KeepsNext : Type 0
KeepsNext = (alike : Bool) (front first files : List File) (f : File) → IsNext alike front first files f → keeps alike f files ≡ true →
    IsCopied alike (front ++ f ∷ []) first files

-- What is done may be left of a copy under way.
abbrev pub DoneIsUnder : Type 0
DoneIsUnder = (alike : Bool) (front rest first files : List File) → IsCopied alike front first files → IsUnder alike (front ++ rest) first files

-- Once all is done, all is there, where no record has the working name.
abbrev pub DoneIsThere : Type 0
DoneIsThere = (alike : Bool) (source first files : List File) → file_named working source ≡ None → IsCopied alike source first files →
    IsAllThere alike source files
