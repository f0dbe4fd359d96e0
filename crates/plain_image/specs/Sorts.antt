-- Kinds of entries, by their names in the code.
use Rattle.std.specs.Prelude.{ℕ, List, Bool}
use Rattle.geometry.specs.declared.geometry.Geometry.{Geometry}
use Rattle.image_model.specs.Live.{live_at}
use Rattle.image_model.specs.Tidy.{is_free_entry}
use Rattle.image_model.specs.Kinds.{is_index_page, is_data_page}
use Rattle.image_model.specs.Collect.{is_deleted_entry}
use Rattle.plain_image.specs.declared.counts.EntryKind.{EntryKind}
use Rattle.plain_image.specs.declared.counts.EntryKind.TheVariants.{Index, Data, Deleted, Free}

-- the entry is of that kind
abbrev pub is_entry : Geometry → List ℕ → EntryKind → ℕ → Bool
is_entry g image Index p = is_index_page (live_at g image p)
is_entry g image Data p = is_data_page (live_at g image p)
is_entry g image Deleted p = is_deleted_entry g image p
is_entry g image Free p = is_free_entry g image p
