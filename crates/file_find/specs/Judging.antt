-- What the judging of one file sees: the first span that has no data page, and why a file isn't whole.
use Rattle.std.specs.Prelude.{ℕ, ◌+◌, ◌-◌, ◌*◌, List, Option, Some, None, Result, Ok, Err, find, is_none}
use Rattle.std.specs.List.{range_with_len}
use Rattle.geometry.specs.declared.geometry.Geometry.{Geometry}
use Rattle.table_model.specs.Table.{File}
use Rattle.image_model.specs.declared.damage.Damage.{Damage}
use Rattle.nor_core.specs.Flash.{word_at}
use Rattle.image_model.specs.Live.{Live}
use Rattle.image_model.specs.Files.{data_of, data_page}

-- the data page of a span by the entries that stand in an index page from byte `at` on, the first of them that of span `first`
abbrev pub entry_data : Live → List ℕ → ℕ → ℕ → ℕ → Option (List ℕ)
entry_data pages index at first span = data_of (pages (word_at index (at + 2 * (span - first)))) span

-- the first of the spans from `first` on and below `end` that has no data page by those entries
unfoldable pub missing_entry : Live → List ℕ → ℕ → ℕ → ℕ → Option ℕ
missing_entry pages index at first end = find (λ span. is_none (entry_data pages index at first span)) (range_with_len first (end - first))

-- the first of the spans from `first` on and below `end` that has no data page
unfoldable pub missing_between : Geometry → Live → List ℕ → ℕ → ℕ → Option ℕ
missing_between g pages head first end = find (λ span. is_none (data_page g pages head span)) (range_with_len first (end - first))

-- why a file isn't whole, where it isn't
abbrev pub cause_of : Result File Damage → Option Damage
cause_of (Ok f) = None
cause_of (Err e) = Some e
