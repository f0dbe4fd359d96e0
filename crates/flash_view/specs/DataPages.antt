-- Lookup entries, and the data pages that index entries name.
use Rattle.std.specs.Prelude.{ℕ, List, Option, Some, None, is_some, option_and_then, if◌then◌else◌}
use Rattle.geometry.specs.declared.geometry.Geometry.{Geometry}
use Rattle.image_model.specs.Places.{is_entry_page, entry_of}
use Rattle.image_model.specs.Live.{Live, live_at, own}
use Rattle.image_model.specs.Files.{index_page, entry_number, data_of}

-- the lookup entry of a page, and 0 where the page is a lookup page itself
unfoldable pub lookup_entry : Geometry → List ℕ → ℕ → ℕ
lookup_entry g image p = if is_entry_page g p then entry_of g image p else 0

-- the number of a page, where that is a live data page of that span
abbrev pub numbered : Live → ℕ → ℕ → Option ℕ
numbered pages span p = if is_some (data_of (pages p) span) then Some p else None

-- the number of the data page of a span: that of its index entry, where this names a live data page of that span
unfoldable pub data_number : Geometry → Live → List ℕ → ℕ → Option ℕ
data_number g pages head span = option_and_then (numbered pages span) (entry_number g pages head span)

-- the same for the span of an id, by its header page; none where it has none
unfoldable pub data_number_of : Geometry → List ℕ → ℕ → ℕ → Option ℕ
data_number_of g image id span =
    option_and_then (λ head. data_number g (own (live_at g image) id) head span)
    (option_and_then (own (live_at g image) id) (index_page g (own (live_at g image) id) 0))
