-- The pages of a file, and its bytes. Here `pages` are the live pages of one id, and `head` the bytes of its header page.
use Rattle.std.specs.Prelude.{ℕ, ◌+◌, ◌-◌, ◌*◌, ◌/◌, ◌%◌, List, [], Bool, false, not, nat_lt, ◌==◌, ◌&&◌, Option, Some, None, Result, Ok, Err, if◌then◌else◌}
use Rattle.std.specs.Prelude.{find, take, unwrap_or, is_none, option_and_then, slice_index, slice_range}
use Rattle.std.specs.List.{range_with_len, flat_map}
use Rattle.std.specs.Option.{option_map}
use Rattle.geometry.specs.declared.geometry.Geometry.{Geometry}
use Rattle.geometry.specs.Numbers.{head_slots, span_slots, page_count}
use Rattle.table_model.specs.Table.{File}
use Rattle.table_model.specs.Room.{data_pages}
use Rattle.image_model.specs.declared.damage.Damage.{Damage}
use Rattle.image_model.specs.declared.damage.Damage.TheVariants.{BadName, Missing}
use Rattle.image_model.specs.Headers.{span_of, names_index, size_of, name_of}
use Rattle.nor_core.specs.Flash.{word_at}
use Rattle.image_model.specs.Live.{Live}

-- a live index page of that span
abbrev pub is_index : Option (List ℕ) → ℕ → Bool
is_index None span = false
is_index (Some page) span = names_index page && (span_of page == span)

-- the number of the index page of a span: the first of that span in page order; that of span 0 is the header page
unfoldable pub index_page : Geometry → Live → ℕ → Option ℕ
index_page g pages span = find (λ p. is_index (pages p) span) (range_with_len 0 (page_count g))

-- the span of the further index page that has the entry of a data span (SPIFFS object index page)
abbrev pub further : Geometry → ℕ → ℕ
further g span = (span - head_slots g) / span_slots g + 1

-- the span of the index page that has the entry of a data span: 0 is the header page (SPIFFS object index page)
abbrev pub index_span : Geometry → ℕ → ℕ
index_span g span = if nat_lt span (head_slots g) then 0 else further g span

-- the byte of that index page at which the entry of a data span begins
abbrev pub slot_at : Geometry → ℕ → ℕ
slot_at g span = if nat_lt span (head_slots g) then 45 + g.meta + 2 * span else 8 + 2 * ((span - head_slots g) % span_slots g)

-- the index entry of a data span: it stands in the header page, or in a further index page where that one has no place for it
unfoldable pub entry_number : Geometry → Live → List ℕ → ℕ → Option ℕ
entry_number g pages head span =
    if nat_lt span (head_slots g) then Some (word_at head (45 + g.meta + 2 * span))
    else option_map (λ page. word_at page (8 + 2 * ((span - head_slots g) % span_slots g)))
    (option_and_then pages (index_page g pages (further g span)))

-- a page, where it is a live data page of that span
abbrev pub data_of : Option (List ℕ) → ℕ → Option (List ℕ)
data_of None span = None
data_of (Some page) span = if not (names_index page) && (span_of page == span) then Some page else None

-- the data page of a span: the page that its index entry names, where that is a live data page of that span
unfoldable pub data_page : Geometry → Live → List ℕ → ℕ → Option (List ℕ)
data_page g pages head span = option_and_then (λ p. data_of (pages p) span) (entry_number g pages head span)

-- the file bytes of a data page, all behind its header
abbrev pub span_bytes : Geometry → Live → List ℕ → ℕ → List ℕ
span_bytes g pages head span = slice_range (unwrap_or (data_page g pages head span) []) 5 g.page

-- the bytes of a file: those of its data pages in order, cut at the size
abbrev pub bytes_of : Geometry → Live → List ℕ → List ℕ
bytes_of g pages head = take (size_of head) (flat_map (span_bytes g pages head) (range_with_len 0 (data_pages g (size_of head))))

-- the file with this header page
abbrev pub file_of : Geometry → Live → ℕ → List ℕ → List ℕ → File
file_of g pages id head name = record {
  id = id;
  name = name;
  kind = slice_index head 12;
  meta = slice_range head 45 (45 + g.meta);
  bytes = bytes_of g pages head;
}

-- the first data span below the size that has no page
abbrev pub first_missing : Geometry → Live → List ℕ → Option ℕ
first_missing g pages head = find (λ span. is_none (data_page g pages head span)) (range_with_len 0 (data_pages g (size_of head)))

-- the file, or the first cause for which it isn't whole, from its name and its first missing span
abbrev pub judged_by : Geometry → Live → ℕ → List ℕ → Option (List ℕ) → Option ℕ → Result File Damage
judged_by g pages id head None missing = Err BadName
judged_by g pages id head (Some name) (Some span) = Err (Missing span)
judged_by g pages id head (Some name) None = Ok (file_of g pages id head name)

-- An id with this header page is whole where that has a name and every span below the size has its data page.
unfoldable pub judged : Geometry → Live → ℕ → List ℕ → Result File Damage
judged g pages id head = judged_by g pages id head (name_of head) (first_missing g pages head)

-- what an id has where it has a header page: that page's number, and the file or its damage
unfoldable pub found : Geometry → Live → ℕ → Option (ℕ × Result File Damage)
found g pages id =
    option_and_then (λ p. option_map (λ head. (p, judged g pages id head)) (pages p)) (index_page g pages 0)
