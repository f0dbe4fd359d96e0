-- An index page is renewed: its copy names other data pages.
use Rattle.std.specs.Prelude.{◌≡◌, ◌≢◌, ℕ, ◌+◌, ◌%◌, ◌<◌, List, [], true, ◌==◌, Option, Some, Ok, is_some, unwrap_or, take, slice_index, slice_range}
use Rattle.std.specs.Prelude.{if◌then◌else◌}
use Rattle.std.specs.List.{range_with_len, flat_map}
use Rattle.geometry.specs.declared.geometry.Geometry.{Geometry}
use Rattle.table_model.specs.Room.{data_pages}
use Rattle.image_model.specs.Headers.{obj_id, span_of, names_index, size_of, name_of}
use Rattle.nor_core.specs.Flash.{word_at}
use Rattle.image_model.specs.Live.{Live}
use Rattle.table_model.specs.Table.{File}
use Rattle.image_model.specs.Files.{is_index, index_page, data_of, data_page, judged, index_span, slot_at}

-- the entry of a data span, in the index page that has it
abbrev pub slot_word : Geometry → List ℕ → ℕ → ℕ
slot_word g page t = word_at page (slot_at g t)

-- the data page of a span, with this index page in the place of the one of its span
unfoldable pub now_data : Geometry → Live → List ℕ → List ℕ → ℕ → Option (List ℕ)
now_data g pages head new t = if index_span g t == span_of new then data_of (pages (slot_word g new t)) t else data_page g pages head t

unfoldable pub now_bytes : Geometry → Live → List ℕ → List ℕ → List ℕ
now_bytes g pages head new =
    take (size_of head) (flat_map (λ t. slice_range (unwrap_or (now_data g pages head new t) []) 5 g.page) (range_with_len 0 (data_pages g (size_of head))))

-- Among these pages of an id index page w is the one of its span. With the new page in its place each span of data has its page.
pub record Reindexes (g : Geometry) (pages : Live) (id w h : ℕ) (old new head head' : List ℕ) (f0 f : File) : Type 0 where
  pub was : pages w ≡ Some old
  pub index : names_index old ≡ true
  pub first : index_page g pages (span_of old) ≡ Some w
  pub alone : (r : ℕ) → is_index (pages r) (span_of old) ≡ true → r ≡ w
  pub new_index : names_index new ≡ true
  pub new_of : obj_id new % 0x8000 ≡ id
  pub new_span : span_of new ≡ span_of old
  pub at : index_page g pages 0 ≡ Some h
  pub header : pages h ≡ Some head
  pub file : judged g pages id head ≡ Ok f0
  -- the header page afterwards
  pub renewed : span_of old ≡ 0 → head' ≡ new
  pub stays : span_of old ≢ 0 → head' ≡ head
  pub size : size_of head' ≡ size_of head
  pub name : name_of head' ≡ name_of head
  pub kind : slice_index head' 12 ≡ slice_index head 12
  pub meta : slice_range head' 45 (45 + g.meta) ≡ slice_range head 45 (45 + g.meta)
  pub whole : (t : ℕ) → t < data_pages g (size_of head) → is_some (now_data g pages head new t) ≡ true
  pub result : f ≡ record { id = f0.id; name = f0.name; kind = f0.kind; meta = f0.meta; bytes = now_bytes g pages head new }
