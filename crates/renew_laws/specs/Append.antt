-- Data bytes are appended to a file.
use Rattle.std.specs.Prelude.{◌≡◌, ℕ, ◌+◌, ◌-◌, ◌*◌, ◌/◌, ◌%◌, ◌<◌, ◌≤◌, ◌⊎◌, List, ◌++◌, length, take, drop, Bool, true, false, Some, Ok, is_some, is_none, slice_index}
use Rattle.std.specs.Prelude.{slice_range}
use Rattle.std.specs.List.{range_with_len, flat_map}
use Rattle.geometry.specs.declared.geometry.Geometry.{Geometry}
use Rattle.nor_core.specs.Flash.{HalfProgrammed, word_at}
use Rattle.geometry.specs.Numbers.{body, head_slots}
use Rattle.table_model.specs.Table.{File, put_file}
use Rattle.table_model.specs.Files.{written}
use Rattle.table_model.specs.Room.{data_pages, index_pages}
use Rattle.image_model.specs.Live.{Live, live_at, own}
use Rattle.image_model.specs.Headers.{obj_id, names_index, span_of, size_of, name_of}
use Rattle.image_model.specs.Files.{further, index_page, entry_number, data_page, span_bytes, judged}
use Rattle.image_model.specs.Places.{IsImage}
use Rattle.image_model.specs.Tables.{table_of}
use Rattle.image_model.specs.Tidy.{IsTidy, serves, free_blocks}
use Rattle.image_model.specs.Sound.{HasMagics, Keeps}
use Rattle.image_laws.specs.Reindex.{slot_word}
use Rattle.image_laws.specs.TidySteps.{IsTidyBut}
use Rattle.renew_laws.specs.Renew.{RenewsTo}
use Rattle.renew_laws.specs.Replace.{Replaced}

-- Programming bytes of a live data page past the end of its file, done or cut off, leaves the image tidy but for what was
-- spare, with its table.
abbrev pub AppendingTidies : Geometry → Type 0
AppendingTidies g = (a b : List ℕ) (p h at : ℕ) (asked page head : List ℕ) (spare : ℕ → Bool) → IsImage g a → IsTidyBut g a spare → live_at g a p ≡ Some page →
    names_index page ≡ false →
    index_page g (own (live_at g a) (obj_id page % 0x8000)) 0 ≡ Some h → own (live_at g a) (obj_id page % 0x8000) h ≡ Some head →
    p * g.page + 5 + (size_of head - span_of page * body g) ≤ at → at + length asked ≤ p * g.page + g.page → HalfProgrammed at asked a b →
    IsTidyBut g b spare × (table_of g b ≡ table_of g a)

-- It keeps an image that isn't tidy too, with its free blocks.
abbrev pub AppendingIsSound : Geometry → Type 0
AppendingIsSound g = (a b : List ℕ) (p h at : ℕ) (asked page head : List ℕ) → IsImage g a → HasMagics g a → live_at g a p ≡ Some page →
    names_index page ≡ false →
    index_page g (own (live_at g a) (obj_id page % 0x8000)) 0 ≡ Some h → own (live_at g a) (obj_id page % 0x8000) h ≡ Some head →
    p * g.page + 5 + (size_of head - span_of page * body g) ≤ at → at + length asked ≤ p * g.page + g.page → HalfProgrammed at asked a b →
    Keeps g a b × (free_blocks g a ≤ free_blocks g b)

-- The entry of a data span is q: in the header page, or in a further index page that is there.
abbrev pub IsEntryOf : Geometry → Live → List ℕ → ℕ → ℕ → Type 0
IsEntryOf g pages head t q = ((t < head_slots g) × (slot_word g head t ≡ q))
    ⊎ ((head_slots g ≤ t) × (w : ℕ) × (x : List ℕ) × (index_page g pages (further g t) ≡ Some w) × (pages w ≡ Some x) × (slot_word g x t ≡ q))

-- A header page with the same entry for a span leads to the same data page,
abbrev pub SpanIsKept : Geometry → Type 0
SpanIsKept g = (pages : Live) (head head' : List ℕ) (t : ℕ) → (t < head_slots g → word_at head' (45 + g.meta + 2 * t) ≡ word_at head (45 + g.meta + 2 * t)) →
    data_page g pages head' t ≡ data_page g pages head t

-- and one whose entry is the number of a live data page of the span leads to that one.
abbrev pub SpanIsNamed : Geometry → Type 0
SpanIsNamed g = (pages : Live) (head : List ℕ) (t q : ℕ) (y : List ℕ) → IsEntryOf g pages head t q → pages q ≡ Some y → names_index y ≡ false → span_of y ≡ t →
    (entry_number g pages head t ≡ Some q) × (data_page g pages head t ≡ Some y)

-- the bytes of so many data pages from a span on
abbrev pub bytes_from : Geometry → Live → List ℕ → (span count : ℕ) → List ℕ
bytes_from g pages head span count = flat_map (span_bytes g pages head) (range_with_len span count)

-- A header page says that a file has these bytes more: they stand behind the old size, and the data pages of the new spans are there.
pub record Appends (g : Geometry) (pages : Live) (head head' bytes : List ℕ) : Type 0 where
  pub some : 0 < length bytes
  pub size : size_of head' ≡ size_of head + length bytes
  pub words : (t : ℕ) → t < data_pages g (size_of head) → t < head_slots g → word_at head' (45 + g.meta + 2 * t) ≡ word_at head (45 + g.meta + 2 * t)
  pub there : (t : ℕ) → size_of head / body g ≤ t → t < data_pages g (size_of head') → is_none (data_page g pages head' t) ≡ false
  pub holds : take (length bytes) (drop (size_of head % body g)
      (bytes_from g pages head' (size_of head / body g) (data_pages g (size_of head') - size_of head / body g))) ≡ bytes

-- It says so where they stand in one data page, z,
pub record AppendsIn (g : Geometry) (pages : Live) (head head' bytes z : List ℕ) : Type 0 where
  pub some : 0 < length bytes
  pub fits : size_of head % body g + length bytes ≤ body g
  pub size : size_of head' ≡ size_of head + length bytes
  pub words : (t : ℕ) → t < data_pages g (size_of head) → t < head_slots g → word_at head' (45 + g.meta + 2 * t) ≡ word_at head (45 + g.meta + 2 * t)
  pub page : data_page g pages head' (size_of head / body g) ≡ Some z
  pub holds : slice_range z (5 + size_of head % body g) (5 + size_of head % body g + length bytes) ≡ bytes

abbrev pub OnePageAppends : Geometry → Type 0
OnePageAppends g = (pages : Live) (head head' bytes z : List ℕ) → ((q : ℕ) (x : List ℕ) → pages q ≡ Some x → length x ≡ g.page) →
    AppendsIn g pages head head' bytes z → Appends g pages head head' bytes

-- the bytes of data page i of some bytes
abbrev pub page_part : Geometry → List ℕ → ℕ → List ℕ
page_part g bytes i = take (body g) (drop (i * body g) bytes)

-- and where they begin at the end of a data page, and stand in data pages of their own.
pub record AppendsOver (g : Geometry) (pages : Live) (head head' bytes : List ℕ) : Type 0 where
  pub some : 0 < length bytes
  pub whole : size_of head % body g ≡ 0
  pub size : size_of head' ≡ size_of head + length bytes
  pub words : (t : ℕ) → t < data_pages g (size_of head) → t < head_slots g → word_at head' (45 + g.meta + 2 * t) ≡ word_at head (45 + g.meta + 2 * t)
  pub pages_are : (i : ℕ) → i * body g < length bytes →
      (z : List ℕ) × (data_page g pages head' (size_of head / body g + i) ≡ Some z)
      × (slice_range z 5 (5 + length (page_part g bytes i)) ≡ page_part g bytes i)

abbrev pub ManyPagesAppend : Geometry → Type 0
ManyPagesAppend g = (pages : Live) (head head' bytes : List ℕ) → ((q : ℕ) (x : List ℕ) → pages q ≡ Some x → length x ≡ g.page) →
    AppendsOver g pages head head' bytes → Appends g pages head head' bytes

-- It leads to the file with these bytes at its end.
abbrev pub AppendedLeads : Geometry → Type 0
AppendedLeads g = (pages : Live) (id : ℕ) (head head' name bytes : List ℕ) (f0 : File) → ((q : ℕ) (x : List ℕ) → pages q ≡ Some x → length x ≡ g.page) →
    judged g pages id head ≡ Ok f0 →
    Appends g pages head head' bytes → name_of head' ≡ Some name →
    judged g pages id head'
    ≡ Ok (record { id = id; name = name; kind = slice_index head' 12; meta = slice_range head' 45 (45 + g.meta); bytes = f0.bytes ++ bytes })

-- Where it keeps name, type and meta, that is the file with the bytes written at its end.
abbrev pub AppendedIsWritten : Geometry → Type 0
AppendedIsWritten g = (pages : Live) (id : ℕ) (head head' bytes : List ℕ) (f0 : File) → ((q : ℕ) (x : List ℕ) → pages q ≡ Some x → length x ≡ g.page) →
    judged g pages id head ≡ Ok f0 →
    Appends g pages head head' bytes → name_of head' ≡ name_of head → slice_index head' 12 ≡ slice_index head 12 →
    slice_range head' 45 (45 + g.meta) ≡ slice_range head 45 (45 + g.meta) →
    judged g pages id head' ≡ Ok (written (length f0.bytes) bytes f0)

-- The pages that served the file serve it still, and so do those that the new size needs.
abbrev pub AppendedServes : Geometry → Type 0
AppendedServes g = (pages : Live) (head head' bytes : List ℕ) → Appends g pages head head' bytes → (r : ℕ) →
    (serves g pages head r ≡ true → serves g pages head' r ≡ true)
    × ((t : ℕ) → size_of head / body g ≤ t → t < data_pages g (size_of head') → entry_number g pages head' t ≡ Some r → serves g pages head' r ≡ true)
    × ((j : ℕ) → j < index_pages g (size_of head') → index_page g pages j ≡ Some r → serves g pages head' r ≡ true)

-- A renewed header page that all pages of its file serve, those that were spare among them, leaves the image tidy.
abbrev pub RenewedTidies : Geometry → Type 0
RenewedTidies g = (a b : List ℕ) (p o id : ℕ) (old head : List ℕ) (f : File) (before : ℕ → Bool) → RenewsTo g a p o id old head f →
    index_page g (own (live_at g a) id) 0 ≡ Some o → Replaced g p o head a b →
    IsTidyBut g a before → ((r : ℕ) → before r ≡ true → (is_some (own (live_at g a) id r) ≡ true) × (serves g (own (live_at g a) id) head r ≡ true)) →
    ((r : ℕ) → serves g (own (live_at g a) id) old r ≡ true → serves g (own (live_at g a) id) head r ≡ true) →
    IsTidy g b × (table_of g b ≡ put_file f (table_of g a))
