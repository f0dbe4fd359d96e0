-- What a truncated header page leads to.
use Rattle.std.specs.Prelude.{◌≡◌, ℕ, ◌+◌, ◌*◌, ◌<◌, ◌≤◌, List, length, Bool, true, nat_le, if◌then◌else◌, Some, Ok, take, slice_index, slice_range}
use Rattle.geometry.specs.declared.geometry.Geometry.{Geometry}
use Rattle.geometry.specs.Numbers.{head_slots}
use Rattle.table_model.specs.Room.{data_pages, index_pages}
use Rattle.image_model.specs.Headers.{names_index, span_of, size_of, name_of}
use Rattle.nor_core.specs.Flash.{word_at}
use Rattle.image_model.specs.Live.{Live}
use Rattle.table_model.specs.Table.{File}
use Rattle.image_model.specs.Files.{judged}
use Rattle.image_model.specs.Tidy.{serves}
use Rattle.image_laws.specs.Spares.{leftover}

abbrev pub TruncatedLeads : Geometry → Type 0
TruncatedLeads g = (pages : Live) (id : ℕ) (head head' name : List ℕ) (f0 : File) → 128 ≤ g.page →
    ((q : ℕ) (z : List ℕ) → pages q ≡ Some z → length z ≡ g.page) → judged g pages id head ≡ Ok f0 →
    size_of head' ≤ size_of head →
    ((t : ℕ) → t < data_pages g (size_of head') → t < head_slots g → word_at head' (45 + g.meta + 2 * t) ≡ word_at head (45 + g.meta + 2 * t)) →
    name_of head' ≡ Some name →
    judged g pages id head'
    ≡ Ok (record { id = id; name = name; kind = slice_index head' 12; meta = slice_range head' 45 (45 + g.meta); bytes = take (size_of head') f0.bytes })

-- A page is past these counts of index and data pages by its kind and span.
abbrev pub is_past : (index pages : ℕ) → List ℕ → Bool
is_past index pages page = if names_index page then nat_le index (span_of page) else nat_le pages (span_of page)

-- Of the pages that served the file the truncated header page leaves over those past its counts.
abbrev pub LeftIsPast : Geometry → Type 0
LeftIsPast g = (pages : Live) (head head' : List ℕ) →
    ((t : ℕ) → t < data_pages g (size_of head') → t < head_slots g → word_at head' (45 + g.meta + 2 * t) ≡ word_at head (45 + g.meta + 2 * t)) →
    (r : ℕ) (x : List ℕ) → pages r ≡ Some x → serves g pages head r ≡ true →
    leftover g pages head' r ≡ is_past (index_pages g (size_of head')) (data_pages g (size_of head')) x
