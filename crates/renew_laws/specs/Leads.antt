-- What a renewed page leads to.
use Rattle.std.specs.Prelude.{◌≡◌, ℕ, ◌+◌, ◌*◌, ◌<◌, List, [], Some, Ok, unwrap_or, slice_index, slice_range}
use Rattle.geometry.specs.declared.geometry.Geometry.{Geometry}
use Rattle.geometry.specs.Numbers.{head_slots}
use Rattle.table_model.specs.Room.{data_pages}
use Rattle.image_model.specs.Live.{live_at, Live, own}
use Rattle.image_model.specs.Headers.{size_of, name_of}
use Rattle.nor_core.specs.Flash.{word_at}
use Rattle.table_model.specs.Table.{File, put_file}
use Rattle.image_model.specs.Files.{index_page, judged, span_bytes}
use Rattle.image_model.specs.Tables.{table_of}
use Rattle.image_model.specs.Tidy.{IsTidy, serves}
use Rattle.image_laws.specs.Reindex.{now_data, now_bytes}
use Rattle.renew_laws.specs.Renew.{RenewsTo}
use Rattle.renew_laws.specs.Replace.{Replaced}

-- Copies with the same bodies: the file is as it was.
abbrev pub CopiesSame : Geometry → Type 0
CopiesSame g = (pages : Live) (id : ℕ) (head new : List ℕ) (f0 : File) → judged g pages id head ≡ Ok f0 →
    ((t : ℕ) → t < data_pages g (size_of head) → slice_range (unwrap_or (now_data g pages head new t) []) 5 g.page ≡ span_bytes g pages head t) →
    now_bytes g pages head new ≡ f0.bytes

-- a header page with the same size and entries
pub record SameSpans (g : Geometry) (head head' : List ℕ) : Type 0 where
  pub size : size_of head' ≡ size_of head
  pub words : (t : ℕ) → t < data_pages g (size_of head) → t < head_slots g → word_at head' (45 + g.meta + 2 * t) ≡ word_at head (45 + g.meta + 2 * t)

-- It leads to the same bytes, under the name, type and meta that it has.
abbrev pub RenamedLeads : Geometry → Type 0
RenamedLeads g = (pages : Live) (id : ℕ) (head head' name : List ℕ) (f0 : File) → judged g pages id head ≡ Ok f0 → SameSpans g head head' →
    name_of head' ≡ Some name →
    (judged g pages id head' ≡ Ok (record { id = id; name = name; kind = slice_index head' 12; meta = slice_range head' 45 (45 + g.meta); bytes = f0.bytes }))
    × ((r : ℕ) → serves g pages head' r ≡ serves g pages head r)

-- Renewed so, the image is tidy.
abbrev pub RenameTidies : Geometry → Type 0
RenameTidies g = (a b : List ℕ) (p o id : ℕ) (old head : List ℕ) (f0 f : File) → RenewsTo g a p o id old head f →
    index_page g (own (live_at g a) id) 0 ≡ Some o → judged g (own (live_at g a) id) id old ≡ Ok f0 →
    SameSpans g old head → Replaced g p o head a b → IsTidy g a → IsTidy g b × (table_of g b ≡ put_file f (table_of g a))
