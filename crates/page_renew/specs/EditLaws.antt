-- Which edits lead to which file.
use Rattle.std.specs.Prelude.{◌≡◌, ◌≢◌, ℕ, ◌+◌, ◌/◌, ◌%◌, ◌<◌, ◌≤◌, List, length, take, All, Bool, true, false, Option, Some, None, slice_index, slice_range, ◌*◌}
use Rattle.geometry.specs.declared.geometry.Geometry.{Geometry}
use Rattle.geometry.specs.Numbers.{body, head_slots}
use Rattle.table_model.specs.Table.{File, put_file}
use Rattle.table_model.specs.Files.{written}
use Rattle.table_model.specs.Room.{data_pages, index_pages}
use Rattle.image_model.specs.Headers.{size_of}
use Rattle.image_model.specs.Live.{live_at, own}
use Rattle.image_model.specs.Files.{data_page}
use Rattle.image_model.specs.Tables.{table_of}
use Rattle.image_model.specs.Tidy.{IsTidy, serves}
use Rattle.image_laws.specs.Reindex.{slot_word}
use Rattle.renew_laws.specs.Append.{Appends, page_part}
use Rattle.renew_laws.specs.Idles.{Idles}
use Rattle.renew_laws.specs.Primed.{Primed}
use Rattle.renew_laws.specs.Truncate.{is_past}
use Rattle.page_renew.specs.declared.edits.Edit.{Edit}
use Rattle.page_renew.specs.declared.edits.Edit.TheVariants.{Name, Meta, Cut, Grow, GrowBy}
use Rattle.page_renew.specs.Edits.{edited_size, IsEdited, TakesNext}
use Rattle.page_renew.specs.Renewals.{CanSay, EditDone}

-- the file after an edit that adds no bytes
abbrev pub edited_file : Edit → File → File
edited_file (Name name) f = record { id = f.id; name = name.now; kind = f.kind; meta = f.meta; bytes = f.bytes }
edited_file (Meta meta) f = record { id = f.id; name = f.name; kind = f.kind; meta = meta.now; bytes = f.bytes }
edited_file (Cut size) f = record { id = f.id; name = f.name; kind = f.kind; meta = f.meta; bytes = take size f.bytes }
edited_file (Grow size) f = f
edited_file (GrowBy size pages) f = f

-- an edit that adds none, of a file of this id and size: a name that no other file has, meta bytes, or a size up to the old one
abbrev pub AddsNone : Edit → (id size : ℕ) → List File → Type 0
AddsNone (Name name) id size files = All (λ x. x.id ≢ id → x.name ≢ name.now) files
AddsNone (Meta meta) id size files = Unit {0}
AddsNone (Cut now) id size files = now ≤ size
AddsNone (Grow now) id size files = ⊥
AddsNone (GrowBy now pages) id size files = ⊥

-- an edit that may add some
abbrev pub Adds : Edit → Type 0
Adds (Name name) = ⊥
Adds (Meta meta) = ⊥
Adds (Cut size) = ⊥
Adds (Grow size) = Unit {0}
Adds (GrowBy size pages) = Unit {0}

-- An edit that adds none leads to that file,
abbrev pub EditSays : Geometry → Type 0
EditSays g = (a b : List ℕ) (id h : ℕ) (head : List ℕ) (f : File) (beside : ℕ → Bool) (edit : Edit) → Primed g id h head f beside a b →
    AddsNone edit id (size_of head) (table_of g b) → CanSay g b id h edit head (edited_file edit f)

-- and one that keeps the size leaves a tidy image tidy.
abbrev pub EditTidies : Geometry → Type 0
EditTidies g = (a c : List ℕ) (id h : ℕ) (head : List ℕ) (f f' : File) (edit : Edit) → Primed g id h head f (λ r. false) a a →
    edited_size edit (size_of head) ≡ size_of head → EditDone g id edit f' a c → IsTidy g c

-- a live page past these counts of index and data pages
abbrev pub past_of : (index pages : ℕ) → Option (List ℕ) → Bool
past_of index pages None = false
past_of index pages (Some page) = is_past index pages page

-- One that cuts a file leaves a tidy image tidy but for the pages of its id past the new counts.
abbrev pub CutLeaves : Geometry → Type 0
CutLeaves g = (a c : List ℕ) (id h : ℕ) (head : List ℕ) (f f' : File) (size : ℕ) → Primed g id h head f (λ r. false) a a → size ≤ size_of head →
    EditDone g id (Cut size) f' a c →
    Idles g (λ r. past_of (index_pages g size) (data_pages g size) (own (live_at g c) id r)) c

-- An edit adds these bytes: the edited header page says that the file has them more.
pub record Grows (g : Geometry) (b : List ℕ) (id : ℕ) (head bytes : List ℕ) (edit : Edit) : Type 0 where
  pub adds : Adds edit
  pub takes : TakesNext g edit (size_of head)
  pub appends : (y : List ℕ) → IsEdited g head edit y → Appends g (own (live_at g b) id) head y bytes

-- It does where they stand behind the old size in data page z, to which the edited header page leads,
pub record GrowsIn (g : Geometry) (b : List ℕ) (id : ℕ) (head z bytes : List ℕ) (edit : Edit) : Type 0 where
  pub adds : Adds edit
  pub takes : TakesNext g edit (size_of head)
  pub size : edited_size edit (size_of head) ≡ size_of head + length bytes
  pub some : 0 < length bytes
  pub fits : size_of head % body g + length bytes ≤ body g
  pub holds : slice_range z (5 + size_of head % body g) (5 + size_of head % body g + length bytes) ≡ bytes
  pub page : (y : List ℕ) → IsEdited g head edit y → data_page g (own (live_at g b) id) y (size_of head / body g) ≡ Some z

abbrev pub GrowsInOne : Geometry → Type 0
GrowsInOne g = (a b : List ℕ) (id h : ℕ) (head z bytes : List ℕ) (f : File) (beside : ℕ → Bool) (edit : Edit) → Primed g id h head f beside a b →
    GrowsIn g b id head z bytes edit → Grows g b id head bytes edit

-- and where they begin at the end of a data page and stand in pages of their own, to which it leads.
pub record GrowsOver (g : Geometry) (b : List ℕ) (id : ℕ) (head bytes : List ℕ) (edit : Edit) : Type 0 where
  pub adds : Adds edit
  pub takes : TakesNext g edit (size_of head)
  pub size : edited_size edit (size_of head) ≡ size_of head + length bytes
  pub some : 0 < length bytes
  pub whole : size_of head % body g ≡ 0
  pub pages_are : (y : List ℕ) → IsEdited g head edit y → (i : ℕ) → i * body g < length bytes →
      (z : List ℕ) × (data_page g (own (live_at g b) id) y (size_of head / body g + i) ≡ Some z)
      × (slice_range z 5 (5 + length (page_part g bytes i)) ≡ page_part g bytes i)

abbrev pub GrowsInMany : Geometry → Type 0
GrowsInMany g = (a b : List ℕ) (id h : ℕ) (head bytes : List ℕ) (f : File) (beside : ℕ → Bool) (edit : Edit) → Primed g id h head f beside a b →
    GrowsOver g b id head bytes edit → Grows g b id head bytes edit

-- It leads to the file with these bytes at its end,
abbrev pub GrowSays : Geometry → Type 0
GrowSays g = (a b : List ℕ) (id h : ℕ) (head bytes : List ℕ) (f : File) (beside : ℕ → Bool) (edit : Edit) → Primed g id h head f beside a b →
    Grows g b id head bytes edit → CanSay g b id h edit head (written (length f.bytes) bytes f)

-- and leaves the image tidy where the pages that were put beside serve the edited header page.
abbrev pub GrowTidies : Geometry → Type 0
GrowTidies g = (a b c : List ℕ) (id h : ℕ) (head bytes : List ℕ) (f f' : File) (beside : ℕ → Bool) (edit : Edit) → Primed g id h head f beside a b →
    Grows g b id head bytes edit →
    ((y : List ℕ) → IsEdited g head edit y → (r : ℕ) → beside r ≡ true → serves g (own (live_at g b) id) y r ≡ true) → EditDone g id edit f' b c →
    IsTidy g c × (table_of g c ≡ put_file (written (length f.bytes) bytes f) (table_of g a))

-- the data pages that an edit names
abbrev pub NamesNext : Edit → List ℕ → Type 0
NamesNext (GrowBy size named) pages = named.now ≡ pages
NamesNext _ pages = ⊥

-- The header page keeps the entries of the spans below both page counts,
abbrev pub EditKeepsEntries : Geometry → Type 0
EditKeepsEntries g = (x y : List ℕ) (edit : Edit) → IsEdited g x edit y → (t : ℕ) → t < data_pages g (size_of x) →
    t < data_pages g (edited_size edit (size_of x)) → t < head_slots g → slot_word g y t ≡ slot_word g x t

-- and names the data pages of the spans behind the last, where it has their entries.
abbrev pub EditNamesNext : Geometry → Type 0
EditNamesNext g = (x y : List ℕ) (edit : Edit) (pages : List ℕ) → NamesNext edit pages → IsEdited g x edit y → (i : ℕ) → i < length pages →
    data_pages g (size_of x) + i < head_slots g →
    slot_word g y (data_pages g (size_of x) + i) ≡ slice_index pages i
