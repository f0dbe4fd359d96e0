-- What a header page says, and what an edit makes of it.
use Rattle.std.specs.Prelude.{◌≡◌, ◌≢◌, ℕ, ◌+◌, ◌*◌, ◌<◌, ◌≤◌, List, length, All, min, ◌-◌, nat_lt, Option, Some, if◌then◌else◌, take, slice_index}
use Rattle.std.specs.Prelude.{slice_range}
use Rattle.geometry.specs.declared.geometry.Geometry.{Geometry}
use Rattle.geometry.specs.Numbers.{head_slots}
use Rattle.table_model.specs.Room.{data_pages}
use Rattle.image_model.specs.Headers.{obj_id, span_of, size_of, name_of}
use Rattle.nor_core.specs.Flash.{word_at, SameOutside}
use Rattle.image_model.specs.Places.{page_of}
use Rattle.page_renew.specs.declared.edits.Edit.{Edit}
use Rattle.page_renew.specs.declared.edits.Edit.TheVariants.{Name, Meta, Cut, Grow, GrowBy}

-- what a header page says: its id and span, and its file's type, size, name, meta bytes and page numbers
pub record Header : Type 0 where
  pub id : ℕ
  pub span : ℕ
  pub kind : ℕ
  pub size : ℕ
  pub name : Option (List ℕ)
  pub meta : List ℕ
  pub entry : ℕ → ℕ

-- what these bytes say
abbrev pub header_in : Geometry → List ℕ → Header
header_in g x = record {
  id = obj_id x;
  span = span_of x;
  kind = slice_index x 12;
  size = size_of x;
  name = name_of x;
  meta = slice_range x 45 (45 + g.meta);
  entry = λ t. word_at x (45 + g.meta + 2 * t);
}

-- The bytes of a whole page say that.
pub record Says (g : Geometry) (h : Header) (y : List ℕ) : Type 0 where
  pub len : length y ≡ g.page
  pub id : obj_id y ≡ h.id
  pub span : span_of y ≡ h.span
  pub kind : slice_index y 12 ≡ h.kind
  pub size : size_of y ≡ h.size
  pub name : name_of y ≡ h.name
  pub meta : slice_range y 45 (45 + g.meta) ≡ h.meta
  pub entries : (t : ℕ) → t < head_slots g → word_at y (45 + g.meta + 2 * t) ≡ h.entry t

-- a header with no page number from a page count on
abbrev pub cut_at : ℕ → Header → Header
cut_at count h =
    record { id = h.id; span = h.span; kind = h.kind; size = h.size; name = h.name; meta = h.meta; entry = λ t. if nat_lt t count then h.entry t else 0xFFFF }

-- ---- what an edit makes of each field, where the file had so many data pages

abbrev pub edited_size : Edit → ℕ → ℕ
edited_size (Name name) size = size
edited_size (Meta meta) size = size
edited_size (Cut now) size = now
edited_size (Grow now) size = now
edited_size (GrowBy now pages) size = now

abbrev pub edited_name : Edit → Option (List ℕ) → Option (List ℕ)
edited_name (Name now) name = Some now.now
edited_name (Meta meta) name = name
edited_name (Cut size) name = name
edited_name (Grow size) name = name
edited_name (GrowBy size pages) name = name

abbrev pub edited_meta : Edit → List ℕ → List ℕ
edited_meta (Name name) meta = meta
edited_meta (Meta now) meta = now.now
edited_meta (Cut size) meta = meta
edited_meta (Grow size) meta = meta
edited_meta (GrowBy size pages) meta = meta

-- page numbers with these from a span on
abbrev pub named_from : (span : ℕ) → List ℕ → (ℕ → ℕ) → ℕ → ℕ
named_from span pages entry t = if nat_lt t span then entry t else if nat_lt t (span + length pages) then slice_index pages (t - span) else entry t

-- the data pages of the spans behind the last are named by one of them
abbrev pub edited_entry : Edit → ℕ → (ℕ → ℕ) → ℕ → ℕ
edited_entry (Name name) count entry t = entry t
edited_entry (Meta meta) count entry t = entry t
edited_entry (Cut size) count entry t = entry t
edited_entry (Grow size) count entry t = entry t
edited_entry (GrowBy size pages) count entry t = named_from count pages.now entry t

abbrev pub edited : Edit → ℕ → Header → Header
edited edit count h = record {
  id = h.id;
  span = h.span;
  kind = h.kind;
  size = edited_size edit h.size;
  name = edited_name edit h.name;
  meta = edited_meta edit h.meta;
  entry = edited_entry edit count h.entry;
}

-- the header with these page numbers from a span on
abbrev pub naming : (span : ℕ) → List ℕ → Header → Header
naming span pages h = record { id = h.id; span = h.span; kind = h.kind; size = h.size; name = h.name; meta = h.meta; entry = named_from span pages h.entry }

-- Page y says what header page x says, with the edit done; of its page numbers those below both page counts are kept.
abbrev pub IsEdited : Geometry → (x : List ℕ) → Edit → (y : List ℕ) → Type 0
IsEdited g x edit y =
    let count = data_pages g (size_of x) in
    Says g (edited edit count (cut_at (min count (data_pages g (edited_size edit (size_of x)))) (header_in g x))) y

-- what is asked of an edit: a name of 1 to 31 bytes without a zero, as many meta bytes as the geometry has, a size that isn't the undefined one, and
-- no more page numbers than a span can count
abbrev pub IsEditable : Geometry → Edit → Type 0
IsEditable g (Name name) = (1 ≤ length name.now) × (length name.now ≤ 31) × All (λ b. b ≢ 0) name.now
IsEditable g (Meta meta) = length meta.now ≡ g.meta
IsEditable g (Cut size) = size < 0xFFFFFFFF
IsEditable g (Grow size) = size < 0xFFFFFFFF
IsEditable g (GrowBy size pages) = (size < 0xFFFFFFFF) × (length pages.now ≤ 0xFFFF)

-- An edit that names data pages of the spans behind the last gives the file as many data pages more.
abbrev pub TakesNext : Geometry → Edit → (size : ℕ) → Type 0
TakesNext g (GrowBy now pages) size = data_pages g size + length pages.now ≤ data_pages g now
TakesNext g _ size = Unit {0}

-- In the new bytes the entry of a span names a data page, where a header page has it.
abbrev pub IsNamed : Geometry → (span page : ℕ) → (old new : List ℕ) → Type 0
IsNamed g span page old new =
    (head_slots g ≤ span → new ≡ old) × (span < head_slots g → (word_at new (45 + g.meta + 2 * span) ≡ page) × SameOutside (45 + g.meta + 2 * span) 2 old new)

-- The first bytes are page `header` edited, and they and the page's flags are bytes.
pub record HasEdited (g : Geometry) (image : List ℕ) (header : ℕ) (edit : Edit) (work : List ℕ) : Type 0 where
  pub edited : IsEdited g (page_of g image header) edit (take g.page work)
  pub small : (k : ℕ) → k < g.page → slice_index work k < 256
  pub flags : slice_index image (header * g.page + 4) < 256
