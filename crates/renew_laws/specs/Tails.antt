-- What stands behind the end of a file.
use Rattle.std.specs.Prelude.{◌≡◌, ◌≢◌, ℕ, ◌+◌, ◌-◌, ◌/◌, ◌%◌, ◌<◌, ◌≤◌, List, [], Bool, Some, true, false, unwrap_or, slice_index, slice_range}
use Rattle.geometry.specs.declared.geometry.Geometry.{Geometry}
use Rattle.geometry.specs.Numbers.{body, head_slots}
use Rattle.table_model.specs.Table.{File}
use Rattle.table_model.specs.Room.{data_pages}
use Rattle.image_model.specs.Live.{Live, live_at, own}
use Rattle.image_model.specs.Headers.{names_index, size_of, span_of}
use Rattle.image_model.specs.Files.{is_index, index_page, further, data_page, span_bytes, index_span, slot_at}
use Rattle.image_laws.specs.LiveSteps.{PutDone, KillDone}
use Rattle.image_laws.specs.Reindex.{now_data}
use Rattle.renew_laws.specs.Primed.{Primed}
use Rattle.renew_laws.specs.Recopy.{RecopiesTo, PutsDataTo}
use Rattle.renew_laws.specs.Renew.{RenewsTo}
use Rattle.renew_laws.specs.Replace.{Replaced}

-- The bytes of the last data page past the size are 0xFF.
abbrev pub HasCleanBytes : Geometry → Live → List ℕ → Type 0
HasCleanBytes g pages head = (page : List ℕ) → size_of head % body g ≢ 0 → data_page g pages head (size_of head / body g) ≡ Some page → (k : ℕ) →
    5 + size_of head % body g ≤ k → k < g.page → slice_index page k ≡ 0xFF

-- From a page count on no further index page names a data page: its bytes from the entry of such a span on are 0xFF.
abbrev pub HasFreeEntries : Geometry → Live → ℕ → Type 0
HasFreeEntries g pages count = (r t k : ℕ) (page : List ℕ) → pages r ≡ Some page → names_index page ≡ true → span_of page ≡ further g t → head_slots g ≤ t →
    count ≤ t → slot_at g t ≤ k → k < g.page → slice_index page k ≡ 0xFF

-- A file's tail is clean: so are the bytes past its size, and the entries behind its last span are free.
pub record HasCleanTail (g : Geometry) (pages : Live) (head : List ℕ) : Type 0 where
  pub bytes : HasCleanBytes g pages head
  pub entries : HasFreeEntries g pages (data_pages g (size_of head))

-- the same of the file of an id
abbrev pub IsTailReady : Geometry → List ℕ → ℕ → Type 0
IsTailReady g image id = (h : ℕ) (head : List ℕ) → index_page g (own (live_at g image) id) 0 ≡ Some h → own (live_at g image) id h ≡ Some head →
    HasCleanTail g (own (live_at g image) id) head

-- no tail that was ready is not
abbrev pub KeepsTails : Geometry → List ℕ → List ℕ → Type 0
KeepsTails g was now = (id : ℕ) → IsTailReady g was id → IsTailReady g now id

-- An id whose live pages stay keeps its tail.
abbrev pub TailStays : Geometry → Type 0
TailStays g = (a b : List ℕ) (id : ℕ) → own (live_at g b) id ≡ own (live_at g a) id → IsTailReady g a id → IsTailReady g b id

-- A data page put beside keeps all tails,
abbrev pub TailBeside : Geometry → Type 0
TailBeside g = (a b : List ℕ) (p id h : ℕ) (page head : List ℕ) (f0 : File) → PutsDataTo g a p id h page head f0 → PutDone g p page a b → KeepsTails g a b

-- and so does the kill of any data page.
abbrev pub TailDropped : Geometry → Type 0
TailDropped g = (a b : List ℕ) (p : ℕ) (page : List ℕ) → live_at g a p ≡ Some page → names_index page ≡ false → KillDone g p a b → KeepsTails g a b

-- An index page is renewed by a copy that has 0xFF from the entry of the span behind the last on, where it has that or one behind it.
abbrev pub FreesEntries : Geometry → (old page head : List ℕ) → Type 0
FreesEntries g old page head = (t k : ℕ) → head_slots g ≤ t → data_pages g (size_of head) ≤ t → index_span g t ≡ span_of old → slot_at g t ≤ k → k < g.page →
    slice_index page k ≡ 0xFF

-- Where the copy's entries lead to the same bytes it keeps all tails. These three move a data page or an index page.
abbrev pub TailCopied : Geometry → Type 0
TailCopied g = (a b : List ℕ) (p o id h : ℕ) (old page head head' : List ℕ) (f0 f : File) → RecopiesTo g a p o id h old page head head' f0 f →
    Replaced g p o page a b →
    ((t : ℕ) → t < data_pages g (size_of head) →
    slice_range (unwrap_or (now_data g (own (live_at g a) id) head page t) []) 5 g.page ≡ span_bytes g (own (live_at g a) id) head t) →
    FreesEntries g old page head → KeepsTails g a b

-- Where it leads to a last data page with 0xFF past the size, and no other index page names a data page behind the last, it makes the tail ready.
abbrev pub TailReadied : Geometry → Type 0
TailReadied g = (a b : List ℕ) (p o id h : ℕ) (old page head head' : List ℕ) (f0 f : File) → RecopiesTo g a p o id h old page head head' f0 f →
    Replaced g p o page a b →
    ((z : List ℕ) → size_of head % body g ≢ 0 → now_data g (own (live_at g a) id) head page (size_of head / body g) ≡ Some z → (k : ℕ) →
    5 + size_of head % body g ≤ k → k < g.page → slice_index z k ≡ 0xFF) →
    FreesEntries g old page head →
    ((r t k : ℕ) (x : List ℕ) → r ≢ o → own (live_at g a) id r ≡ Some x → names_index x ≡ true → span_of x ≡ further g t → head_slots g ≤ t →
    data_pages g (size_of head) ≤ t → slot_at g t ≤ k → k < g.page → slice_index x k ≡ 0xFF) → IsTailReady g b id

-- A renewed header page makes the tail ready where that is clean as the new header page tells it.
abbrev pub TailGrown : Geometry → Type 0
TailGrown g = (a b : List ℕ) (p o id : ℕ) (old head : List ℕ) (f : File) → RenewsTo g a p o id old head f → Replaced g p o head a b →
    HasCleanTail g (own (live_at g a) id) head → IsTailReady g b id

-- A further index page of a whole file, not one put beside it, that has the entry of a span behind the last has that of the last span, and of the
-- one behind it.
abbrev pub TailTogether : Geometry → Type 0
TailTogether g = (a b : List ℕ) (id h r t : ℕ) (head : List ℕ) (f : File) (beside : ℕ → Bool) → Primed g id h head f beside a b →
    beside r ≡ false → head_slots g ≤ t → data_pages g (size_of head) ≤ t → is_index (own (live_at g b) id r) (further g t) ≡ true →
    (index_page g (own (live_at g b) id) (further g t) ≡ Some r) × (0 < data_pages g (size_of head)) ×
    (index_span g (data_pages g (size_of head) - 1) ≡ further g t) × (head_slots g ≤ data_pages g (size_of head)) ×
    (further g (data_pages g (size_of head)) ≡ further g t)
