-- Between the first program of an append and its header page.
use Rattle.std.specs.Prelude.{◌≡◌, ◌≢◌, ℕ, ◌+◌, ◌*◌, ◌/◌, ◌%◌, ◌<◌, ◌≤◌, ◌⊎◌, List, length, Bool, true, false, ◌==◌, ◌||◌, Some, None, Ok, is_some, slice_index}
use Rattle.std.specs.Prelude.{slice_range}
use Rattle.geometry.specs.declared.geometry.Geometry.{Geometry}
use Rattle.geometry.specs.Numbers.{body, head_slots}
use Rattle.nor_core.specs.Flash.{HalfProgrammed, word_at}
use Rattle.table_model.specs.Table.{File, file_of, put_file}
use Rattle.table_model.specs.Files.{written}
use Rattle.table_model.specs.Room.{data_pages, index_pages}
use Rattle.image_model.specs.Live.{live_at, own}
use Rattle.image_model.specs.Headers.{obj_id, names_index, span_of, size_of, name_of}
use Rattle.image_model.specs.Files.{is_index, index_page, entry_number, data_page, judged, slot_at, index_span}
use Rattle.image_model.specs.Places.{page_of, is_entry_page, IsImage}
use Rattle.image_model.specs.Tables.{table_of}
use Rattle.image_model.specs.Tidy.{IsTidy, serves, free_blocks}
use Rattle.image_model.specs.Sound.{Keeps}
use Rattle.image_laws.specs.Flash.{Programmed}
use Rattle.image_laws.specs.LiveSteps.{PutLeaves, PutDone}
use Rattle.image_laws.specs.Programs.{IsHead}
use Rattle.image_laws.specs.Reindex.{slot_word}
use Rattle.image_laws.specs.SoundSteps.{IsOfKind}
use Rattle.image_laws.specs.Spares.{leftover}
use Rattle.image_laws.specs.TidySteps.{IsTidyBut}
use Rattle.renew_laws.specs.Append.{Appends}
use Rattle.renew_laws.specs.Renew.{RenewsTo}
use Rattle.renew_laws.specs.Replace.{Replaced}

-- In image b, which has the table of a, a file stands with its old header page; the pages that were put beside it are live pages of its id.
pub record Primed (g : Geometry) (id h : ℕ) (head : List ℕ) (f : File) (beside : ℕ → Bool) (a b : List ℕ) : Type 0 where
  pub image : IsImage g b
  pub keeps : Keeps g a b
  pub tidy : IsTidyBut g b beside
  pub mine : (r : ℕ) → beside r ≡ true → is_some (own (live_at g b) id r) ≡ true
  pub at : index_page g (own (live_at g b) id) 0 ≡ Some h
  pub header : own (live_at g b) id h ≡ Some head
  pub only : (r : ℕ) → is_index (own (live_at g b) id r) 0 ≡ true → r ≡ h
  pub file : judged g (own (live_at g b) id) id head ≡ Ok f

-- A tidy image is one, for each file of its table.
abbrev pub PrimeStarts : Geometry → Type 0
PrimeStarts g = (a : List ℕ) (id : ℕ) (f : File) → IsImage g a → IsTidy g a → file_of id (table_of g a) ≡ Some f →
    (h : ℕ) × (head : List ℕ) × Primed g id h head f (λ r. false) a a

-- The index page of each of the file's spans is there, and any other index page of the id is one that was put beside.
abbrev pub PrimedPlaces : Geometry → Type 0
PrimedPlaces g = (a b : List ℕ) (id h : ℕ) (head : List ℕ) (f : File) (beside : ℕ → Bool) → Primed g id h head f beside a b →
    ((j : ℕ) → j < index_pages g (size_of head) → is_some (index_page g (own (live_at g b) id) j) ≡ true)
    × ((r j : ℕ) → is_index (own (live_at g b) id r) j ≡ true →
    (beside r ≡ true) ⊎ ((index_page g (own (live_at g b) id) j ≡ Some r) × (j < index_pages g (size_of head))))

-- A data page that no entry names is put beside.
abbrev pub PrimeData : Geometry → Type 0
PrimeData g = (a b : List ℕ) (id h p : ℕ) (head page : List ℕ) (f : File) (beside : ℕ → Bool) → Primed g id h head f beside a b →
    IsOfKind g (live_at g b) p page → names_index page ≡ false →
    obj_id page % 0x8000 ≡ id →
    ((c : List ℕ) → PutLeaves g p page b c → Keeps g b c) × ((c : List ℕ) → PutDone g p page b c → Primed g id h head f (λ r. beside r || (r == p)) a c)

-- So is a further index page, of a span behind those of the file; it is the index page of its span where none was.
abbrev pub PrimeIndex : Geometry → Type 0
PrimeIndex g = (a b : List ℕ) (id h p : ℕ) (head page : List ℕ) (f : File) (beside : ℕ → Bool) → Primed g id h head f beside a b →
    IsOfKind g (live_at g b) p page → names_index page ≡ true →
    obj_id page % 0x8000 ≡ id → index_pages g (size_of head) ≤ span_of page →
    ((c : List ℕ) → PutLeaves g p page b c → Keeps g b c)
    × ((c : List ℕ) → PutDone g p page b c → Primed g id h head f (λ r. beside r || (r == p)) a c
    × (is_entry_page g p ≡ true → index_page g (own (live_at g b) id) (span_of page) ≡ None → index_page g (own (live_at g c) id) (span_of page) ≡ Some p))

-- Page w of an id changes in place: it is live still, the other live pages of the id are the same, and each index page is where it was.
pub record ChangesInPlace (g : Geometry) (id w : ℕ) (b c : List ℕ) : Type 0 where
  pub now : own (live_at g c) id w ≡ Some (page_of g c w)
  pub others : (r : ℕ) → r ≢ w → own (live_at g c) id r ≡ own (live_at g b) id r
  pub places : (j : ℕ) → index_page g (own (live_at g c) id) j ≡ index_page g (own (live_at g b) id) j

-- Bytes are programmed behind the end of the last data page, q.
abbrev pub PrimeFill : Geometry → Type 0
PrimeFill g = (a b c : List ℕ) (id h q from : ℕ) (head z bytes : List ℕ) (f : File) (beside : ℕ → Bool) → Primed g id h head f beside a b →
    entry_number g (own (live_at g b) id) head (size_of head / body g) ≡ Some q → own (live_at g b) id q ≡ Some z → names_index z ≡ false →
    span_of z ≡ size_of head / body g →
    5 + size_of head % body g ≤ from → from + length bytes ≤ g.page → HalfProgrammed (q * g.page + from) bytes b c →
    Keeps g b c × (free_blocks g b ≤ free_blocks g c) × Primed g id h head f beside a c × ChangesInPlace g id q b c
    × (data_page g (own (live_at g c) id) head (size_of head / body g) ≡ Some (page_of g c q))

-- The entry of a span behind the last is programmed in a further index page, w.
abbrev pub PrimeName : Geometry → Type 0
PrimeName g = (a b c : List ℕ) (id h w t : ℕ) (head x asked : List ℕ) (f : File) (beside : ℕ → Bool) → Primed g id h head f beside a b →
    own (live_at g b) id w ≡ Some x → names_index x ≡ true →
    data_pages g (size_of head) ≤ t → head_slots g ≤ t → index_span g t ≡ span_of x → length asked ≡ 2 → HalfProgrammed (w * g.page + slot_at g t) asked b c →
    Keeps g b c × (free_blocks g b ≤ free_blocks g c) × Primed g id h head f beside a c × ChangesInPlace g id w b c

-- Bytes that were programmed over 0xFF in a live page stand there,
abbrev pub FillHolds : Geometry → Type 0
FillHolds g = (b c : List ℕ) (q from : ℕ) (z bytes : List ℕ) → IsImage g b → live_at g b q ≡ Some z → from + length bytes ≤ g.page →
    ((k : ℕ) → from ≤ k → k < from + length bytes → slice_index z k ≡ 0xFF) →
    ((k : ℕ) → k < length bytes → slice_index bytes k < 256) → Programmed (q * g.page + from) bytes b c →
    slice_range (page_of g c q) from (from + length bytes) ≡ bytes

-- and so does an entry.
abbrev pub NameHolds : Geometry → Type 0
NameHolds g = (b c : List ℕ) (w t : ℕ) (x asked : List ℕ) → IsImage g b → live_at g b w ≡ Some x → slice_index x (slot_at g t) ≡ 0xFF →
    slice_index x (slot_at g t + 1) ≡ 0xFF → length asked ≡ 2 →
    ((k : ℕ) → k < 2 → slice_index asked k < 256) → Programmed (w * g.page + slot_at g t) asked b c → slot_word g (page_of g c w) t ≡ word_at asked 0

-- Then the header page is renewed, and says that the file has these bytes more; no page is left over.
abbrev pub PrimedRenews : Geometry → Type 0
PrimedRenews g = (a b : List ℕ) (id h p : ℕ) (head head' bytes : List ℕ) (f : File) (beside : ℕ → Bool) → Primed g id h head f beside a b →
    is_entry_page g p ≡ true → IsOfKind g (live_at g b) p head' →
    IsHead id head' → Appends g (own (live_at g b) id) head head' bytes → name_of head' ≡ name_of head → slice_index head' 12 ≡ slice_index head 12 →
    slice_range head' 45 (45 + g.meta) ≡ slice_range head 45 (45 + g.meta) →
    ((r : ℕ) → beside r ≡ true → serves g (own (live_at g b) id) head' r ≡ true) →
    RenewsTo g b p h id head head' (written (length f.bytes) bytes f)
    × ((r : ℕ) → leftover g (own (live_at g b) id) head' r ≡ true → ⊥)
    × ((c : List ℕ) → Replaced g p h head' b c → IsTidy g c × (table_of g c ≡ put_file (written (length f.bytes) bytes f) (table_of g a)))
