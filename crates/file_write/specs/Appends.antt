-- What an append asks of an image, and what it leaves.
use Rattle.std.specs.Prelude.{◌≡◌, ℕ, ◌+◌, ◌-◌, ◌*◌, ◌/◌, ◌%◌, ◌<◌, ◌≤◌, List, length, true, false, ◌==◌, ◌&&◌, nat_le, nat_lt, min, Option, Some, None, if◌then◌else◌}
use Rattle.std.specs.Prelude.{slice_index}
use Rattle.std.specs.Int.{to_le_bytes, w16}
use Rattle.geometry.specs.declared.geometry.Geometry.{Geometry}
use Rattle.geometry.specs.Numbers.{body, head_slots, span_slots, usable, page_count}
use Rattle.table_model.specs.Table.{File, file_of, put_file}
use Rattle.table_model.specs.Files.{written}
use Rattle.table_model.specs.Room.{data_pages}
use Rattle.image_model.specs.Headers.{size_of}
use Rattle.image_model.specs.Live.{live_at, own}
use Rattle.image_model.specs.Files.{index_page, slot_at, index_span}
use Rattle.image_model.specs.Places.{page_of}
use Rattle.image_model.specs.Collect.{are_had}
use Rattle.image_model.specs.Tables.{table_of}
use Rattle.image_model.specs.Tidy.{IsTidy}
use Rattle.nor_core.specs.Flash.{programmed}
use Rattle.file_write.specs.Beside.{AddedPage, is_data, is_further}
use Rattle.renew_laws.specs.Primed.{Primed}
use Rattle.renew_laws.specs.Tails.{IsTailReady}
use Rattle.flash_view.specs.DataPages.{data_number_of}
use Rattle.flash_view.specs.declared.kinds.Kind.TheVariants.{Index, Data}
use Rattle.flash_view.specs.Steps.{Step}
use Rattle.page_renew.specs.PageSteps.{StepCut, StepDone}

-- how many index pages an append to a file of that size needs: two where it makes the first data page of a further index page
abbrev pub index_needed : Geometry → ℕ → ℕ
index_needed g size = if (size % body g == 0) && nat_le (head_slots g) (size / body g) && ((size / body g - head_slots g) % span_slots g == 0) then 2 else 1

-- how many data pages from a span on are put together at most: the header page has their entries, and one that it doesn't name is put alone
abbrev pub pages_most : Geometry → ℕ → ℕ
pages_most g t = if nat_lt t (head_slots g) then min (head_slots g - t) 16 else 1

-- how many bytes one page step adds to a file of that size at most
abbrev pub append_room : Geometry → ℕ → ℕ
append_room g size = if size % body g == 0 then pages_most g (size / body g) * body g else body g - size % body g

-- the most programs of a page step that adds so many bytes: fourteen, and four more for each data page behind the first
abbrev pub append_most : Geometry → (len : ℕ) → ℕ
append_most g len = 14 + 4 * (data_pages g len - 1)

-- The image is tidy, its table has this file under the id, and its tail is ready; some bytes, that one page step can add, leave it no more data pages than the volume has, and the pages for them are to be had.
pub record CanAppend (g : Geometry) (image : List ℕ) (id : ℕ) (bytes : List ℕ) (f : File) : Type 0 where
  pub tidy : IsTidy g image
  pub there : file_of id (table_of g image) ≡ Some f
  pub ready : IsTailReady g image id
  pub some : 0 < length bytes
  pub fits : length bytes ≤ append_room g (length f.bytes)
  pub few : data_pages g (length f.bytes + length bytes) ≤ usable g
  pub had : are_had g image (index_needed g (length f.bytes)) (data_pages g (length bytes)) ≡ true

-- Page h is its header page, and tells this size.
pub record CanAppendAt (g : Geometry) (image : List ℕ) (id h size : ℕ) (bytes : List ℕ) (f : File) : Type 0 where
  pub can : CanAppend g image id bytes f
  pub head : List ℕ
  pub prime : Primed g id h head f (λ r. false) image image
  pub told : size ≡ size_of head
  pub long : length f.bytes ≡ size_of head

-- The file ends inside its last data page, which is page q.
pub record CanFill (g : Geometry) (image : List ℕ) (id h size q : ℕ) (bytes : List ℕ) (f : File) : Type 0 where
  pub at : CanAppendAt g image id h size bytes f
  pub used : 0 < size % body g
  pub number : data_number_of g image id (size / body g) ≡ Some q

-- The further index page with the entry of a data span is page w, and the two bytes of that entry are bytes.
pub record IsSlotPage (g : Geometry) (image : List ℕ) (id t w : ℕ) : Type 0 where
  pub at : index_page g (own (live_at g image) id) (index_span g t) ≡ Some w
  pub small : (k : ℕ) → k < 2 → slice_index (page_of g image w) (slot_at g t + k) < 256

-- whether it is there
abbrev pub IsSlot : Geometry → List ℕ → (id t : ℕ) → Option ℕ → Type 0
IsSlot g image id t None = index_page g (own (live_at g image) id) (index_span g t) ≡ None
IsSlot g image id t (Some w) = IsSlotPage g image id t w

-- The new data page is one whose entry further index page w has.
pub record CanName (g : Geometry) (image : List ℕ) (id h size w : ℕ) (bytes : List ℕ) (f : File) : Type 0 where
  pub at : CanAppendAt g image id h size bytes f
  pub slot : IsSlotPage g image id (size / body g) w

-- the last data page of a file of that size that ends inside it
abbrev pub IsLast : Geometry → List ℕ → (id size : ℕ) → Option ℕ → Type 0
IsLast g image id size None = (q : ℕ) → data_number_of g image id (size / body g) ≡ Some q → q < page_count g → size / body g ≤ 0xFFFF → ⊥
IsLast g image id size (Some q) = data_number_of g image id (size / body g) ≡ Some q

-- The bytes stand at the file's end, and its tail is ready for more.
pub record Appended (g : Geometry) (id : ℕ) (bytes : List ℕ) (f : File) (was now : List ℕ) : Type 0 where
  pub step : StepDone g (put_file (written (length f.bytes) bytes f) (table_of g was)) was now
  pub ready : IsTailReady g now id

-- ---- the steps of an append: to the file of a header page, and the whole append

abbrev pub appending_at : (id h size : ℕ) → List ℕ → File → Step (Unit {0})
appending_at id h size bytes f = record {
  needs = λ g was. CanAppendAt g was id h size bytes f;
  cut = λ g was image. StepCut g (put_file (written (length f.bytes) bytes f) (table_of g was)) was image;
  done = λ g was now ok. Appended g id bytes f was now;
}

abbrev pub appending : (id : ℕ) → List ℕ → File → Step (Unit {0})
appending id bytes f = record {
  needs = λ g was. CanAppend g was id bytes f;
  cut = λ g was image. StepCut g (put_file (written (length f.bytes) bytes f) (table_of g was)) was image;
  done = λ g was now ok. Appended g id bytes f was now;
}

-- bytes that end in the last data page, page q
abbrev pub filling_at : (id h size q : ℕ) → List ℕ → File → Step (Unit {0})
filling_at id h size q bytes f = record {
  needs = λ g was. CanFill g was id h size q bytes f;
  cut = λ g was image. StepCut g (put_file (written (length f.bytes) bytes f) (table_of g was)) was image;
  done = λ g was now ok. Appended g id bytes f was now;
}

-- bytes that begin a data page whose entry further index page w has
abbrev pub naming_at : (id h size w : ℕ) → List ℕ → File → Step (Unit {0})
naming_at id h size w bytes f = record {
  needs = λ g was. CanName g was id h size w bytes f;
  cut = λ g was image. StepCut g (put_file (written (length f.bytes) bytes f) (table_of g was)) was image;
  done = λ g was now ok. Appended g id bytes f was now;
}

-- Their data page p is put and named there.
abbrev pub naming_data : (id h size w span p : ℕ) → List ℕ → File → Step (Unit {0})
naming_data id h size w span p bytes f = record {
  needs = λ g was. CanName g was id h size w bytes f;
  cut = λ g was image. StepCut g (put_file (written (length f.bytes) bytes f) (table_of g was)) was image;
  done = λ g was now ok. (mid : List ℕ) × AddedPage g Data (is_data id span bytes g) was mid p
      × (now ≡ programmed mid (w * g.page + slot_at g span) (to_le_bytes w16 p));
}

-- Their data page p is put, and a further index page of span s that names it.
abbrev pub indexing_data : (id h size span s p : ℕ) → List ℕ → File → Step ℕ
indexing_data id h size span s p bytes f = record {
  needs = λ g was. CanAppendAt g was id h size bytes f;
  cut = λ g was image. StepCut g (put_file (written (length f.bytes) bytes f) (table_of g was)) was image;
  done = λ g was now q. (mid : List ℕ) × AddedPage g Data (is_data id span bytes g) was mid p × AddedPage g Index (is_further id s span p g) mid now q;
}
