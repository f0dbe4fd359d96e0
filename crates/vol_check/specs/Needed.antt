-- The pages that the files of a table need, and marks of them.
use Rattle.std.specs.Prelude.{◌≡◌, ℕ, ◌+◌, ◌-◌, ◌*◌, ◌<◌, ◌≤◌, ◌⊎◌, min, List, true, not, nat_lt, ◌==◌, ◌&&◌, Some, is_some, slice_index}
use Rattle.geometry.specs.declared.geometry.Geometry.{Geometry}
use Rattle.geometry.specs.Numbers.{page_count, head_slots, span_slots, ceil}
use Rattle.nor_core.specs.Flash.{word_at}
use Rattle.table_model.specs.Room.{data_pages}
use Rattle.image_model.specs.Places.{page_of}
use Rattle.image_model.specs.Headers.{size_of}
use Rattle.image_model.specs.Live.{live_at, own}
use Rattle.image_model.specs.Files.{index_page}
use Rattle.image_model.specs.Tables.{has_of, counted}
use Rattle.image_model.specs.Tidy.{is_wanted}
use Rattle.flash_view.specs.Found.{headed}
use Rattle.vol_check.specs.Culls.{is_unwanted}

-- Of so many pages those of a kind were marked by 3, and the others have the mark that they had.
pub record AddsMarks (pages : ℕ) (P : ℕ → Type 0) (was now : List ℕ) : Type 0 where
  pub set : (p : ℕ) → p < pages → P p → slice_index now p ≡ 3
  pub rest : (p : ℕ) → p < pages → P p ⊎ (slice_index now p ≡ slice_index was p)

-- Page p is one of n pages whose numbers stand in an index page from byte `at` on.
pub record IsNamed (index : List ℕ) (at n p : ℕ) : Type 0 where
  pub slot : ℕ
  pub below : slot < n
  pub is : word_at index (at + 2 * slot) ≡ p

-- page p is the header page h, or is named by it for a span of the file
abbrev pub OfHead : Geometry → List ℕ → ℕ → ℕ → Type 0
OfHead g head h p = (p ≡ h) ⊎ IsNamed head (45 + g.meta) (min (head_slots g) (data_pages g (size_of head))) p

-- Page p is further index page k of an id, counted from 0, or is named by it for a span below `spans`.
pub record OfFurther (g : Geometry) (image : List ℕ) (id k spans p : ℕ) : Type 0 where
  pub index : ℕ
  pub at : index_page g (own (live_at g image) id) (k + 1) ≡ Some index
  pub is : (p ≡ index) ⊎ IsNamed (page_of g image index) 8 (min (span_slots g) (spans - (head_slots g + k * span_slots g))) p

-- Page p is one of those that one of the first n numbers gives.
pub record OfFirst (P : ℕ → ℕ → Type 0) (n p : ℕ) : Type 0 where
  pub number : ℕ
  pub below : number < n
  pub of : P number p

-- an id has each of the further index pages that so many spans take
abbrev pub HasFurthers : Geometry → List ℕ → ℕ → ℕ → Type 0
HasFurthers g image id spans = (k : ℕ) → k < ceil (spans - head_slots g) (span_slots g) → is_some (index_page g (own (live_at g image) id) (k + 1)) ≡ true

-- page p is an index page of the file of an id with header page h, or is named by one for a span of the file
abbrev pub OfFile : Geometry → List ℕ → ℕ → ℕ → ℕ → Type 0
OfFile g image id h p =
    let spans = data_pages g (size_of (page_of g image h)) in
    OfHead g (page_of g image h) h p ⊎ OfFirst (λ k q. OfFurther g image id k spans q) (ceil (spans - head_slots g) (span_slots g)) p

-- Page h is the header page of an id that has a file in the table.
pub record IsListed (g : Geometry) (image : List ℕ) (id h : ℕ) : Type 0 where
  pub first : index_page g (own (live_at g image) id) 0 ≡ Some h
  pub in_table : is_some (counted (has_of g (live_at g image)) 0x7FFF (has_of g (live_at g image) id)) ≡ true

-- Page h is the header page of an id that has a file in the table, and page p one of that file.
pub record OfHeaded (g : Geometry) (image : List ℕ) (h p : ℕ) : Type 0 where
  pub id : ℕ
  pub listed : IsListed g image id h
  pub of : OfFile g image id h p

-- Page h is the header page of an id that has a file in the table exactly where it is a header page and its mark is at least so great.
pub record TellsListed (g : Geometry) (image : List ℕ) (least h mark : ℕ) : Type 0 where
  pub listed : (id : ℕ) → headed (live_at g image h) ≡ Some id → least ≤ mark → IsListed g image id h
  pub enough : (id : ℕ) → IsListed g image id h → least ≤ mark

-- each page of the volume has a mark that tells so
abbrev pub MarksListed : Geometry → List ℕ → (least : ℕ) → List ℕ → Type 0
MarksListed g image least marks = (h : ℕ) → h < page_count g → TellsListed g image least h (slice_index marks h)

-- by its mark a page is unwanted exactly where it is live and the mark is 0
abbrev pub TellsUnwanted : Geometry → List ℕ → ℕ → ℕ → Type 0
TellsUnwanted g image p mark = is_unwanted g image p ≡ (is_some (live_at g image p) && (mark == 0))

-- each page of the volume has a mark that tells so
abbrev pub MarksWanted : Geometry → List ℕ → List ℕ → Type 0
MarksWanted g image marks = (p : ℕ) → p < page_count g → TellsUnwanted g image p (slice_index marks p)

-- by its mark a page is wanted exactly where it is live and the mark is 3 or more
abbrev pub TellsWanted : Geometry → List ℕ → ℕ → ℕ → Type 0
TellsWanted g image p mark = is_wanted g image p ≡ (is_some (live_at g image p) && not (nat_lt mark 3))

-- each page of the volume has a mark that tells so
abbrev pub MarksUses : Geometry → List ℕ → List ℕ → Type 0
MarksUses g image marks = (p : ℕ) → p < page_count g → TellsWanted g image p (slice_index marks p)
