-- Where the fields of SPIFFS pages stand, and what they hold. A page is the list of its bytes.
use Rattle.std.specs.Prelude.{◌≡◌, ◌≢◌, ◌⊎◌, ℕ, ◌+◌, ◌-◌, ◌*◌, ◌/◌, ◌%◌, ◌^◌, ◌<◌, ◌≤◌, List, ◌∷◌, ◌++◌, length, replicate, Bool, not, nat_lt, nat_le, ◌==◌}
use Rattle.std.specs.Prelude.{◌&&◌, ◌||◌, Option, Some, None, if◌then◌else◌, slice_index, slice_range}
use Rattle.std.specs.Int.{bit_at}
use Rattle.geometry.specs.declared.geometry.Geometry.{Geometry}
use Rattle.geometry.specs.Numbers.{head_slots, span_slots}
use Rattle.page_layout.specs.declared.flags.Flags.{Flags}
use Rattle.page_layout.specs.declared.header.PageHeader.{PageHeader}
use Rattle.nor_core.specs.Flash.{word_at}
use Rattle.image_model.specs.Headers.{name_of, span_of, obj_id}

-- ---- numbers and places

-- `size` bytes from `from` on and `count` bytes from `at` on have no byte in common
abbrev pub IsApart : ℕ → ℕ → ℕ → ℕ → Type 0
IsApart at count from size = (at + count ≤ from) ⊎ (from + size ≤ at)

-- ---- the page header (SPIFFS page header: obj_id, span_ix, flags)

-- bit k of a byte of flags is set
abbrev pub is_bit_set : ℕ → ℕ → Bool
is_bit_set bits k = bits / 2 ^ k % 2 == 1

-- the byte of flags as a number
abbrev pub bits_of : Flags → ℕ
bits_of flags = flags.bits

-- the whole page header
abbrev pub header_at : List ℕ → PageHeader
header_at page = record {
  id = obj_id page;
  span = span_of page;
  flags = record { bits = slice_index page 4 };
}

-- the header is that of an index page by its id (SPIFFS_OBJ_ID_IX_FLAG)
abbrev pub names_index : PageHeader → Bool
names_index head = not (nat_lt head.id 0x8000)

-- The header says that its page is live, where the page's entry agrees: the id is that of an object, USED and FINAL are
-- cleared and DELET is set, INDEX is cleared exactly where bit 15 of the id is set, and IXDELE is set in a header page.
abbrev pub is_finished : PageHeader → Bool
is_finished head =
    not (head.id % 0x8000 == 0) && not (head.id == 0xFFFF)
    && not (is_bit_set head.flags.bits 0) && not (is_bit_set head.flags.bits 1) && is_bit_set head.flags.bits 7
    && (if names_index head then not (is_bit_set head.flags.bits 2) && (is_bit_set head.flags.bits 6 || not (head.span == 0)) else is_bit_set head.flags.bits 2)

-- bit k is cleared and each other bit is as it was
pub record ClearsBit (k old new : ℕ) : Type 0 where
  pub cleared : bit_at new k ≡ 0
  pub others : (j : ℕ) → j ≢ k → bit_at new j ≡ bit_at old j

-- ---- the header page: the index page of span 0 (object index header)

-- the four bytes of the size as they stand (size)
abbrev pub size_field : List ℕ → ℕ
size_field page = word_at page 8 + 65536 * word_at page 10

-- the object's type: 1 is a file (type)
abbrev pub type_of : List ℕ → ℕ
type_of page = slice_index page 12

-- the 32 bytes of the name (name)
abbrev pub name_field : List ℕ → List ℕ
name_field page = slice_range page 13 45

-- a name with zeros to the end of its field
abbrev pub padded : List ℕ → List ℕ
padded name = name ++ replicate (32 - length name) 0

-- the meta bytes, behind the name (meta)
abbrev pub meta_of : Geometry → List ℕ → List ℕ
meta_of g page = slice_range page 45 (45 + g.meta)

-- ---- page numbers in index pages

-- the byte at which page number `slot` stands: in the header page behind the meta bytes, in a further index page behind its aligned header
abbrev pub slot_place : Geometry → ℕ → ℕ → ℕ
slot_place g span slot = if span == 0 then 45 + g.meta + 2 * slot else 8 + 2 * slot

-- how many page numbers an index page of that span holds
abbrev pub slots_of : Geometry → ℕ → ℕ
slots_of g span = if span == 0 then head_slots g else span_slots g

-- page number `slot` of an index page of that span
abbrev pub page_number : Geometry → List ℕ → ℕ → ℕ → ℕ
page_number g page span slot = word_at page (slot_place g span slot)

-- ---- lookup pages: one array of slots of two bytes at the start of a block (object lookup)

-- the erase count that its slot tells: 0x8000 and more, as in an erased slot, count as 0
abbrev pub count_in : ℕ → ℕ
count_in raw = if nat_lt raw 0x8000 then raw else 0

-- a number lies between two, which count too
abbrev pub is_between : ℕ → ℕ → ℕ → Bool
is_between low high n = nat_le low n && nat_le n high

-- where a search for a slot ended: at the slot that it found, or at its end
abbrev pub end_of : ℕ → Option (ℕ × ℕ) → ℕ
end_of to None = to
end_of to (Some (i, n)) = i

-- ---- the header page of a new file

-- Its bytes in a page of `size` bytes: index flags of a page that is used and not finished, undefined size, type 1,
-- the name, and 0xFF in all else, so that it names no data page.
abbrev pub new_header_page : ℕ → ℕ → List ℕ → List ℕ
new_header_page size id name =
    id % 256 ∷ (id / 256 + 128) ∷ 0 ∷ 0 ∷ 0xFA ∷ (replicate 7 0xFF ++ (1 ∷ (padded name ++ replicate (size - 45) 0xFF)))

-- the fields of the header page of a new file: all meta bytes and page numbers are erased
pub record IsNewHeader (g : Geometry) (id : ℕ) (name page : List ℕ) : Type 0 where
  pub obj_id : obj_id page ≡ id + 0x8000
  pub span : span_of page ≡ 0
  pub flags : slice_index page 4 ≡ 0xFA
  pub size_field : size_field page ≡ 0xFFFFFFFF
  pub kind : type_of page ≡ 1
  pub named : name_of page ≡ Some name
  pub meta : meta_of g page ≡ replicate g.meta 0xFF
  pub slots : (slot : ℕ) → slot < slots_of g 0 → page_number g page 0 slot ≡ 0xFFFF
