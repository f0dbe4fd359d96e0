-- The fields of a page, read from its bytes alone.
use Rattle.std.specs.Prelude.{ℕ, ◌+◌, ◌*◌, ◌/◌, ◌%◌, ◌^◌, List, Bool, not, nat_lt, ◌==◌, ◌&&◌, ◌||◌, Option, Some, None, if◌then◌else◌, position, take}
use Rattle.std.specs.Prelude.{option_and_then, slice_index, slice_range}
use Rattle.nor_core.specs.Flash.{word_at}

-- the object id, with bit 15 set in index pages (SPIFFS page header)
abbrev pub obj_id : List ℕ → ℕ
obj_id page = word_at page 0

-- the span index: which of the pages of its kind of its file the page is (SPIFFS page header)
abbrev pub span_of : List ℕ → ℕ
span_of page = word_at page 2

-- a bit of the flags, of which 0 is USED, 1 FINAL, 2 INDEX, 6 IXDELE and 7 DELET; a cleared one says so (SPIFFS page header)
abbrev pub is_flag_set : List ℕ → ℕ → Bool
is_flag_set page k = slice_index page 4 / 2 ^ k % 2 == 1

-- the page is an index page by its object id
abbrev pub names_index : List ℕ → Bool
names_index page = not (nat_lt (obj_id page) 0x8000)

-- The page says itself that it is live: it has an object's id, USED and FINAL are cleared and DELET is set, INDEX is
-- cleared exactly in an index page, and IXDELE is set in a header page (SPIFFS page header).
unfoldable pub is_finished : List ℕ → Bool
is_finished page =
    not (obj_id page % 0x8000 == 0) && not (obj_id page == 0xFFFF)
    && not (is_flag_set page 0) && not (is_flag_set page 1) && is_flag_set page 7
    && (if names_index page then not (is_flag_set page 2) && (is_flag_set page 6 || not (span_of page == 0)) else is_flag_set page 2)

-- the size of the file with this header page, where 0xFFFFFFFF is undefined and reads as 0 (SPIFFS object index header)
abbrev pub size_of : List ℕ → ℕ
size_of page =
    let size = word_at page 8 + 65536 * word_at page 10 in
    if size == 0xFFFFFFFF then 0 else size

-- the name in a header page: its 32 bytes up to the first zero, which is there and isn't the first byte (SPIFFS object index header)
abbrev pub name_of : List ℕ → Option (List ℕ)
name_of page =
    let field = slice_range page 13 45 in
    option_and_then (λ n. if n == 0 then None else Some (take n field)) (position (λ b. b == 0) field)
