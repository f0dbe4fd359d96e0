-- What each page of an image is.
use Rattle.std.specs.Prelude.{ℕ, ◌*◌, ◌%◌, List, not, ◌==◌, Option, Some, None, if◌then◌else◌, codes}
use Rattle.geometry.specs.declared.geometry.Geometry.{Geometry}
use Rattle.image_model.specs.Places.{is_entry_page, entry_of}
use Rattle.image_model.specs.Live.{live_at}
use Rattle.image_model.specs.Tidy.{is_free_entry}
use Rattle.page_layout.specs.Layout.{header_at, names_index}
use Rattle.image_picture.specs.declared.signs.Sign.{Sign}
use Rattle.image_picture.specs.declared.signs.Sign.TheVariants.{Lookup, Free, Deleted, Live, Neither}

-- a page that is live, or neither of the kinds
abbrev pub sign_of_live : Option (List ℕ) → Sign
sign_of_live None = Neither
sign_of_live (Some page) = Live (header_at page)

-- What a page is: a lookup page; a page with a free entry, which is erased; one whose entry says that it was deleted; a
-- live page; or none of these, as a page that is half written, one whose entry and header don't agree, and one in a
-- block that lacks its magic.
unfoldable pub sign_at : Geometry → List ℕ → ℕ → Sign
sign_at g image p =
    if not (is_entry_page g p) then Lookup
    else if is_free_entry g image p then Free
    else if entry_of g image p == 0 then Deleted
    else sign_of_live (live_at g image p)

-- the letter of a page: of a live one whether it is a header page, a further index page or a data page
abbrev pub letter_of : Sign → List ℕ
letter_of Lookup = codes "L"
letter_of Free = codes "."
letter_of Deleted = codes "x"
letter_of (Live head) = if not (names_index head) then codes "d" else if head.span == 0 then codes "H" else codes "i"
letter_of Neither = codes "?"

-- the same as a word
abbrev pub word_of : Sign → List ℕ
word_of Lookup = codes "lookup"
word_of Free = codes "free"
word_of Deleted = codes "deleted"
word_of (Live head) = if not (names_index head) then codes "data" else if head.span == 0 then codes "header" else codes "index"
word_of Neither = codes "neither"

-- The hue of an id's colour, in degrees: 360 ids that follow each other have different ones, and neighbours far ones.
unfoldable pub hue_of : ℕ → ℕ
hue_of id = id * 137 % 360
