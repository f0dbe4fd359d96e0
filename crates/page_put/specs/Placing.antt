-- The bytes of a page that is placed, and the image after each of its programs.
use Rattle.std.specs.Prelude.{◌≡◌, ℕ, ◌+◌, ◌*◌, ◌/◌, ◌%◌, ◌⊎◌, List, [], ◌∷◌, ◌++◌, take, drop, slice_index, slice_range}
use Rattle.geometry.specs.declared.geometry.Geometry.{Geometry}
use Rattle.table_model.specs.declared.error.Tag.{Tag}
use Rattle.flash_view.specs.declared.kinds.Kind.{Kind}
use Rattle.flash_view.specs.declared.kinds.Kind.TheVariants.{Index, Data}
use Rattle.nor_core.specs.Flash.{programmed, HalfProgrammed}
use Rattle.image_model.specs.Places.{entry_at}
use Rattle.image_laws.specs.Flash.{Programmed}
use Rattle.image_laws.specs.Creating.{Placed}
use Rattle.image_laws.specs.Put.{PlacingCut}

-- the object id of a page of a kind: bit 15 is set in index pages (SPIFFS page header)
abbrev pub placed_id : Kind → ℕ → ℕ
placed_id Index id = id + 0x8000
placed_id Data id = id

-- the flags of a page that is placed: USED is cleared, FINAL is not, and INDEX is cleared in index pages (SPIFFS page header)
abbrev pub placed_flags : Kind → ℕ
placed_flags Index = 0xFA
placed_flags Data = 0xFE

-- the flags of a page that is finished: FINAL is cleared too
abbrev pub finished_flags : Kind → ℕ
finished_flags Index = 0xF8
finished_flags Data = 0xFC

-- the header of a page that is placed
abbrev pub placed_header : Kind → Tag → List ℕ
placed_header kind tag =
    placed_id kind tag.id % 256 ∷ placed_id kind tag.id / 256 ∷ tag.span % 256 ∷ tag.span / 256 ∷ placed_flags kind ∷ []

-- the bytes of a page that is placed: its header, and behind it what was built
abbrev pub placed_page : Geometry → Kind → Tag → List ℕ → List ℕ
placed_page g kind tag built = placed_header kind tag ++ slice_range built 5 g.page

-- the image after the first program of a page with these bytes, that of its entry
abbrev pub with_entry : Geometry → ℕ → List ℕ → List ℕ → List ℕ
with_entry g p page image = programmed image (entry_at g p) (take 2 page)

-- after the second, that of its header
abbrev pub with_header : Geometry → ℕ → List ℕ → List ℕ → List ℕ
with_header g p page image = programmed (with_entry g p page image) (p * g.page) (take 5 page)

-- after the third, that of all behind the header
abbrev pub with_page : Geometry → ℕ → List ℕ → List ℕ → List ℕ
with_page g p page image = programmed (with_header g p page image) (p * g.page + 5) (drop 5 page)

-- after the fourth, that clears FINAL
abbrev pub put_by : Geometry → ℕ → List ℕ → List ℕ → List ℕ
put_by g p page image = programmed (with_page g p page image) (p * g.page + 4) (0xFD ∷ [])

-- what one of the first three programs leaves, interrupted or done
abbrev pub IsPlacing : Geometry → ℕ → List ℕ → List ℕ → List ℕ → Type 0
IsPlacing g p page was image = PlacingCut g p page was (with_entry g p page was) (with_header g p page was) image

-- what one of the four leaves
abbrev pub IsPutting : Geometry → ℕ → List ℕ → List ℕ → List ℕ → Type 0
IsPutting g p page was image = IsPlacing g p page was image ⊎ HalfProgrammed (p * g.page + 4) (0xFD ∷ []) (with_page g p page was) image

-- The images after the programs of a page are those of which the laws of a put speak.
abbrev pub ProgramsPlace : Geometry → Type 0
ProgramsPlace g = (p : ℕ) (page image : List ℕ) → Placed g p page image (with_entry g p page image) (with_header g p page image) (with_page g p page image)

-- Over the flags of a page that is placed, a program of 0xFD clears FINAL alone: interrupted and done it is one of the finished flags.
abbrev pub FinishClearsFinal : Type 0
FinishClearsFinal = (kind : Kind) (at : ℕ) (image : List ℕ) → slice_index image at ≡ placed_flags kind →
    ((cut : List ℕ) → HalfProgrammed at (0xFD ∷ []) image cut → HalfProgrammed at (finished_flags kind ∷ []) image cut)
    × Programmed at (finished_flags kind ∷ []) image (programmed image at (0xFD ∷ []))
