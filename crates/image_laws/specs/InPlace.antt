-- An entry past the page count is programmed in place.
use Rattle.std.specs.Prelude.{◌≡◌, ℕ, ◌+◌, ◌*◌, ◌≤◌, List, length, Bool, true, Some}
use Rattle.geometry.specs.declared.geometry.Geometry.{Geometry}
use Rattle.nor_core.specs.Flash.{HalfProgrammed}
use Rattle.table_model.specs.Room.{data_pages}
use Rattle.image_model.specs.Live.{live_at, own}
use Rattle.image_model.specs.Headers.{span_of, names_index, size_of}
use Rattle.image_model.specs.Files.{index_page, slot_at, index_span}
use Rattle.image_model.specs.Places.{IsImage}
use Rattle.image_model.specs.Sound.{HasMagics, Keeps}
use Rattle.image_model.specs.Tables.{table_of}
use Rattle.image_laws.specs.TidySteps.{IsTidyBut}

-- Programming that entry in a live index page, of a span at or past the page count, done or cut off, keeps the image.
abbrev pub EntryInPlaceKeeps : Geometry → Type 0
EntryInPlaceKeeps g = (a b : List ℕ) (p h t id : ℕ) (asked x head : List ℕ) → IsImage g a → HasMagics g a →
    own (live_at g a) id p ≡ Some x → names_index x ≡ true →
    index_page g (own (live_at g a) id) 0 ≡ Some h → own (live_at g a) id h ≡ Some head → data_pages g (size_of head) ≤ t →
    index_span g t ≡ span_of x → length asked ≡ 2 →
    HalfProgrammed (p * g.page + slot_at g t) asked a b → Keeps g a b

-- It leaves the image tidy but for what was spare, with its table.
abbrev pub EntryInPlaceTidies : Geometry → Type 0
EntryInPlaceTidies g = (a b : List ℕ) (p h t id : ℕ) (asked x head : List ℕ) (spare : ℕ → Bool) → IsImage g a → IsTidyBut g a spare →
    own (live_at g a) id p ≡ Some x → names_index x ≡ true →
    index_page g (own (live_at g a) id) 0 ≡ Some h → own (live_at g a) id h ≡ Some head → data_pages g (size_of head) ≤ t →
    index_span g t ≡ span_of x → length asked ≡ 2 →
    HalfProgrammed (p * g.page + slot_at g t) asked a b → IsTidyBut g b spare × (table_of g b ≡ table_of g a)
