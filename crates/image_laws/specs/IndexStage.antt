-- The kills of the check's index stage.
use Rattle.std.specs.Prelude.{◌≡◌, ◌≢◌, ℕ, ◌+◌, ◌*◌, ◌%◌, List, [], ◌∷◌, true, Some, None, Result, slice_index}
use Rattle.geometry.specs.declared.geometry.Geometry.{Geometry}
use Rattle.image_model.specs.declared.damage.Damage.{Damage}
use Rattle.nor_core.specs.Flash.{HalfProgrammed}
use Rattle.image_model.specs.Live.{live_at, Live, own}
use Rattle.image_model.specs.Headers.{obj_id, span_of, names_index}
use Rattle.image_model.specs.Files.{index_page, is_index}
use Rattle.image_model.specs.Tables.{has_of, counted}
use Rattle.table_model.specs.Table.{File}
use Rattle.image_model.specs.Tidy.{is_wanted}
use Rattle.image_model.specs.Places.{IsImage}
use Rattle.image_laws.specs.Programs.{IsIdle, ClearsBit}
use Rattle.image_model.specs.Sound.{HasMagics, Keeps}

-- Killing a live index page that is not the first of its id and span, of a whole or a damaged id.
abbrev pub DoubledKeeps : Geometry → Type 0
DoubledKeeps g = (a b : List ℕ) (p flags : ℕ) (page : List ℕ) → IsImage g a → HasMagics g a → live_at g a p ≡ Some page → names_index page ≡ true →
    index_page g (own (live_at g a) (obj_id page % 0x8000)) (span_of page) ≢ Some p → ClearsBit 7 (slice_index a (p * g.page + 4)) flags →
    HalfProgrammed (p * g.page + 4) (flags ∷ []) a b →
    Keeps g a b × ((q : ℕ) → q ≢ p → is_wanted g b q ≡ is_wanted g a q)

-- Killing the one header page that an id has which is not in the table: the id is no longer damaged, and all else stays.
abbrev pub DamagedHeadKeeps : Geometry → Type 0
DamagedHeadKeeps g = (a b : List ℕ) (p flags id : ℕ) (r : Result File Damage) → IsImage g a → HasMagics g a → has_of g (live_at g a) id ≡ Some (p, r) →
    counted (has_of g (live_at g a)) 0x7FFF (has_of g (live_at g a) id) ≡ None → ((q : ℕ) → is_index (own (live_at g a) id q) 0 ≡ true → q ≡ p) →
    ClearsBit 7 (slice_index a (p * g.page + 4)) flags → HalfProgrammed (p * g.page + 4) (flags ∷ []) a b →
    Keeps g a b × ((q : ℕ) → q ≢ p → is_wanted g b q ≡ is_wanted g a q)

-- Every page of an id without a header page is idle.
abbrev pub HeadlessIsIdle : Geometry → Type 0
HeadlessIsIdle g = (pages : Live) (p : ℕ) → index_page g pages 0 ≡ None → IsIdle g pages p

-- Killing an idle page of an id that is not in the table leaves the other pages as wanted as they were.
abbrev pub UncountedLeaves : Geometry → Type 0
UncountedLeaves g = (a b : List ℕ) (p flags : ℕ) (page : List ℕ) → IsImage g a → live_at g a p ≡ Some page →
    IsIdle g (own (live_at g a) (obj_id page % 0x8000)) p →
    counted (has_of g (live_at g a)) 0x7FFF (has_of g (live_at g a) (obj_id page % 0x8000)) ≡ None → ClearsBit 7 (slice_index a (p * g.page + 4)) flags →
    HalfProgrammed (p * g.page + 4) (flags ∷ []) a b → (q : ℕ) → q ≢ p → is_wanted g b q ≡ is_wanted g a q
