-- Pages by their tags: kind, id and span.
use Rattle.std.specs.Prelude.{◌≡◌, ℕ, ◌%◌, List, true, false, Some}
use Rattle.geometry.specs.declared.geometry.Geometry.{Geometry}
use Rattle.image_model.specs.Headers.{obj_id, span_of, names_index}
use Rattle.image_model.specs.Places.{IsImage}
use Rattle.image_model.specs.Live.{live_at}
use Rattle.image_model.specs.Tables.{table_of}
use Rattle.image_model.specs.Tidy.{IsTidy}
use Rattle.image_laws.specs.Reindex.{slot_word}
use Rattle.image_model.specs.Files.{index_span}

-- Two pages have the same kind, id and span.
pub record SameTag (x y : List ℕ) : Type 0 where
  pub kind : names_index y ≡ names_index x
  pub id : obj_id y % 0x8000 ≡ obj_id x % 0x8000
  pub span : span_of y ≡ span_of x

-- In a tidy image two live pages with one tag are one.
abbrev pub TagsAreOnce : Geometry → Type 0
TagsAreOnce g = (a : List ℕ) (p q : ℕ) (x y : List ℕ) → IsImage g a → IsTidy g a → live_at g a p ≡ Some x → live_at g a q ≡ Some y → SameTag x y → p ≡ q

-- Of two tidy images with one table each live page of the one has its tag in the other.
abbrev pub TagsAreKept : Geometry → Type 0
TagsAreKept g = (a b : List ℕ) (p : ℕ) (x : List ℕ) → IsImage g a → IsImage g b → IsTidy g a → IsTidy g b → table_of g b ≡ table_of g a →
    live_at g a p ≡ Some x →
    (q : ℕ) × (y : List ℕ) × (live_at g b q ≡ Some y) × SameTag x y

-- In a tidy image the index page of a data page's span names it.
abbrev pub TagsAreNamed : Geometry → Type 0
TagsAreNamed g = (a : List ℕ) (p w : ℕ) (x y : List ℕ) → IsImage g a → IsTidy g a → live_at g a p ≡ Some x → names_index x ≡ false →
    live_at g a w ≡ Some y → names_index y ≡ true →
    obj_id y % 0x8000 ≡ obj_id x % 0x8000 → span_of y ≡ index_span g (span_of x) → slot_word g y (span_of x) ≡ p
