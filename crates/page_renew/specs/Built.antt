-- The copies that stand in the bytes for work.
use Rattle.std.specs.Prelude.{◌≡◌, ℕ, ◌+◌, ◌*◌, ◌%◌, ◌<◌, List, take, true, Some, slice_index}
use Rattle.geometry.specs.declared.geometry.Geometry.{Geometry}
use Rattle.table_model.specs.declared.error.Tag.{Tag}
use Rattle.image_model.specs.Headers.{obj_id, span_of, names_index}
use Rattle.image_model.specs.Live.{live_at}
use Rattle.page_renew.specs.Copies.{IsCopyIn}
use Rattle.image_model.specs.Places.{page_of}
use Rattle.image_model.specs.Files.{slot_at}
use Rattle.image_laws.specs.Reindex.{slot_word}
use Rattle.nor_core.specs.Flash.{SameOutside}

-- The first bytes are the copy of this live index page, with its id and span; they and the page's flags are bytes.
pub record IsBuilt (g : Geometry) (image : List ℕ) (page : ℕ) (tag : Tag) (work : List ℕ) : Type 0 where
  pub old : List ℕ
  pub live : live_at g image page ≡ Some old
  pub index : names_index old ≡ true
  pub copied : IsCopyIn g image old (take g.page work)
  pub id : tag.id ≡ obj_id old % 0x8000
  pub span : tag.span ≡ span_of old
  pub small : (k : ℕ) → k < g.page → slice_index work k < 256
  pub flags : slice_index image (page * g.page + 4) < 256

-- The first bytes are those of this live page, and they and the page's flags are bytes.
pub record IsLoaded (g : Geometry) (image : List ℕ) (page : ℕ) (work : List ℕ) : Type 0 where
  pub same : take g.page work ≡ page_of g image page
  pub small : (k : ℕ) → k < g.page → slice_index work k < 256
  pub flags : slice_index image (page * g.page + 4) < 256

-- The first bytes are a copy of the live index page `index`, in which alone the entry of a data span is another: it names `to`.
pub record IsRenamed (g : Geometry) (image : List ℕ) (index span to : ℕ) (work : List ℕ) : Type 0 where
  pub tag : Tag
  pub plain : List ℕ
  pub built : IsBuilt g image index tag plain
  pub entry : slot_word g (take g.page work) span ≡ to
  pub others : SameOutside (slot_at g span) 2 (take g.page plain) (take g.page work)
  pub small : (k : ℕ) → k < g.page → slice_index work k < 256

-- Of an index page the entry of a data span names `to` in the second, and all else is the same; that one holds bytes.
pub record IsNamed (g : Geometry) (span to : ℕ) (was now : List ℕ) : Type 0 where
  pub entry : slot_word g now span ≡ to
  pub others : SameOutside (slot_at g span) 2 was now
  pub small : (k : ℕ) → slice_index now k < 256
