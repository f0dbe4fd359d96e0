-- Pages on their way from one place to another.
use Rattle.std.specs.Prelude.{◌≡◌, ◌≢◌, ℕ, ◌%◌, ◌⊎◌, List, [], ◌∷◌, true, false, Some, All, Contains}
use Rattle.geometry.specs.declared.geometry.Geometry.{Geometry}
use Rattle.image_model.specs.Places.{IsImage, has_magic, is_entry_page}
use Rattle.image_model.specs.Live.{live_at}
use Rattle.image_model.specs.Tables.{table_of}
use Rattle.image_model.specs.Headers.{obj_id, span_of, names_index}
use Rattle.image_model.specs.Tidy.{IsTidy, is_free_entry}
use Rattle.image_laws.specs.LiveSteps.{PutLeaves, PutDone, KillLeaves, KillDone}
use Rattle.image_laws.specs.Reindex.{slot_word}
use Rattle.image_model.specs.Files.{index_span}
use Rattle.room_laws.specs.Sorts.{Sort, Deleted, Free, sort_at}
use Rattle.room_laws.specs.Tags.{SameTag}
use Rattle.room_laws.specs.Staged.{IsStaged}

-- a page goes from a place to another
pub record Move : Type 0 where
  pub from : ℕ
  pub to : ℕ

-- The live page x of an image at a place is the copy that came with a move.
pub record HasCome (g : Geometry) (was : List ℕ) (moves : List Move) (p : ℕ) (x : List ℕ) : Type 0 where
  pub move : Move
  pub one : Contains moves move
  pub at : move.to ≡ p
  pub old : List ℕ
  pub from : live_at g was move.from ≡ Some old
  pub tag : SameTag old x

-- A move begins at a live page and leads to a free entry.
pub record IsMove (g : Geometry) (was : List ℕ) (move : Move) : Type 0 where
  pub page : List ℕ
  pub live : live_at g was move.from ≡ Some page
  pub entry : is_entry_page g move.to ≡ true
  pub free : is_free_entry g was move.to ≡ true

-- They begin at different pages and lead to different ones.
pub record AreApart (a b : Move) : Type 0 where
  pub from : a.from ≢ b.from
  pub to : a.to ≢ b.to

-- All of them are moves, each apart from those before it, which stand behind it.
unfoldable pub AreMoves : Geometry → List ℕ → List Move → Type 0
AreMoves g was [] = Unit {0}
AreMoves g was (move ∷ moves) = IsMove g was move × All (AreApart move) moves × AreMoves g was moves

-- no move leads to the page
abbrev pub IsNoPlace : List Move → ℕ → Type 0
IsNoPlace moves p = All (λ (move : Move). p ≢ move.to) moves

-- Pages are on their way: every live page is one of the first image or a copy at its place, and no other entry is free that
-- wasn't, or used that wasn't.
pub record OnWay (g : Geometry) (moves : List Move) (was image : List ℕ) : Type 0 where
  pub image_is : IsImage g image
  pub magic : (block : ℕ) → has_magic g image block ≡ has_magic g was block
  pub live : (p : ℕ) (x : List ℕ) → live_at g image p ≡ Some x → (live_at g was p ≡ Some x) ⊎ HasCome g was moves p x
  pub free : (p : ℕ) → is_entry_page g p ≡ true → IsNoPlace moves p → is_free_entry g image p ≡ is_free_entry g was p

-- At first none is.
abbrev pub WayNone : Geometry → Type 0
WayNone g = (was : List ℕ) → IsImage g was → OnWay g [] was was

-- A copy is put at a place, done or cut off.
abbrev pub WayPut : Geometry → Type 0
WayPut g = (moves : List Move) (was image cut : List ℕ) (move : Move) (old copy : List ℕ) → OnWay g moves was image → PutLeaves g move.to copy image cut →
    live_at g was move.from ≡ Some old → SameTag old copy → OnWay g (move ∷ moves) was cut

-- A page of the first image is killed, done or cut off.
abbrev pub WayKill : Geometry → Type 0
WayKill g = (moves : List Move) (was image cut : List ℕ) (p : ℕ) (old : List ℕ) → OnWay g moves was image → KillLeaves g p image cut →
    live_at g was p ≡ Some old → OnWay g moves was cut

-- What is done is also what a cut may leave.
abbrev pub DoneLeaves : Geometry → Type 0
DoneLeaves g = (a b : List ℕ) (p : ℕ) (page : List ℕ) → (PutDone g p page a b → PutLeaves g p page a b) × (KillDone g p a b → KillLeaves g p a b)

-- The page has come.
abbrev pub Came : (was now : ℕ → Sort) → Move → Type 0
Came was now move = (now move.from ≡ Deleted) × (now move.to ≡ was move.from)

-- It stayed, and its place is spoiled or as it was.
abbrev pub Stayed : (was now : ℕ → Sort) → Move → Type 0
Stayed was now move = (now move.from ≡ was move.from) × ((now move.to ≡ Deleted) ⊎ (now move.to ≡ Free))

-- how a move ends
abbrev pub Ends : (was now : ℕ → Sort) → Move → Type 0
Ends was now move = Came was now move ⊎ Stayed was now move

-- no move begins at the page or leads to it
abbrev pub IsAside : List Move → ℕ → Type 0
IsAside moves p = All (λ (move : Move). (p ≢ move.from) × (p ≢ move.to)) moves

-- Every move has ended, and all other entries count as they did.
pub record Resolves (g : Geometry) (moves : List Move) (was now : ℕ → Sort) : Type 0 where
  pub each : All (Ends was now) moves
  pub others : (p : ℕ) → is_entry_page g p ≡ true → IsAside moves p → now p ≡ was p

-- Of an image with pages on their way, the stages of a check leave each at one of its two places.
abbrev pub WayResolves : Geometry → Type 0
WayResolves g = (moves : List Move) (was image now : List ℕ) → IsImage g was → IsTidy g was → AreMoves g was moves → OnWay g moves was image →
    table_of g image ≡ table_of g was →
    IsImage g now → IsStaged g image now → Resolves g moves (sort_at g was) (sort_at g now)

-- The data page of a move is named by an index page.
pub record IsNamedBy (g : Geometry) (was : List ℕ) (index : List ℕ) (move : Move) : Type 0 where
  pub page : List ℕ
  pub live : live_at g was move.from ≡ Some page
  pub kind : names_index page ≡ false
  pub id : obj_id index % 0x8000 ≡ obj_id page % 0x8000
  pub span : span_of index ≡ index_span g (span_of page)

-- Once the index page of a batch is renewed it names the place of a move.
abbrev pub IsRenamed : Geometry → (was image : List ℕ) (to : ℕ) → Move → Type 0
IsRenamed g was image to move = (page copy : List ℕ) → live_at g was move.from ≡ Some page → live_at g image to ≡ Some copy →
    slot_word g copy (span_of page) ≡ move.to

-- A batch: an index page that names the data pages of some moves, and is renewed.
pub record IsBatch (g : Geometry) (was image : List ℕ) (index : Move) (moves : List Move) : Type 0 where
  pub page : List ℕ
  pub live : live_at g was index.from ≡ Some page
  pub kind : names_index page ≡ true
  pub named : All (IsNamedBy g was page) moves
  pub renamed : All (IsRenamed g was image index.to) moves

-- All moves of a batch end alike.
abbrev pub BatchResolves : Geometry → Type 0
BatchResolves g = (index : Move) (moves : List Move) (was image now : List ℕ) → IsImage g was → IsTidy g was → AreMoves g was (index ∷ moves) →
    OnWay g (index ∷ moves) was image →
    table_of g image ≡ table_of g was → IsBatch g was image index moves → IsImage g now → IsStaged g image now →
    All (Came (sort_at g was) (sort_at g now)) (index ∷ moves) ⊎ All (Stayed (sort_at g was) (sort_at g now)) (index ∷ moves)

-- Until its index page is put they all stay.
abbrev pub BatchStays : Geometry → Type 0
BatchStays g = (at : ℕ) (page : List ℕ) (moves : List Move) (was image now : List ℕ) → IsImage g was → IsTidy g was → AreMoves g was moves →
    OnWay g moves was image →
    table_of g image ≡ table_of g was → live_at g was at ≡ Some page → names_index page ≡ true → All (IsNamedBy g was page) moves →
    IsImage g now → IsStaged g image now →
    All (Stayed (sort_at g was) (sort_at g now)) moves
