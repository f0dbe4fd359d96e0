-- A batch of data pages that goes out of a block: what holds once some of them were carried, and while the old pages are killed.
use Rattle.std.specs.Prelude.{◌≡◌, ◌≢◌, ℕ, ◌+◌, ◌*◌, ◌%◌, ◌<◌, ◌≤◌, ◌⊎◌, List, [], ◌∷◌, ◌++◌, length, map, reverse, Bool, true, false, ◌==◌, ◌||◌, Option, Some}
use Rattle.std.specs.Prelude.{None, Ok, All, slice_index, slice_range, take, nat_lt, if◌then◌else◌}
use Rattle.geometry.specs.declared.geometry.Geometry.{Geometry}
use Rattle.table_model.specs.Table.{File}
use Rattle.table_model.specs.declared.error.Tag.{Tag}
use Rattle.image_model.specs.Places.{IsImage, block_of}
use Rattle.image_model.specs.Headers.{obj_id, span_of, names_index}
use Rattle.image_model.specs.Live.{live_at, own}
use Rattle.image_model.specs.Files.{is_index, index_page, entry_number, judged, index_span}
use Rattle.image_model.specs.Kinds.{is_index_block, is_data_block}
use Rattle.image_model.specs.Sound.{Keeps}
use Rattle.image_model.specs.Shared.{SameCounts}
use Rattle.image_laws.specs.NewFile.{IsFreePage}
use Rattle.image_laws.specs.TidySteps.{IsTidyBut}
use Rattle.renew_laws.specs.Idles.{Idles}
use Rattle.renew_laws.specs.Tails.{KeepsTails}
use Rattle.room_laws.specs.Counts.{for_index, for_data}
use Rattle.room_laws.specs.Sorts.{sort_at, IsPlaceBy}
use Rattle.room_laws.specs.Ways.{Move, AreMoves, OnWay, IsBatch}
use Rattle.room_laws.specs.Recovery.{with_data, ArePagesWay}
use Rattle.room_laws.specs.Batching.{IsCarrying}
use Rattle.flash_view.specs.Places.{IsEntryPage}
use Rattle.flash_view.specs.Steps.{Step}
use Rattle.page_renew.specs.Built.{IsBuilt, IsNamed}
use Rattle.block_gc.specs.Turns.{CanEmpty, TurnCut, TurnDone, CanMoveBatch}
use Rattle.block_gc.specs.declared.batch.Batch.{Batch}
use Rattle.block_gc.specs.declared.batch.Run.{Run}

-- a data page of which a copy was put: the page, its copy, and the span of both
pub record Carried : Type 0 where
  pub from : ℕ
  pub to : ℕ
  pub span : ℕ

-- ---- lists of pages that were carried, the last one in front

-- one as a move, and all of them
abbrev pub move_of : Carried → Move
move_of c = record { from = c.from; to = c.to }

abbrev pub moves_of : List Carried → List Move
moves_of cs = map move_of cs

-- one of them was carried from a page, or to it
abbrev pub are_from : List Carried → ℕ → Bool
are_from [] r = false
are_from (c ∷ cs) r = are_from cs r || (r == c.from)

abbrev pub are_to : List Carried → ℕ → Bool
are_to [] r = false
are_to (c ∷ cs) r = are_to cs r || (r == c.to)

-- each was carried from a page behind those of all others after it in the list
unfoldable pub IsFalling : List Carried → Type 0
IsFalling [] = Unit {0}
IsFalling (c ∷ cs) = All (λ (d : Carried). d.from < c.from) cs × IsFalling cs

-- those of such a list that were carried from pages before page n
unfoldable pub below : (n : ℕ) → List Carried → List Carried
below n [] = []
below n (c ∷ cs) = if nat_lt c.from n then c ∷ cs else below n cs

-- ---- the batch

-- the tag tells the id and the span of the live page
pub record IsTagOf (g : Geometry) (image : List ℕ) (page : ℕ) (tag : Tag) : Type 0 where
  pub bytes : List ℕ
  pub is_live : live_at g image page ≡ Some bytes
  pub id : tag.id ≡ obj_id bytes
  pub span : tag.span ≡ span_of bytes

-- Page `index` is the index page with the entry of the data page that has this tag.
pub record IsNamedBy (g : Geometry) (image : List ℕ) (page index : ℕ) (tag : Tag) : Type 0 where
  pub of : IsTagOf g image page tag
  pub first : index_page g (own (live_at g image) tag.id) (index_span g tag.span) ≡ Some index

-- that index page and that tag are found
abbrev pub IsFoundFor : Geometry → (image : List ℕ) (page : ℕ) → Option (ℕ × Tag) → Type 0
IsFoundFor g image page None = ⊥
IsFoundFor g image page (Some (index, tag)) = IsNamedBy g image page index tag

-- a data page with the id, the span and the file bytes of another
pub record IsDataCopy (g : Geometry) (old new : List ℕ) : Type 0 where
  pub data_kind : names_index new ≡ false
  pub id : obj_id new ≡ obj_id old
  pub span : span_of new ≡ span_of old
  pub body : slice_range new 5 g.page ≡ slice_range old 5 g.page

-- Its index page is the live index page of its id and span.
pub record IsIndexOf (g : Geometry) (image : List ℕ) (batch : Batch) : Type 0 where
  pub page : List ℕ
  pub live : live_at g image batch.index ≡ Some page
  pub kind : names_index page ≡ true
  pub id : obj_id page % 0x8000 ≡ batch.id
  pub span : span_of page ≡ batch.span
  pub first : index_page g (own (live_at g image) batch.id) batch.span ≡ Some batch.index

-- Page q is a live data page that this index page names, of that span.
pub record IsOfBatch (g : Geometry) (image : List ℕ) (batch : Batch) (q span : ℕ) : Type 0 where
  pub page : List ℕ
  pub live : live_at g image q ≡ Some page
  pub kind : names_index page ≡ false
  pub id : obj_id page % 0x8000 ≡ batch.id
  pub is_span : span_of page ≡ span
  pub at : index_span g span ≡ batch.span

-- it is one of that span, or none
abbrev pub IsSpanOf : Geometry → (image : List ℕ) → Batch → (q : ℕ) → Option ℕ → Type 0
IsSpanOf g image batch q None = (span : ℕ) → IsOfBatch g image batch q span → ⊥
IsSpanOf g image batch q (Some span) = IsOfBatch g image batch q span

-- A page of the batch was carried: its copy stands at its place.
pub record IsCarried (g : Geometry) (was image : List ℕ) (batch : Batch) (c : Carried) : Type 0 where
  pub of : IsOfBatch g was batch c.from c.span
  pub copy : List ℕ
  pub copied : IsDataCopy g of.page copy
  pub there : live_at g image c.to ≡ Some copy
  pub flags : slice_index image (c.from * g.page + 4) < 256

-- The file of an id is as it was, with live pages beside that no index page names.
pub record StandsBeside (g : Geometry) (was image : List ℕ) (id : ℕ) : Type 0 where
  pub h : ℕ
  pub head : List ℕ
  pub f : File
  pub was_at : index_page g (own (live_at g was) id) 0 ≡ Some h
  pub was_header : own (live_at g was) id h ≡ Some head
  pub at : index_page g (own (live_at g image) id) 0 ≡ Some h
  pub header : own (live_at g image) id h ≡ Some head
  pub file : judged g (own (live_at g image) id) id head ≡ Ok f
  pub index : (k : ℕ) → index_page g (own (live_at g image) id) k ≡ index_page g (own (live_at g was) id) k
  pub entry : (t : ℕ) → entry_number g (own (live_at g image) id) head t ≡ entry_number g (own (live_at g was) id) head t
  pub alone : (r j : ℕ) → is_index (own (live_at g image) id r) j ≡ true → is_index (own (live_at g was) id r) j ≡ true
  pub stays : (r : ℕ) (x : List ℕ) → live_at g was r ≡ Some x → live_at g image r ≡ Some x

-- ---- what is carried

-- Copies of some data pages of a batch were put since an image, at most so many, and nothing else changed. Tails that were ready are so still,
-- and erase counts stay.
pub record Carries (g : Geometry) (was : List ℕ) (block most : ℕ) (batch : Batch) (cs : List Carried) (image : List ℕ) : Type 0 where
  pub is : IsImage g was
  pub can : CanEmpty g was block
  pub low : block < g.blocks
  pub index : IsIndexOf g was batch
  pub carrying : IsCarrying g was block was (moves_of cs) image
  pub tidy : IsTidyBut g image (λ r. are_to cs r)
  pub keeps : Keeps g was image
  pub pages : All (IsCarried g was image batch) cs
  pub beside : StandsBeside g was image batch.id
  pub few : length cs ≤ most
  pub tails : KeepsTails g was image
  pub counts : SameCounts g was image

-- One more page of the block may be carried.
pub record CanCarry (g : Geometry) (was : List ℕ) (block most : ℕ) (batch : Batch) (cs : List Carried) (q span : ℕ) (image : List ℕ) : Type 0 where
  pub so_far : Carries g was block most batch cs image
  pub of : IsOfBatch g was batch q span
  pub from : block_of g q ≡ block
  pub apart : All (λ (c : Carried). q ≢ c.from) cs
  pub room : length cs < most

-- It may be carried to page `to`.
pub record CanCarryTo (g : Geometry) (was : List ℕ) (block most : ℕ) (batch : Batch) (cs : List Carried) (q to span : ℕ) (image : List ℕ) : Type 0 where
  pub can : CanCarry g was block most batch cs q span image
  pub free : IsFreePage g image to
  pub place : IsPlaceBy g (sort_at g image) block for_data to
  pub kind : is_index_block g image (block_of g to) ≡ false

-- The list has the pages of the batch from page `first` on and before the end of the run, which are as many as the run counts.
pub record IsRun (g : Geometry) (was : List ℕ) (block : ℕ) (batch : Batch) (first : ℕ) (run : Run) (cs : List Carried) : Type 0 where
  pub falls : IsFalling cs
  pub many : length cs ≡ run.count
  pub inside : All (λ (c : Carried). (first ≤ c.from) × (c.from < run.end)) cs
  pub of : All (λ (c : Carried). IsOfBatch g was batch c.from c.span) cs
  pub each : (r span : ℕ) → block_of g r ≡ block → first ≤ r → r < run.end → IsOfBatch g was batch r span → are_from cs r ≡ true

-- Copies of those pages were put.
pub record HasCopies (g : Geometry) (was : List ℕ) (block most : ℕ) (batch : Batch) (first : ℕ) (run : Run) (cs : List Carried) (image : List ℕ) : Type 0 where
  pub so_far : Carries g was block most batch cs image
  pub run_is : IsRun g was block batch first run cs

-- page p lies in the block, from page `first` on and before the end of the run
pub record IsTurnOf (g : Geometry) (block first : ℕ) (run : Run) (p : ℕ) : Type 0 where
  pub at : block_of g p ≡ block
  pub from : first ≤ p
  pub before : p < run.end

-- Copies were put of all pages of the batch from page `first` on and before page `next`, or of as many as may be.
pub record CarriesTo (g : Geometry) (was : List ℕ) (block most : ℕ) (batch : Batch) (first next : ℕ) (run : Run) (cs : List Carried)
    (image : List ℕ) : Type 0 where
  pub copies : HasCopies g was block most batch first run cs image
  pub full : (r span : ℕ) → block_of g r ≡ block → first ≤ r → r < next → IsOfBatch g was batch r span → (are_from cs r ≡ true) ⊎ (most ≤ length cs)

-- one more page is carried to a place that was found
abbrev pub carrying_to : (was : List ℕ) (block most : ℕ) → Batch → (q to span : ℕ) → Step (Unit {0})
carrying_to was block most batch q to span = record {
  needs = λ g image. (cs : List Carried) × CanCarryTo g was block most batch cs q to span image;
  cut = λ g image cut. TurnCut g block most was cut;
  done = λ g image now ok. (cs : List Carried) → CanCarryTo g was block most batch cs q to span image →
      Carries g was block most batch (record { from = q; to = to; span = span } ∷ cs) now;
}

-- one more page is carried: where its copy was put
abbrev pub carrying : (was : List ℕ) (block most : ℕ) → Batch → (q span : ℕ) → Step ℕ
carrying was block most batch q span = record {
  needs = λ g image. (cs : List Carried) × CanCarry g was block most batch cs q span image;
  cut = λ g image cut. TurnCut g block most was cut;
  done = λ g image now to. (cs : List Carried) → CanCarry g was block most batch cs q span image →
      Carries g was block most batch (record { from = q; to = to; span = span } ∷ cs) now;
}

-- a page has its turn: the run with it, if it is one of the batch
abbrev pub carrying_turn : (was : List ℕ) (block most : ℕ) → Batch → (first q : ℕ) → Run → Step Run
carrying_turn was block most batch first q run = record {
  needs = λ g image. ((cs : List Carried) × CarriesTo g was block most batch first q run cs image) × (block_of g q ≡ block) × (first ≤ q);
  cut = λ g image cut. TurnCut g block most was cut;
  done = λ g image now new. (cs : List Carried) × CarriesTo g was block most batch first (q + 1) new cs now;
}

-- All that go with the batch were carried: those of the block that its index page names, or as many as may be.
pub record CarriesAll (g : Geometry) (was : List ℕ) (block most : ℕ) (batch : Batch) (page : ℕ) (cs : List Carried) (image : List ℕ) : Type 0 where
  pub so_far : Carries g was block most batch cs image
  pub begun : are_from cs page ≡ true
  pub full : (r span : ℕ) → block_of g r ≡ block → page < r → IsOfBatch g was batch r span → (are_from cs r ≡ true) ⊎ (most ≤ length cs)

-- The run ends there.
pub record EndsRun (g : Geometry) (was : List ℕ) (block most : ℕ) (batch : Batch) (first : ℕ) (run : Run) (cs : List Carried) (image : List ℕ) : Type 0 where
  pub all : CarriesAll g was block most batch first cs image
  pub run_is : IsRun g was block batch first run cs

-- ---- copies are found again

-- Page p is a live data page of that id and span, and lies outside the block.
pub record IsCopyAt (g : Geometry) (image : List ℕ) (id span block p : ℕ) : Type 0 where
  pub page : List ℕ
  pub live : live_at g image p ≡ Some page
  pub kind : names_index page ≡ false
  pub id_is : obj_id page ≡ id
  pub span_is : span_of page ≡ span
  pub apart : block_of g p ≢ block

-- a page that was found is such a page from page `from` on (any of them); where none was found there is none from there on
abbrev pub IsCopyFrom : Geometry → (image : List ℕ) (id span block from : ℕ) → Option ℕ → Type 0
IsCopyFrom g image id span block from None = (p : ℕ) → from ≤ p → IsCopyAt g image id span block p → ⊥
IsCopyFrom g image id span block from (Some p) = (from ≤ p) × IsCopyAt g image id span block p

-- ---- the index page is renewed

-- the second page is the first with the names of the pages that were carried
unfoldable pub AreNamed : Geometry → (plain : List ℕ) → List Carried → (page : List ℕ) → Type 0
AreNamed g plain [] page = page ≡ plain
AreNamed g plain (c ∷ cs) page = (mid : List ℕ) × AreNamed g plain cs mid × IsNamed g c.span c.to mid page

-- The first bytes are the copy of this live index page with those names.
pub record IsNamedCopy (g : Geometry) (image : List ℕ) (index : ℕ) (cs : List Carried) (work : List ℕ) : Type 0 where
  pub tag : Tag
  pub plain : List ℕ
  pub built : IsBuilt g image index tag plain
  pub named : AreNamed g (take g.page plain) cs (take g.page work)

-- All were carried, and page `to` is free for the index page.
pub record CanRenameTo (g : Geometry) (was : List ℕ) (block most : ℕ) (batch : Batch) (page to : ℕ) (cs : List Carried) (image : List ℕ) : Type 0 where
  pub all : CarriesAll g was block most batch page cs image
  pub free : IsFreePage g image to
  pub place : IsPlaceBy g (sort_at g image) block for_index to
  pub kind : is_data_block g image (block_of g to) ≡ false

-- ---- the old pages are killed

-- a data page that was carried is still to be killed
pub record IsLeft (g : Geometry) (was image : List ℕ) (spare : ℕ → Bool) (c : Carried) : Type 0 where
  pub old : List ℕ
  pub was_live : live_at g was c.from ≡ Some old
  pub kind : names_index old ≡ false
  pub live : live_at g image c.from ≡ Some old
  pub idle : spare c.from ≡ true
  pub flags : slice_index image (c.from * g.page + 4) < 256

-- Copies of a batch's pages are at their places, its index page is renewed, and of the old pages those of a list are left. Tails that were ready
-- are so still, and erase counts stay.
pub record Drops (g : Geometry) (was : List ℕ) (block most page : ℕ) (left : List Carried) (image : List ℕ) : Type 0 where
  pub is : IsImage g was
  pub can : CanEmpty g was block
  pub low : block < g.blocks
  pub moves : List Move
  pub index : Move
  pub ways : ArePagesWay g block (sort_at g was) moves
  pub some : 0 < length moves
  pub few : length moves ≤ most
  pub out : block_of g index.from ≢ block
  pub place : IsPlaceBy g (with_data moves (sort_at g was)) block for_index index.to
  pub are : AreMoves g was (index ∷ moves)
  pub way : OnWay g (index ∷ moves) was image
  pub batch : IsBatch g was image index moves
  pub keeps : Keeps g was image
  pub index_gone : live_at g image index.from ≡ None
  pub spare : ℕ → Bool
  pub idles : Idles g spare image
  pub only : (r : ℕ) → spare r ≡ true → are_from left r ≡ true
  pub each : All (IsLeft g was image spare) left
  pub apart : AreMoves g was (moves_of left)
  pub gone : (are_from left page ≡ true) ⊎ (live_at g image page ≡ None)
  pub tails : KeepsTails g was image
  pub counts : SameCounts g was image

-- Of some pages those that aren't left are live no more, and all others are as they were.
pub record HaveGone (g : Geometry) (from left : List Carried) (was now : List ℕ) : Type 0 where
  pub among : (r : ℕ) → are_from left r ≡ true → are_from from r ≡ true
  pub gone : (r : ℕ) → are_from from r ≡ true → (are_from left r ≡ true) ⊎ (live_at g now r ≡ None)
  pub others : (r : ℕ) → are_from from r ≡ false → live_at g now r ≡ live_at g was r

-- the live pages of a block stay
abbrev pub StaysIn : Geometry → (block : ℕ) → (was now : List ℕ) → Type 0
StaysIn g block was now = (r : ℕ) → block_of g r ≡ block → live_at g now r ≡ live_at g was r

-- Of a block some pages are live no more, and all others are as they were.
pub record HaveLeft (g : Geometry) (block : ℕ) (cs : List Carried) (was now : List ℕ) : Type 0 where
  pub gone : (r : ℕ) → block_of g r ≡ block → are_from cs r ≡ true → live_at g now r ≡ None
  pub others : (r : ℕ) → block_of g r ≡ block → are_from cs r ≡ false → live_at g now r ≡ live_at g was r

-- the index page is renewed at a place that was found
abbrev pub renaming_to : (was : List ℕ) (block most : ℕ) → Batch → (first to : ℕ) → Run → Step (Unit {0})
renaming_to was block most batch first to run = record {
  needs = λ g image. (cs : List Carried) × CanRenameTo g was block most batch first to cs image × IsRun g was block batch first run cs;
  cut = λ g image cut. TurnCut g block most was cut;
  done = λ g image now ok. (cs : List Carried) → CanRenameTo g was block most batch first to cs image → IsRun g was block batch first run cs →
      Drops g was block most first cs now × StaysIn g block image now;
}

-- the index page is renewed
abbrev pub renaming : (was : List ℕ) (block most : ℕ) → Batch → (first : ℕ) → Run → Step (Unit {0})
renaming was block most batch first run = record {
  needs = λ g image. (cs : List Carried) × EndsRun g was block most batch first run cs image;
  cut = λ g image cut. TurnCut g block most was cut;
  done = λ g image now ok. (cs : List Carried) → EndsRun g was block most batch first run cs image →
      Drops g was block most first cs now × StaysIn g block image now;
}

-- Of the pages of a run those before page `next` are left to be killed, so many.
pub record DropsTo (g : Geometry) (was : List ℕ) (block most : ℕ) (batch : Batch) (first next : ℕ) (run : Run) (left : ℕ) (cs : List Carried)
    (image : List ℕ) : Type 0 where
  pub drops : Drops g was block most first (below next cs) image
  pub run_is : IsRun g was block batch first run cs
  pub many : length (below next cs) ≡ left

-- a page has its turn: it is killed if it is one of the batch, and so many are left
abbrev pub dropping_turn : (was : List ℕ) (block most : ℕ) → Batch → (first : ℕ) → Run → (q left : ℕ) → Step ℕ
dropping_turn was block most batch first run q left = record {
  needs = λ g image. ((cs : List Carried) × DropsTo g was block most batch first (q + 1) run left cs image) × IsTurnOf g block first run q;
  cut = λ g image cut. TurnCut g block most was cut;
  done = λ g image now rest. (cs : List Carried) → DropsTo g was block most batch first (q + 1) run left cs image →
      DropsTo g was block most batch first q run rest cs now × HaveGone g (below (q + 1) cs) (below q cs) image now;
}

-- all pages of a run are killed
abbrev pub dropping_all : (was : List ℕ) (block most : ℕ) → Batch → (first : ℕ) → Run → Step (Unit {0})
dropping_all was block most batch first run = record {
  needs = λ g image. (cs : List Carried) × Drops g was block most first cs image × IsRun g was block batch first run cs;
  cut = λ g image cut. TurnCut g block most was cut;
  done = λ g image now ok. (cs : List Carried) → Drops g was block most first cs image → IsRun g was block batch first run cs →
      Drops g was block most first [] now × HaveGone g cs [] image now;
}

-- where all were carried the index page is renewed, and the old pages are killed
abbrev pub ending_batch : (was : List ℕ) (block most : ℕ) → Batch → (first : ℕ) → Run → Step (Unit {0})
ending_batch was block most batch first run = record {
  needs = λ g image. (cs : List Carried) × EndsRun g was block most batch first run cs image;
  cut = λ g image cut. TurnCut g block most was cut;
  done = λ g image now ok. TurnDone g block first was now
      × ((cs : List Carried) → EndsRun g was block most batch first run cs image → HaveLeft g block cs image now);
}

-- A page of a tidy image is one of a batch.
pub record CanMoveFrom (g : Geometry) (was : List ℕ) (block most : ℕ) (batch : Batch) (page span : ℕ) : Type 0 where
  pub can : CanMoveBatch g was block page
  pub is : IsImage g was
  pub at : block_of g page ≡ block
  pub most_is : 1 ≤ most
  pub index : IsIndexOf g was batch
  pub of : IsOfBatch g was batch page span

-- all pages of the batch that a page begins are carried: the run of their copies
abbrev pub carrying_batch : (block most : ℕ) → Batch → (page span : ℕ) → Step Run
carrying_batch block most batch page span = record {
  needs = λ g was. CanMoveFrom g was block most batch page span;
  cut = λ g was image. TurnCut g block most was image;
  done = λ g was now run. (cs : List Carried) × EndsRun g was block most batch page run cs now;
}

-- and moved
abbrev pub moving_from : (block most : ℕ) → Batch → (page span : ℕ) → Step (Unit {0})
moving_from block most batch page span = record {
  needs = λ g was. CanMoveFrom g was block most batch page span;
  cut = λ g was image. TurnCut g block most was image;
  done = λ g was now ok. TurnDone g block page was now;
}
