-- The table of counts over the programs in a page and in its entry.
use Rattle.std.specs.Prelude.{◌≡◌, ◌≢◌, ℕ, ◌<◌, List, true, Result, OnOk}
use Rattle.geometry.specs.declared.geometry.Geometry.{Geometry}
use Rattle.nor_core.specs.declared.state.NorState.{Ghosts as NorOf}
use Rattle.image_model.specs.Places.{entry_of, erase_count}
use Rattle.image_laws.specs.TidySteps.{Agree}
use Rattle.flash_view.specs.declared.counts.Sort.{Sort}
use Rattle.flash_view.specs.declared.view.View.{View}
use Rattle.flash_view.specs.Places.{IsEntryPage}
use Rattle.flash_view.specs.Counts.{sort_at}
use Rattle.flash_view.specs.Table.{IsTable}
use Rattle.page_put.specs.Fresh.{IsFresh}

-- Programs changed nothing but a page and its entry: all others stay, and each block has its magic or lacks it, and its erase count, as before.
pub record OneChanges (g : Geometry) (p : ℕ) (was now : List ℕ) : Type 0 where
  pub agree : Agree g was now p
  pub erases : (block : ℕ) → block < g.blocks → erase_count g now block ≡ erase_count g was block

-- The page's entry is a number of two bytes and isn't free, and counts as this.
pub record IsUsedAs (g : Geometry) (image : List ℕ) (p : ℕ) (sort : Sort) : Type 0 where
  pub word : entry_of g image p < 0x10000
  pub used : entry_of g image p ≢ 0xFFFF
  pub sort_is : sort ≡ sort_at g image p

-- The rows were right before these programs, when the page's entry counted as it is said.
pub record WasCounted (g : Geometry) (p : ℕ) (before : Sort) (rows now : List ℕ) : Type 0 where
  pub was : List ℕ
  pub table : IsTable g was rows
  pub sort : before ≡ sort_at g was p
  pub only : OneChanges g p was now

-- The rows were right before this block was made fresh.
pub record WasFreshened (g : Geometry) (block count : ℕ) (rows now : List ℕ) : Type 0 where
  pub was : List ℕ
  pub table : IsTable g was rows
  pub fresh : IsFresh g block count was now

-- Where the table of counts stood, on a device that holds what it was given, it stands again once the call is done.
abbrev pub StandsAgain : {N T E : Type 0} {nor : NorOf N} → View N nor → View N nor → Result T E → Type 0
StandsAgain {nor = nor} old new result = nor.tells old.nor.now → old.counted ≡ true → OnOk result (new.counted ≡ true)

-- The page has an entry, and this isn't free.
pub record IsUsedPage (g : Geometry) (image : List ℕ) (p : ℕ) : Type 0 where
  pub entry : IsEntryPage g p
  pub used : entry_of g image p ≢ 0xFFFF
