-- What the whole check of a mounted volume does.
use Rattle.std.specs.Prelude.{◌≡◌, ◌≢◌, ℕ, ◌+◌, ◌<◌, ◌≤◌, ◌⊎◌, List, length, nat_lt, Bool, true, false, Result, Err, None, OnOk, IfOk, IfErr, IfSome, IsErrOf}
use Rattle.geometry.specs.declared.geometry.Geometry.{Geometry}
use Rattle.geometry.specs.Numbers.{usable, write_refusal}
use Rattle.nor_core.specs.declared.state.NorState.{Ghosts as NorOf}
use Rattle.nor_core.specs.Count.{Rose}
use Rattle.nor_core.specs.Device.{Changes, OnlyReads}
use Rattle.image_model.specs.Places.{erase_count}
use Rattle.image_model.specs.Tables.{table_of, damaged_of}
use Rattle.image_model.specs.Tidy.{IsTidy, IsNeat, HasReserve, free_blocks}
use Rattle.image_model.specs.Kinds.{spoiled_blocks}
use Rattle.image_model.specs.Shared.{shared_blocks, fits_over, FitsWith}
use Rattle.image_model.specs.Killed.{killed_of}
use Rattle.image_model.specs.Collect.{chosen_block}
use Rattle.image_model.specs.Sound.{Keeps}
use Rattle.room_laws.specs.Mends.{CanMend}
use Rattle.room_laws.specs.Stopping.{gc_measure}
use Rattle.room_laws.specs.Recovery.{Recovers}
use Rattle.room_laws.specs.Staged.{IsStripped}
use Rattle.block_gc.specs.RoomMade.{SweptTo, NoneIs}
use Rattle.block_gc.specs.Partings.{PartCut, Parted}
use Rattle.flash_view.specs.declared.view.View.{View}
use Rattle.flash_view.specs.Same.{OnlyLooks}
use Rattle.trim_laws.specs.Wear.{Worn}
use Rattle.flash_view.specs.Steps.{Step, Errors}
use Rattle.vol_check.specs.declared.report.CheckErr.{CheckErr}
use Rattle.vol_check.specs.declared.report.CheckErr.TheVariants.{Wrong, DeviceFault, Damaged}
use Rattle.vol_check.specs.declared.report.Report.{Report}
use Rattle.vol_check.specs.MadeFresh.{count_after}
use Rattle.vol_check.specs.Checks.{IsWritable, IsRefusal, CountsMixed}

-- A cut in a check keeps the image, two free blocks that were there, and of the entries to spare for the index pages of shared blocks all
-- but one.
abbrev pub CheckCut : Geometry → (was image : List ℕ) → Type 0
CheckCut = PartCut

-- The stages of a check left an image in which every block has the erase count that it had, but the one that lacked its magic the next one.
-- In that image the shared blocks were parted, and where none was shared nothing was done. Then chosen blocks were cleaned, one after the
-- other, and each cleaning began with fewer than two free blocks: so none where two were free after the stages. The number that cleanings lower
-- (gc_measure) fell by as many as there were, at least. From the stages on no erase count changed but by making blocks fresh, each with the next
-- count.
pub record SweepsAfter (g : Geometry) (was now : List ℕ) : Type 0 where
  pub staged : List ℕ
  pub stages : IsStripped g was staged
  pub counts : (block : ℕ) → block < g.blocks → erase_count g staged block ≡ count_after g was block
  pub parted : List ℕ
  pub parting : Parted g staged parted
  pub alone : shared_blocks g was ≡ 0 → parted ≡ staged
  pub swept : SweptTo g parted now
  pub lower : gc_measure g now + length swept.through ≤ gc_measure g parted
  pub needed : NoneIs (HasReserve g) swept.through
  pub quiet : HasReserve g staged → now ≡ parted
  pub worn : Worn g staged now

-- What a check leaves: the image is tidy with its table, and the report tells what was found and done, and how many blocks are free now.
-- Two free blocks that were there are there; and two are free, or no block that is worth cleaning can be cleaned.
pub record CheckDone (g : Geometry) (was now : List ℕ) (report : Report) : Type 0 where
  pub tidy : IsTidy g now
  pub table : table_of g now ≡ table_of g was
  pub erased : report.erased ≡ nat_lt 0 (spoiled_blocks g was)
  pub killed : report.killed ≡ killed_of g was
  pub damaged : report.damaged ≡ length (damaged_of g was)
  pub free : report.free_blocks ≡ free_blocks g now
  pub kept : HasReserve g was → HasReserve g now
  pub stopped : HasReserve g now ⊎ (chosen_block g now ≡ None)
  pub sweeps : SweepsAfter g was now

-- where a check tells of a page that reads otherwise, what was wanted there and what was found differ
abbrev pub IsApart : CheckErr → Type 0
IsApart (Damaged d) = d.wanted ≢ d.found
IsApart why = Unit {0}

-- it tells of no such page
abbrev pub IsUndamaged : CheckErr → Type 0
IsUndamaged (Damaged d) = ⊥
IsUndamaged why = Unit {0}

-- a check refuses the image: its numbers don't allow writing, or the index pages of its shared blocks find no places
abbrev pub IsRefused : Geometry → List ℕ → Type 0
IsRefused g image = (write_refusal g ≢ None) ⊎ (fits_over g image ≡ false)

-- What a check does to a device, and why it is refused. A volume that may not be written is `Wrong`, one whose shared blocks don't fit over
-- `Mixed`, and then nothing is written. Else the device failed, or the check is done: a tidy image with two free blocks is only read.
pub record ChecksVolume {D : Type 0} (nor : NorOf D) (g : Geometry) (old new : D) (result : Result Report CheckErr) : Type 0 where
  pub wrong : IfSome (write_refusal g) (λ why. result ≡ Err (Wrong why))
  pub writable : write_refusal g ≡ None → IfErr result IsWritable
  pub few : OnOk result (usable g ≤ 32766)
  pub cause : IsErrOf result DeviceFault → Rose (nor.faults old) (nor.faults new)
  pub changes : Changes nor old new (CheckCut g)
  pub fits : nor.tells old → OnOk result (FitsWith g (nor.bytes old) 0)
  pub mixed : nor.tells old → IfErr result (CountsMixed g (nor.bytes old))
  pub refused : IfErr result (λ why. IsRefusal why → OnlyReads nor old new)
  pub spared : nor.tells old → IsRefused g (nor.bytes old) → OnlyReads nor old new
  pub done : nor.tells old → IfOk result (λ report. CheckDone g (nor.bytes old) (nor.bytes new) report)
  pub mends : nor.tells old → Recovers g (nor.bytes old) → (shared_blocks g (nor.bytes old) ≡ 0) ⊎ HasReserve g (nor.bytes old) →
      IfOk result (λ report. 2 ≤ report.free_blocks)
  pub idle : nor.tells old → IsTidy g (nor.bytes old) → HasReserve g (nor.bytes old) → OnlyReads nor old new
  pub apart : IfErr result IsApart
  pub undamaged : nor.tells old → IfErr result IsUndamaged

-- ---- before anything is written

-- whether blocks are shared
abbrev pub TellsShared : Geometry → List ℕ → Bool → Type 0
TellsShared g image true = 0 < shared_blocks g image
TellsShared g image false = shared_blocks g image ≡ 0

-- the shared blocks fit over, and it is told whether there are any
abbrev pub IsFitting : Geometry → List ℕ → Bool → Type 0
IsFitting g image shares = FitsWith g image 0 × TellsShared g image shares

-- What is told before anything is written: whether blocks are shared, where the volume may be written and fits over. Else it is refused for
-- that, or the device failed.
pub record Judges {N : Type 0} {nor : NorOf N} (old new : View N nor) (result : Result Bool CheckErr) : Type 0 where
  pub looks : OnlyLooks old new
  pub wrong : IfSome (write_refusal old.geometry) (λ why. result ≡ Err (Wrong why))
  pub writable : write_refusal old.geometry ≡ None → IfErr result IsWritable
  pub among : IfErr result IsUndamaged
  pub cause : IsErrOf result DeviceFault → Rose (nor.faults old.nor.now) (nor.faults new.nor.now)
  pub fits : nor.tells old.nor.now → IfOk result (IsFitting old.geometry (nor.bytes old.nor.now))
  pub mixed : nor.tells old.nor.now → IfErr result (CountsMixed old.geometry (nor.bytes old.nor.now))

-- ---- the cleaning

-- why the cleaning is not done: the device failed, or a page reads otherwise
abbrev pub MayStop : CheckErr → Type 0
MayStop DeviceFault = Unit {0}
MayStop (Damaged d) = d.wanted ≢ d.found
MayStop why = ⊥

abbrev pub check_stopped : Errors CheckErr
check_stopped = record { fault = DeviceFault; means = MayStop; told = tt }

-- What the cleaning leaves, one chosen block after the other: a tidy image with the table, and two free blocks, or no block that is
-- chosen; where the image mends, two. Each cleaning began with fewer. The number that cleanings lower (gc_measure) fell by as many as there
-- were, at least.
pub record Cleared (g : Geometry) (was now : List ℕ) : Type 0 where
  pub tidy : IsTidy g now
  pub table : table_of g now ≡ table_of g was
  pub swept : SweptTo g was now
  pub lower : gc_measure g now + length swept.through ≤ gc_measure g was
  pub needed : NoneIs (HasReserve g) swept.through
  pub stopped : HasReserve g now ⊎ (chosen_block g now ≡ None)
  pub mended : CanMend g was → HasReserve g now

-- ---- the steps: shared blocks are parted, blocks are cleaned, and the free ones are counted after each

-- What the stages leave of an image that fits over: it is told whether blocks are shared, and how many are free.
pub record IsJudged (g : Geometry) (shares : Bool) (count : ℕ) (image : List ℕ) : Type 0 where
  pub neat : IsNeat g image
  pub fitting : IsFitting g image shares
  pub free : count ≡ free_blocks g image

-- The shared blocks are parted, nothing is done where there are none, and so many blocks are free.
pub record PartedOr (g : Geometry) (was now : List ℕ) (count : ℕ) : Type 0 where
  pub parting : Parted g was now
  pub alone : shared_blocks g was ≡ 0 → now ≡ was
  pub free : count ≡ free_blocks g now

-- Then blocks are cleaned where fewer than two are free.
pub record PartedCleared (g : Geometry) (was now : List ℕ) (count : ℕ) : Type 0 where
  pub parted : List ℕ
  pub parting : Parted g was parted
  pub alone : shared_blocks g was ≡ 0 → parted ≡ was
  pub cleared : Cleared g parted now
  pub quiet : HasReserve g parted → now ≡ parted
  pub free : count ≡ free_blocks g now

abbrev pub dividing : (shares : Bool) (free : ℕ) → Step ℕ
dividing shares free = record { needs = λ g was. IsJudged g shares free was; cut = CheckCut; done = PartedOr }

abbrev pub finishing : (shares : Bool) (free : ℕ) → Step ℕ
finishing shares free = record { needs = λ g was. IsJudged g shares free was; cut = CheckCut; done = PartedCleared }

abbrev pub sweeping : Step (Unit {0})
sweeping = record { needs = IsTidy; cut = Keeps; done = λ g was now ok. Cleared g was now }

abbrev pub clearing : Step ℕ
clearing = record { needs = IsTidy; cut = Keeps; done = λ g was now free. Cleared g was now × (free ≡ free_blocks g now) }
