-- What a call that asks chips of a row leaves of the row.
use Rattle.std.specs.Prelude.{ℕ, ◌≡◌, ◌+◌, ◌*◌, ◌<◌, ◌≤◌, ◌⊎◌, List, length, slice_get, slice_range, Some, OnOk, OnErr, Result}
use Rattle.nor_core.specs.declared.device.Failed.{Failed}
use Rattle.nor_core.specs.Count.{counted, last_count}
use Rattle.nor_core.specs.declared.state.NorState.{Ghosts as NorOf}
use Rattle.nor_core.specs.Device.{OnlyReads, Changes}
use Rattle.chip_row.specs.declared.row.ChipRow.{ChipRow}
use Rattle.chip_row.specs.Chips.{ChipOf}
use Rattle.chip_row.specs.Rows.{AllFit, ChipRose}

-- the chip at `place` holds one of the `count` bytes from `at` on
pub record HoldsSome (chip_size at count place : ℕ) : Type 0 where
  pub byte : ℕ
  pub below : byte < count
  pub starts : place * chip_size ≤ at + byte
  pub ends : at + byte < (place + 1) * chip_size

-- each chip fits the row
abbrev pub Fits : {C : Type 0} → ChipOf C → ChipRow C → Type 0
Fits chip row = AllFit chip row.numbers row.moment row.chips.items

-- a chip doesn't
abbrev pub Unfit : {C : Type 0} → ChipOf C → ChipRow C → Type 0
Unfit chip row = Fits chip row → ⊥

-- why a row that was to program or erase asked no chip: its moment can't go on, or a chip doesn't fit it
abbrev pub Stuck : {C : Type 0} → ChipOf C → ChipRow C → ChipRow C → Type 0
Stuck chip old new = (new.moment ≡ last_count) ⊎ Unfit chip old

-- why a call failed: the count of faults of a chip that it may ask rose, and the row names that chip from now on; or no chip failed, for the cause `Other`
abbrev pub Blamed : {C : Type 0} → ChipOf C → (ℕ → Type 0) → ChipRow C → ChipRow C → Type 0 → Type 0
Blamed chip Asked old new Other = ((place : ℕ) × Asked place × ChipRose chip place old.chips.items new.chips.items × (new.fuse ≡ Some place))
    ⊎ ((new.fuse ≡ old.fuse) × Other)

-- What a call leaves that asks no chips but those of which `Asked` holds, by its answer. `Other` is why it may fail where no chip does.
pub record Asks {C : Type 0} (chip : ChipOf C) (Asked : ℕ → Type 0) (old new : ChipRow C) (result : Result (Unit {0}) Failed) (Other : Type 0) : Type 0 where
  -- the row's numbers and all other chips stay, and chips that fit the row fit it then
  pub numbers : new.numbers ≡ old.numbers
  pub others : (place : ℕ) → (Asked place → ⊥) → slice_get new.chips.items place ≡ slice_get old.chips.items place
  pub sound : Fits chip old → Fits chip new
  -- a failure counts one fault, an Ok none
  pub no_fault : OnOk result (new.faults ≡ old.faults)
  pub one_fault : OnErr result (new.faults ≡ counted old.faults)
  -- an Ok names no other chip than before, and a failure has one of these causes
  pub no_fuse : OnOk result (new.fuse ≡ old.fuse)
  pub blamed : OnErr result (Blamed chip Asked old new Other)

-- What a read of `count` bytes from `at` on leaves that is part of a call of the row. `nor` is the row as a device.
pub record RowRead {C : Type 0} (chip : ChipOf C) (nor : NorOf (ChipRow C)) (Asked : ℕ → Type 0) (at count : ℕ) (old new : ChipRow C) (into : List ℕ)
    (result : Result (Unit {0}) Failed) : Type 0 where
  pub read : nor.tells old → OnOk result (into ≡ slice_range (nor.bytes old) at (at + count))
  pub sized : length into ≡ count
  pub only_reads : OnlyReads nor old new
  pub reads : new.reads ≡ old.reads
  pub asks : Asks chip Asked old new result (Unfit chip old)

-- What a program or an erase leaves that is part of one: R holds of what a cut in it may leave, and S of what stands.
pub record RowChanged {C : Type 0} (chip : ChipOf C) (nor : NorOf (ChipRow C)) (Asked : ℕ → Type 0) (old new : ChipRow C)
    (R : List ℕ → List ℕ → Type 0) (S : List ℕ → List ℕ → Type 0) (result : Result (Unit {0}) Failed) : Type 0 where
  pub done : nor.tells old → S (nor.bytes old) (nor.bytes new)
  pub changes : Changes nor old new R
  pub reads : new.reads ≡ old.reads
  pub writes : new.writes ≡ old.writes
  pub asks : Asks chip Asked old new result (Stuck chip old new)
