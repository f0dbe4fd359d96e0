-- What the calls of a chip leave, and what each chip keeps. `ChipOf D` is the record of the ghost members, which a clause writes `C.ChipState`.
use Rattle.std.specs.Prelude.{ℕ, ◌≡◌, ◌*◌, ◌<◌, ◌≤◌, ◌^◌, ◌⊎◌, List, length, slice_index}
use Rattle.std.specs.declared.option.Option.{Option}
use Rattle.nor_core.specs.declared.device.Mark.{Mark}
use Rattle.nor_core.specs.Flash.{erased, HalfErased}
pub use Rattle.chip_row.specs.declared.state.ChipState.{Ghosts as ChipOf}

-- only reads: the bytes, the last moment and what a cut may leave are as before
pub record ChipReads {D : Type 0} (chip : ChipOf D) (old new : D) : Type 0 where
  pub size : chip.size new ≡ chip.size old
  pub unit : chip.unit new ≡ chip.unit old
  pub told : chip.tells old → chip.tells new
  pub told_before : chip.tells new → chip.tells old
  pub bytes : chip.bytes new ≡ chip.bytes old
  pub faults : chip.faults old ≤ chip.faults new
  pub reads : chip.device_reads old ≤ chip.device_reads new
  pub last : chip.last new ≡ chip.last old
  pub cuts : (t : ℕ) (image : List ℕ) → chip.left_at new t image → chip.left_at old t image
  pub kept : (t : ℕ) (image : List ℕ) → chip.left_at old t image → chip.left_at new t image

-- a call at `now`: where bytes are told, they have R after it, and so has what a cut at `now` may leave; at an earlier moment a cut leaves what it might leave
-- before
pub record ChipChanges {D : Type 0} (chip : ChipOf D) (now : ℕ) (old new : D) (R : List ℕ → Type 0) : Type 0 where
  pub size : chip.size new ≡ chip.size old
  pub unit : chip.unit new ≡ chip.unit old
  pub told : chip.tells old → chip.tells new
  pub told_before : chip.tells new → chip.tells old
  pub faults : chip.faults old ≤ chip.faults new
  pub reads : chip.device_reads new ≡ chip.device_reads old
  pub last : chip.last new ≡ now
  pub before : (t : ℕ) (image : List ℕ) → t < now → chip.left_at new t image → chip.left_at old t image
  pub kept : (t : ℕ) (image : List ℕ) → t ≤ now → chip.left_at old t image → chip.left_at new t image
  pub at_now : (image : List ℕ) → chip.tells old → chip.left_at new now image → R image
  pub stands : chip.tells old → R (chip.bytes new)

-- what stands in or after an erase of `count` bytes from `start` on, which leaves `after`
abbrev pub InChipErase : ℕ → ℕ → Option Mark → List ℕ → List ℕ → List ℕ → Type 0
InChipErase start count mark before after image = HalfErased start count mark before image ⊎ (image ≡ after)

-- a finished erase of the unit `unit_ix`
unfoldable pub ErasesUnit : ℕ → ℕ → List ℕ → List ℕ → Type 0
ErasesUnit unit_ix unit was is = is ≡ erased was (unit_ix * unit) unit

-- an erase of it that failed
unfoldable pub HalfErasesUnit : ℕ → ℕ → Option Mark → List ℕ → List ℕ → Type 0
HalfErasesUnit unit_ix unit mark was is = HalfErased (unit_ix * unit) unit mark was is

-- what stands in or after an erase of it, which leaves `is`
unfoldable pub InUnitErase : ℕ → ℕ → Option Mark → List ℕ → List ℕ → List ℕ → Type 0
InUnitErase unit_ix unit mark was is image = InChipErase (unit_ix * unit) unit mark was is image

-- what each chip keeps: its size is the number of its bytes, and a cut past its last moment leaves what stands
pub record ChipHonest {D : Type 0} (chip : ChipOf D) (c : D) : Type 0 where
  pub sized : chip.tells c → length (chip.bytes c) ≡ chip.size c
  pub small : chip.size c < 2 ^ 32
  pub below : chip.tells c → (k : ℕ) → slice_index (chip.bytes c) k < 256
  pub only_after : (t : ℕ) (image : List ℕ) → chip.last c < t → chip.tells c → chip.left_at c t image → image ≡ chip.bytes c
  pub counts : (t : ℕ) → chip.last c < t → chip.tells c → chip.left_at c t (chip.bytes c)
