-- What a call of a device in memory leaves, by how it goes; a call that is cut by its pick and the generator.
use Rattle.std.specs.Prelude.{ℕ, zero, suc, ◌≡◌, ◌+◌, ◌-◌, ◌*◌, ◌/◌, ◌%◌, ◌^◌, ◌<◌, ◌≤◌, ◌==◌, if◌then◌else◌, List, ◌++◌, length, take, drop, replicate}
use Rattle.std.specs.Prelude.{slice_index, slice_range, slice_set, bit_and, bit_or, bit_xor, Some, None}
use Rattle.std.specs.declared.option.Option.{Option}
use Rattle.nor_core.specs.declared.device.Mark.{Mark}
use Rattle.nor_memory.specs.declared.plan.Way.{Way}
use Rattle.nor_memory.specs.declared.plan.Way.TheVariants.{Whole, Fails, Cut, Unpowered}
use Rattle.nor_core.specs.Flash.{programmed, word_at}
use Rattle.nor_core.specs.Draws.{drawn}

-- pick 0 leaves nothing done, pick 1 all, and any other number something between
pub record ByPick (pick : ℕ) (Nothing All Between : Type 0) : Type 0 where
  pub nothing : pick ≡ 0 → Nothing
  pub all : pick ≡ 1 → All
  pub between : 2 ≤ pick → Between

-- the image with these bytes in place of those that stood there
abbrev pub put : List ℕ → ℕ → List ℕ → List ℕ
put image at bytes = take at image ++ bytes ++ drop (at + length bytes) image

-- a byte of which those bits are cleared that were to be cleared and are in the mask
abbrev pub some_cleared : ℕ → ℕ → ℕ → ℕ
some_cleared old asked mask = bit_and old (bit_or asked (255 - mask))

-- each byte has the bits cleared that its draw picks
pub record SomeCleared (seed : ℕ) (old asked left : List ℕ) : Type 0 where
  pub size : length left ≡ length asked
  pub each : (k : ℕ) → k < length asked → slice_index left k ≡ some_cleared (slice_index old k) (slice_index asked k) (drawn seed k % 256)

-- what a program leaves in its range
abbrev pub RangeProgrammed : Way → List ℕ → List ℕ → List ℕ → Type 0
RangeProgrammed Whole old asked left = left ≡ programmed old 0 asked
RangeProgrammed Fails old asked left = left ≡ old
RangeProgrammed (Cut pick) old asked left = ByPick pick (left ≡ old) (left ≡ programmed old 0 asked) (SomeCleared pick old asked left)
RangeProgrammed Unpowered old asked left = left ≡ old

-- what a program leaves
pub record ProgramLeaves (way : Way) (at : ℕ) (asked old new : List ℕ) : Type 0 where
  pub left : List ℕ
  pub range : RangeProgrammed way (slice_range old at (at + length asked)) asked left
  pub new_is : new ≡ put old at left

-- a unit whose mark, where it would read as its word, has the lowest bit of its first byte turned
abbrev pub mark_turned : Option Mark → List ℕ → List ℕ
mark_turned None bytes = bytes
mark_turned (Some mark) bytes = if word_at bytes mark.at == mark.word then slice_set bytes mark.at (bit_xor (slice_index bytes mark.at) 1) else bytes

-- each byte is what its draw gives
pub record EachDrawn (seed count : ℕ) (bytes : List ℕ) : Type 0 where
  pub size : length bytes ≡ count
  pub each : (k : ℕ) → k < count → slice_index bytes k ≡ drawn seed k % 256

-- drawn bytes without the mark
pub record DrawnUnit (seed unit : ℕ) (mark : Option Mark) (left : List ℕ) : Type 0 where
  pub bytes : List ℕ
  pub all_drawn : EachDrawn seed unit bytes
  pub turned : left ≡ mark_turned mark bytes

-- what an erase leaves in its unit
abbrev pub UnitErased : Way → ℕ → Option Mark → List ℕ → List ℕ → Type 0
UnitErased Whole unit mark old left = left ≡ replicate unit 255
UnitErased Fails unit mark old left = left ≡ old
UnitErased (Cut pick) unit mark old left = ByPick pick (left ≡ old) (left ≡ mark_turned mark (replicate unit 255)) (DrawnUnit pick unit mark left)
UnitErased Unpowered unit mark old left = left ≡ old

-- what an erase of a unit that begins at `start` leaves
pub record EraseLeaves (way : Way) (start unit : ℕ) (mark : Option Mark) (old new : List ℕ) : Type 0 where
  pub left : List ℕ
  pub range : UnitErased way unit mark (slice_range old start (start + unit)) left
  pub new_is : new ≡ put old start left

-- how many bytes of a piece are said
abbrev pub PartSaid : Way → ℕ → ℕ → Type 0
PartSaid Whole size passed = passed ≡ size
PartSaid Fails size passed = passed ≡ 0
PartSaid (Cut pick) size passed = ByPick pick (passed ≡ 0) (passed ≡ size) (passed ≡ drawn pick 0 % (size + 1))
PartSaid Unpowered size passed = passed ≡ 0

-- what saying a piece leaves of the bytes said
pub record SayLeaves (way : Way) (piece old new : List ℕ) : Type 0 where
  pub passed : ℕ
  pub part : PartSaid way (length piece) passed
  pub new_is : new ≡ old ++ take passed piece
