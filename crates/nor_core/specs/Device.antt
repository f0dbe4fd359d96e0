-- What the calls of a device leave. `NorOf D` is the record of the ghost members, which a clause writes `N.NorState`.
use Rattle.std.specs.Prelude.{ℕ, ◌≡◌, ◌+◌, ◌*◌, ◌<◌, ◌≤◌, ◌⊎◌, ◌++◌, List, length, take}
use Rattle.std.specs.declared.option.Option.{Option}
use Rattle.nor_core.specs.declared.device.Mark.{Mark}
use Rattle.nor_core.specs.Count.{counted}
use Rattle.nor_core.specs.Flash.{HalfProgrammed, HalfErased}
pub use Rattle.nor_core.specs.declared.state.NorState.{Ghosts as NorOf}

-- only reads: the bytes, what was said and what a cut may leave are as before
pub record OnlyReads {D : Type 0} (nor : NorOf D) (old new : D) : Type 0 where
  pub size : nor.size new ≡ nor.size old
  pub unit : nor.unit new ≡ nor.unit old
  pub lent : nor.lent new ≡ nor.lent old
  pub told : nor.tells old → nor.tells new
  pub told_before : nor.tells new → nor.tells old
  pub bytes : nor.bytes new ≡ nor.bytes old
  pub said : nor.said new ≡ nor.said old
  pub moment : nor.moment new ≡ nor.moment old
  pub faults : nor.faults old ≤ nor.faults new
  pub reads : nor.device_reads old ≤ nor.device_reads new
  pub writes : nor.device_writes new ≡ nor.device_writes old
  pub cuts : (t : ℕ) (image : List ℕ) (count : ℕ) → nor.left_since new t image count → nor.left_since old t image count
  pub kept : (t : ℕ) (image : List ℕ) (count : ℕ) → nor.left_since old t image count → nor.left_since new t image count

-- Time goes on from `old` to `new`, and a cut may leave only what has P, beside what it might leave before.
pub record Leaves {D : Type 0} (nor : NorOf D) (old new : D) (P : List ℕ → ℕ → Type 0) : Type 0 where
  pub size : nor.size new ≡ nor.size old
  pub unit : nor.unit new ≡ nor.unit old
  pub lent : nor.lent new ≡ nor.lent old
  pub told : nor.tells old → nor.tells new
  pub told_before : nor.tells new → nor.tells old
  pub moment : nor.moment old ≤ nor.moment new
  pub faults : nor.faults old ≤ nor.faults new
  pub reads : nor.device_reads old ≤ nor.device_reads new
  pub writes : nor.device_writes old ≤ nor.device_writes new
  pub cuts : (t : ℕ) (image : List ℕ) (count : ℕ) → t ≤ nor.moment old → nor.left_since new t image count → nor.left_since old t image count ⊎ P image count
  pub kept : (t : ℕ) (image : List ℕ) (count : ℕ) → t ≤ nor.moment old → nor.left_since old t image count → nor.left_since new t image count

-- a cut leaves what stands at d
pub record Stands {D : Type 0} (nor : NorOf D) (d : D) (image : List ℕ) (count : ℕ) : Type 0 where
  pub all_bytes : nor.tells d → image ≡ nor.bytes d
  pub all_said : count ≡ length (nor.said d)

-- Nothing is said. Where bytes are told, R holds from those of `old` to those of `new`, and to what a cut since `old` may leave beside what it might leave
-- before.
pub record Changes {D : Type 0} (nor : NorOf D) (old new : D) (R : List ℕ → List ℕ → Type 0) : Type 0 where
  pub cuts : Leaves nor old new (λ image count. (count ≡ length (nor.said old)) × (nor.tells old → R (nor.bytes old) image))
  pub said : nor.said new ≡ nor.said old
  pub now : nor.tells old → R (nor.bytes old) (nor.bytes new)

-- a cut in or after an erase
abbrev pub InErase : {D : Type 0} (nor : NorOf D) (old new : D) (unit_ix : ℕ) (mark : Option Mark) → List ℕ → List ℕ → Type 0
InErase nor old new unit_ix mark was image = HalfErased (unit_ix * nor.unit old) (nor.unit old) mark was image ⊎ (image ≡ nor.bytes new)

-- a cut in or after saying a piece
pub record InSay {D : Type 0} (nor : NorOf D) (old : D) (piece image : List ℕ) (count : ℕ) : Type 0 where
  pub all_bytes : nor.tells old → image ≡ nor.bytes old
  pub least : length (nor.said old) ≤ count
  pub most : count ≤ length (nor.said old) + length piece

-- what a program or an erase leaves of the counts of calls
pub record Writes {D : Type 0} (nor : NorOf D) (old new : D) : Type 0 where
  pub reads : nor.device_reads new ≡ nor.device_reads old
  pub writes : nor.device_writes new ≡ counted (nor.device_writes old)

-- what saying leaves
pub record Says {D : Type 0} (nor : NorOf D) (old new : D) (piece : List ℕ) : Type 0 where
  pub bytes : nor.bytes new ≡ nor.bytes old
  pub said : (n : ℕ) × (nor.said new ≡ nor.said old ++ take n piece)
  pub reads : nor.device_reads new ≡ nor.device_reads old
  pub writes : nor.device_writes new ≡ nor.device_writes old

-- where the call was noted, each image that an interrupted program may leave is one that a cut may leave
pub record MayBeHalf {D : Type 0} (nor : NorOf D) (old new : D) (at : ℕ) (asked : List ℕ) : Type 0 where
  pub possible : (t : ℕ) (image : List ℕ) → t ≤ nor.moment old → nor.moment old < nor.moment new → nor.tells old →
      HalfProgrammed at asked (nor.bytes old) image → nor.left_since new t image (length (nor.said old))

-- where the call was noted, each image that an interrupted erase may leave is one that a cut may leave
pub record MayBeErased {D : Type 0} (nor : NorOf D) (old new : D) (unit_ix : ℕ) (mark : Option Mark) : Type 0 where
  pub possible : (t : ℕ) (image : List ℕ) → t ≤ nor.moment old → nor.moment old < nor.moment new → nor.tells old →
      HalfErased (unit_ix * nor.unit old) (nor.unit old) mark (nor.bytes old) image → nor.left_since new t image (length (nor.said old))

-- where the call was noted, a cut may leave each front of the piece said, an empty or a whole one too
pub record MayBeSaid {D : Type 0} (nor : NorOf D) (old new : D) (piece : List ℕ) : Type 0 where
  pub possible : (t count : ℕ) → t ≤ nor.moment old → nor.moment old < nor.moment new → nor.tells old → length (nor.said old) ≤ count →
      count ≤ length (nor.said old) + length piece → nor.left_since new t (nor.bytes old) count
