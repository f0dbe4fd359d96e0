-- The calls that a chip in memory was asked, the newest first, and what a cut at a moment may leave.
use Rattle.std.specs.Prelude.{ℕ, ◌≡◌, ◌+◌, ◌<◌, ◌⊎◌, List, [], ◌∷◌, ◌++◌, length, slice_range, Vec}
use Rattle.std.specs.declared.alloc.Global.{Global}
use Rattle.std.specs.declared.option.Option.{Option}
use Rattle.nor_core.specs.declared.device.Mark.{Mark}
use Rattle.nor_memory.specs.declared.memory.MemBoard.{MemBoard}
use Rattle.nor_memory.specs.declared.chip_note.Note.{Note}
use Rattle.nor_memory.specs.declared.chip_note.Asked.{Asked}
use Rattle.nor_memory.specs.declared.chip_note.Asked.TheVariants.{Program, Erase}
use Rattle.nor_core.specs.Flash.{HalfProgrammed, HalfErased}
use Rattle.nor_memory.specs.Picks.{put}

-- the image before a call, where this one stood after it
abbrev pub before_call : Note → List ℕ → List ℕ
before_call note image = put image note.at note.before.items

-- what a cut inside a call may leave, where `was` stood before it
abbrev pub InAsked : Asked → ℕ → ℕ → List ℕ → List ℕ → Type 0
InAsked (Program from) at count was image = HalfProgrammed at from.items was image
InAsked (Erase mark) at count was image = HalfErased at count mark was image

-- what a cut inside a noted call may leave, where `is` stands after it
abbrev pub InCall : Note → List ℕ → List ℕ → Type 0
InCall note is image = InAsked note.asked note.at (length note.before.items) (before_call note is) image

-- what a cut at the moment `t` may leave, where `is` stands after the calls, the newest of them first
unfoldable pub CutAt : List Note → List ℕ → ℕ → List ℕ → Type 0
CutAt [] is t image = image ≡ is
CutAt (note ∷ older) is t image = ((note.now < t) × (image ≡ is)) ⊎ ((t ≡ note.now) × (InCall note is image ⊎ (image ≡ is)))
    ⊎ ((t < note.now) × CutAt older (before_call note is) t image)

-- a call was noted, with what stood before in its `count` bytes from `at` on
pub record Notes (now at count : ℕ) (IsAsked : Asked → Type 0) (old : List ℕ) (notes_old notes_new : List Note) : Type 0 where
  pub note : Note
  pub noted : notes_new ≡ notes_old ++ note ∷ []
  pub now_is : note.now ≡ now
  pub at_is : note.at ≡ at
  pub asked_is : IsAsked note.asked
  pub before_is : note.before.items ≡ slice_range old at (at + count)

-- a program of these bytes
abbrev pub IsProgram : List ℕ → Asked → Type 0
IsProgram from asked = (v : Vec ℕ Global) × (asked ≡ Program v) × (v.items ≡ from)

-- an erase with this mark
abbrev pub IsErase : Option Mark → Asked → Type 0
IsErase mark asked = asked ≡ Erase mark

-- nothing was noted, and the board was not called
pub record NotCalled (old new : MemBoard) (notes_old notes_new : List Note) : Type 0 where
  pub board : new ≡ old
  pub notes : notes_new ≡ notes_old
