-- The calls that a device in memory was asked, the first of them first, and what a cut since some of them may leave.
use Rattle.std.specs.Prelude.{ℕ, zero, suc, ◌≡◌, ◌+◌, ◌*◌, ◌≤◌, ◌⊎◌, List, [], ◌∷◌, ◌++◌, length, Vec}
use Rattle.std.specs.declared.alloc.Global.{Global}
use Rattle.nor_memory.specs.declared.call.Call.{Call}
use Rattle.nor_memory.specs.declared.call.Call.TheVariants.{Program, Erase, Say}
use Rattle.std.specs.declared.option.Option.{Option}
use Rattle.nor_core.specs.declared.device.Mark.{Mark}
use Rattle.nor_memory.specs.declared.plan.Way.{Way}
use Rattle.nor_core.specs.Flash.{HalfProgrammed, HalfErased}
use Rattle.nor_memory.specs.Picks.{put, ProgramLeaves, EraseLeaves, SayLeaves}

-- the image after a call
unfoldable pub after_call : ℕ → Call → List ℕ → List ℕ
after_call unit (Program at asked left) image = put image at left.items
after_call unit (Erase unit_ix mark left) image = put image (unit_ix * unit) left.items
after_call unit (Say piece passed) image = image

-- how many bytes were said after a call
unfoldable pub said_after : Call → ℕ → ℕ
said_after (Program at asked left) count = count
said_after (Erase unit_ix mark left) count = count
said_after (Say piece passed) count = count + passed

-- what a cut inside a call may leave
unfoldable pub InCall : ℕ → Call → List ℕ → ℕ → List ℕ → ℕ → Type 0
InCall unit (Program at asked left) was said image count = HalfProgrammed at asked.items was image × (count ≡ said)
InCall unit (Erase unit_ix mark left) was said image count = HalfErased (unit_ix * unit) unit mark was image × (count ≡ said)
InCall unit (Say piece passed) was said image count = (image ≡ was) × (said ≤ count) × (count ≤ said + length piece.items)

-- the image after these calls
unfoldable pub image_after : ℕ → List Call → List ℕ → List ℕ
image_after unit [] image = image
image_after unit (call ∷ calls) image = image_after unit calls (after_call unit call image)

-- how many bytes were said after these calls
unfoldable pub count_after : List Call → ℕ → ℕ
count_after [] count = count
count_after (call ∷ calls) count = count_after calls (said_after call count)

-- what a cut since the call number `t` may leave, where this image and count stood at first
unfoldable pub LeftSince : ℕ → List Call → List ℕ → ℕ → ℕ → List ℕ → ℕ → Type 0
LeftSince unit [] was said t image count = (image ≡ was) × (count ≡ said)
LeftSince unit (call ∷ calls) was said (suc t) image count = LeftSince unit calls (after_call unit call was) (said_after call said) t image count
LeftSince unit (call ∷ calls) was said zero image count = ((image ≡ was) × (count ≡ said)) ⊎ InCall unit call was said image count
    ⊎ LeftSince unit calls (after_call unit call was) (said_after call said) zero image count

-- the call of a program
pub record IsProgramCall (at : ℕ) (asked left : List ℕ) (call : Call) : Type 0 where
  pub bits : Vec ℕ Global
  pub left_bits : Vec ℕ Global
  pub call_is : call ≡ Program at bits left_bits
  pub asked_is : bits.items ≡ asked
  pub left_is : left_bits.items ≡ left

-- a program was noted with what it left
pub record Programs (way : Way) (at : ℕ) (asked old new : List ℕ) (calls_old calls_new : List Call) : Type 0 where
  pub call : Call
  pub noted : calls_new ≡ calls_old ++ call ∷ []
  pub leaves : ProgramLeaves way at asked old new
  pub call_is : IsProgramCall at asked leaves.left call
  pub half : HalfProgrammed at asked old new

-- nothing was noted or changed
pub record Same (old new : List ℕ) (calls_old calls_new : List Call) : Type 0 where
  pub bytes : new ≡ old
  pub calls : calls_new ≡ calls_old

-- an erase was noted with what it left
pub record Erases (way : Way) (unit unit_ix : ℕ) (mark : Option Mark) (old new : List ℕ) (calls_old calls_new : List Call) : Type 0 where
  pub left_bits : Vec ℕ Global
  pub noted : calls_new ≡ calls_old ++ Erase unit_ix mark left_bits ∷ []
  pub leaves : EraseLeaves way (unit_ix * unit) unit mark old new
  pub left_is : left_bits.items ≡ leaves.left
  pub size : length new ≡ length old

-- a piece was noted, and a front of it said
pub record SaysCall (way : Way) (piece old new : List ℕ) (calls_old calls_new : List Call) : Type 0 where
  pub bits : Vec ℕ Global
  pub leaves : SayLeaves way piece old new
  pub noted : calls_new ≡ calls_old ++ Say bits leaves.passed ∷ []
  pub bits_is : bits.items ≡ piece
  pub count : length new ≡ length old + leaves.passed
