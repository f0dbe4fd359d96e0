-- What a command begins with that works on a volume.
use Rattle.std.specs.Prelude.{◌≡◌, ℕ, ◌⊎◌, List, replicate, Some, None}
use Rattle.geometry.specs.declared.geometry.Geometry.{Geometry}
use Rattle.nor_core.specs.declared.state.NorState.{Ghosts as NorOf}
use Rattle.table_model.specs.Window.{Moment, settled_at}
use Rattle.image_model.specs.Tables.{table_of}
use Rattle.image_model.specs.Tidy.{IsTidy, HasReserve}
use Rattle.image_model.specs.Collect.{chosen_block}
use Rattle.call_model.specs.Memory.{Memory}
use Rattle.call_model.specs.Safe.{ComesBack}
use Rattle.volume.specs.Checking.{SweepsAfter}
use Rattle.tool_parts.specs.declared.ending.Ending.{Ending}
use Rattle.tool_parts.specs.Mounting.{HasFailed, IsRefused}
use Rattle.tool_parts.specs.Refusals.{check_refusal, tight_refusal}

-- a volume that was checked: its image was one that the check takes, and is tidy with its reserve
pub record Begun (g : Geometry) (was image : List ℕ) : Type 0 where
  pub takes : check_refusal g was ≡ None
  pub tidy : IsTidy g image
  pub reserve : HasReserve g image

-- the first image is taken, and isn't one that an uncut check gives two free blocks; the check left fewer than two, and no block that is worth
-- cleaning can be cleaned
pub record IsTight (g : Geometry) (was now : List ℕ) (ending : Ending) : Type 0 where
  pub takes : check_refusal g was ≡ None
  pub tight : tight_refusal g now ≡ Some ending
  pub stuck : chosen_block g now ≡ None
  pub recovers_not : ComesBack g was → ⊥

-- why a run isn't begun: the board failed, the first image isn't taken, or the check left too few free blocks
abbrev pub StopsRun : {D : Type 0} (nor : NorOf D) (g : Geometry) (old new : D) → Ending → Type 0
StopsRun nor g old new ending = HasFailed nor g old new ending ⊎ (IsRefused nor g old new ending ⊎ IsTight g (nor.bytes old) (nor.bytes new) ending)

-- What a check leaves of an image that it takes: a tidy image with its files and two free blocks, by the stages, the parting and the cleaning of a
-- check; the first image itself, where that is tidy with its reserve.
pub record CheckLeaves (g : Geometry) (was now : List ℕ) : Type 0 where
  pub takes : check_refusal g was ≡ None
  pub tidy : IsTidy g now
  pub reserve : HasReserve g now
  pub sweeps : SweepsAfter g was now
  pub idle : IsTidy g was → HasReserve g was → now ≡ was

-- a volume with that image and that many descriptors, all closed
abbrev pub first_moment : Geometry → (slots : ℕ) (image : List ℕ) → Moment
first_moment g slots image = settled_at (record { table = table_of g image; slots = replicate slots None })

-- what it remembers then: they are closed, and nothing waits
abbrev pub closed_memory : (slots : ℕ) → Memory
closed_memory slots = record { slots = replicate slots None; run = None }
