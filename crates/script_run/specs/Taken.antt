-- Images that mounting and the check take, and what a cut leaves of them.
use Rattle.std.specs.Prelude.{ℕ, ◌≡◌, ◌<◌, List, length, None}
use Rattle.geometry.specs.declared.geometry.Geometry.{Geometry}
use Rattle.nor_core.specs.declared.state.NorState.{Ghosts as NorOf}
use Rattle.nor_core.specs.Device.{Leaves}
use Rattle.table_model.specs.Window.{Moment}
use Rattle.image_model.specs.Shared.{FitsWith}
use Rattle.call_model.specs.Safe.{IsSafe}
use Rattle.run_model.specs.Runs.{RunCall}
use Rattle.tool_parts.specs.Mounting.{IsMendable}
use Rattle.tool_parts.specs.Refusals.{mount_refusal, check_refusal}
use Rattle.script_run.specs.Running.{CallCut, Outcome}

-- What a cut leaves of an image that mounts mounts.
abbrev pub CutsMount : Geometry → Type 0
CutsMount g = (was image : List ℕ) → mount_refusal g was ≡ None → IsSafe g was image → mount_refusal g image ≡ None

-- What a cut leaves of an image that mounts and fits over with an entry to spare, mounting and the check take. One without a shared block
-- fits over with any number to spare.
abbrev pub CutsAreTaken : Geometry → Type 0
CutsAreTaken g = (was image : List ℕ) → mount_refusal g was ≡ None → FitsWith g was 1 → IsSafe g was image → check_refusal g image ≡ None

-- Once a byte of a reply was said, the check takes what a cut in the calls leaves, and gives it two free blocks.
abbrev pub CutCallsMend : {D : Type 0} → NorOf D → Geometry → Type 0
CutCallsMend {D} nor g = (old : D) (m : Moment) (calls : List RunCall) (image : List ℕ) (count : ℕ) →
    CallCut nor g old m calls image count → length (nor.said old) < count → IsMendable g image

-- Where the check gives the first image two free blocks, it gives them to what a cut in a run leaves, once a byte was said.
abbrev pub CutRunsMend : {D : Type 0} → NorOf D → Geometry → Type 0
CutRunsMend {D} nor g = (old new : D) (m : Moment) (script left : List ℕ) (status : ℕ) → IsMendable g (nor.bytes old) →
    Outcome nor g old new m script left status →
    Leaves nor old new (λ image count. length (nor.said old) < count → IsMendable g image)
