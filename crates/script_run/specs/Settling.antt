-- What putting the bytes that wait onto the chip leaves at the end of a run.
use Rattle.std.specs.Prelude.{◌≡◌, ◌⊎◌, [], Result, Ok, Err}
use Rattle.geometry.specs.declared.geometry.Geometry.{Geometry}
use Rattle.nor_core.specs.declared.state.NorState.{Ghosts as NorOf}
use Rattle.nor_core.specs.Device.{Changes}
use Rattle.table_model.specs.declared.error.FsErr.{FsErr}
use Rattle.table_model.specs.declared.error.FsErr.TheVariants.{Tight as TooTight, Damaged}
use Rattle.table_model.specs.Window.{Moment, settled_at, from_settled, IsAmong}
use Rattle.image_model.specs.Tables.{table_of}
use Rattle.call_model.specs.Safe.{IsSafe, HoldsImage}
use Rattle.call_model.specs.Memory.{Memory, IsAt}
use Rattle.call_model.specs.Calls.{Stands}
use Rattle.tool_parts.specs.declared.ending.Ending.{Ending}
use Rattle.tool_parts.specs.declared.ending.Ending.TheVariants.{BoardFault, Tight, Differ}

-- how a run ends whose volume was settled so
abbrev pub settled_as : Ending → Result (Unit {0}) FsErr → Ending
settled_as ending (Ok done) = ending
settled_as ending (Err (Damaged differ)) = Differ differ
settled_as ending (Err TooTight) = Tight 0
settled_as ending (Err _) = BoardFault

-- all that was written is on the chip: the volume stands where nothing waits any more
pub record IsSettled {D : Type 0} (nor : NorOf D) (g : Geometry) (old new : D) (now : Memory) (m : Moment) : Type 0 where
  pub stands : Stands nor g new now (settled_at m.state)
  pub holds : HoldsImage g (nor.bytes old) (nor.bytes new)

-- What settling a volume leaves: at a cut a table that waited; and the run ends as it would, or the board failed. `was` and `now` are what
-- the volume remembers before and after it.
pub record SettlesTo {D : Type 0} (nor : NorOf D) (g : Geometry) (old new : D) (was now : Memory) (ending result : Ending) : Type 0 where
  pub changes : (m : Moment) → Changes nor old new (λ first image. IsAt g first was m → IsSafe g first image × IsAmong (table_of g image) (from_settled m []))
  pub stands : (m : Moment) → Stands nor g old was m → ((result ≡ ending) × IsSettled nor g old new now m) ⊎ (result ≡ BoardFault)

-- What it leaves of a run that ends so: nothing is done where the board failed, or a page read otherwise.
abbrev pub Settling : {D : Type 0} (nor : NorOf D) (g : Geometry) (old new : D) (was now : Memory) → Ending → (result : Ending) → Type 0
Settling nor g old new was now BoardFault result = (result ≡ BoardFault) × (new ≡ old)
Settling nor g old new was now (Differ differ) result = (result ≡ Differ differ) × (new ≡ old)
Settling nor g old new was now ending result = SettlesTo nor g old new was now ending result
