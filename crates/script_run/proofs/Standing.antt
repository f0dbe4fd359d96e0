-- A volume that stands goes on standing where its device tells the same bytes.
use Rattle.std.proofs.Common.{◌≡◌, ℕ, List, sym, subst}
use Rattle.geometry.specs.declared.geometry.Geometry.{Geometry}
use Rattle.nor_core.specs.declared.state.NorState.{Ghosts as NorOf}
use Rattle.image_model.specs.Tidy.{HasReserve}
use Rattle.call_model.specs.Memory.{Memory}
use Rattle.run_model.proofs.Chain.{stands_on}
use Rattle.script_run.specs.Runs.{StandsNow}

module _ {D : Type 0} {nor : NorOf D} {g : Geometry} where
  pub now_on : {old new : D} {memory : Memory} → nor.bytes new ≡ nor.bytes old → (nor.tells old → nor.tells new) → StandsNow nor g old memory → StandsNow nor g new memory
  now_on same told here = record { moment = here.moment; stands = stands_on same told here.stands; reserve = subst (λ (l : List ℕ). HasReserve g l) (sym same) here.reserve }
