-- A volume some calls later.
use Rattle.std.proofs.Common.{refl, ◌∙◌}
use Rattle.nor_core.specs.declared.state.NorState.{Ghosts as NorOf}
use Rattle.nor_core.specs.Device.{Changes}
use Rattle.nor_core.proofs.Cuts.{andthen, widened, started, wider}
use Rattle.table_model.specs.Ask.{Ask}
use Rattle.table_model.specs.Reply.{Answer}
use Rattle.volume.specs.declared.volume.Volume.{Volume}
use Rattle.volume.specs.Calls.{Calls}
use Rattle.volume.proofs.Staying.{same_then, same_none}
use Rattle.volume_run.specs.Ready.{IsMoved}

module _ {N : Type 0} {nor : NorOf N} where
  -- time goes on after it went on
  goes_then : {old mid new : N} → Changes nor old mid (λ was image. Unit {0}) → Changes nor mid new (λ was image. Unit {0}) → Changes nor old new (λ was image. Unit {0})
  goes_then first second = record {
    cuts = andthen first.cuts (widened second.cuts (λ image count here. (here.0 ∙ rw first.said refl, λ tells. tt {0})));
    said = second.said ∙ first.said;
    now = λ tells. tt {0};
  }

  -- no call was made
  pub moved_none : (v : Volume N nor) → IsMoved v v
  moved_none v = record { same = same_none v; goes = record { cuts = started v.nor.now _; said = refl; now = λ tells. tt {0} } }

  -- calls after calls
  pub moved_then : {old mid new : Volume N nor} → IsMoved old mid → IsMoved mid new → IsMoved old new
  moved_then first second = record { same = same_then first.same second.same; goes = goes_then first.goes second.goes }

  -- a call
  pub moved : {old new : Volume N nor} {ask : Ask} {reply : Answer} → Calls ask old new reply → IsMoved old new
  moved calls = record { same = calls.same; goes = wider calls.cuts (λ tells image here. tt {0}) }
