-- A script's parts on a volume that stands, whatever the script tells.
use Rattle.std.proofs.Common.{◌≡◌, ℕ, List, [], refl, sym, subst, inl, inr, ⊎_elim, Option, Some, None, Ok, Err}
use Rattle.std.specs.Option.{IfSome}
use Rattle.geometry.specs.declared.geometry.Geometry.{Geometry}
use Rattle.nor_core.specs.declared.state.NorState.{Ghosts as NorOf}
use Rattle.nor_core.specs.Device.{Leaves, Changes, InSay, Says}
use Rattle.nor_core.proofs.Cuts.{andthen, widened, started}
use Rattle.table_model.specs.Ask.{Ask}
use Rattle.call_model.specs.Memory.{Memory}
use Rattle.file_calls.specs.declared.told.Told.{Told}
use Rattle.tool_parts.specs.declared.ending.Ending.{Ending}
use Rattle.tool_parts.specs.declared.ending.Ending.TheVariants.{Done, BadLine, BoardFault, SourceFault, TooLong}
use Rattle.tool_parts.specs.Mounting.{Checks}
use Rattle.tool_parts.specs.Begins.{Begun, StopsRun, first_moment, closed_memory}
use Rattle.script_run.specs.Outcomes.{EndsByImages}
use Rattle.tool_parts.specs.Refusals.{check_refusal}
use Rattle.script_run.specs.Runs.{StandsNow, WorksTo, Works}
use Rattle.script_run.specs.Turns.{DoesCall, ended_turn}
use Rattle.script_run.proofs.Standing.{now_on}
use Rattle.tool_parts.proofs.Begun.{begins_on}
use Rattle.script_run.proofs.Beginning.{begun_stands, early_why}

module _ {D : Type 0} {nor : NorOf D} where
  -- time goes on, of which more was known
  pub goes_of : {old new : D} {P : List ℕ → ℕ → Type 0} → Leaves nor old new P → Leaves nor old new (λ image count. Unit {0})
  goes_of leaves = widened leaves (λ image count here. tt {0})

module _ {D : Type 0} (nor : NorOf D) (g : Geometry) where
  said_works : (o : Option Ending) (d : D) (w : Memory) → IfSome o (λ ending. ending ≡ BoardFault) → StandsNow nor g d w → WorksTo nor g d w o
  said_works None d w fault here = here
  said_works (Some ending) d w fault here = subst (λ (e : Ending). WorksTo nor g d w (Some e)) (sym fault) (tt {0})

  last_works : (ending : Option Ending) (d : D) (w : Memory) → WorksTo nor g d w ending → WorksTo nor g d w (Some (ended_turn ending))
  last_works None d w works = works
  last_works (Some ending) d w works = works

  script_images : (ending : Ending) (first : List ℕ) (new : D) (w : Memory) → check_refusal g first ≡ None → WorksTo nor g new w (Some ending) → EndsByImages g first (nor.bytes new) ending
  script_images Done first new w takes works = inr (inr (begins_on g first (nor.bytes new) takes works.reserve, inl refl))
  script_images (BadLine n) first new w takes works = inr (inr (begins_on g first (nor.bytes new) takes works.reserve, inr (inl refl)))
  script_images BoardFault first new w takes works = inl refl
  script_images SourceFault first new w takes works = inr (inr (begins_on g first (nor.bytes new) takes works.reserve, inr (inr (inl refl))))
  script_images TooLong first new w takes works = inr (inr (begins_on g first (nor.bytes new) takes works.reserve, inr (inr (inr refl))))
  script_images _ first new w takes works = absurd works

module _ {D : Type 0} {nor : NorOf D} {g : Geometry} where
  -- a call that isn't answered
  pub works_stop : {old new : D} {was now : Memory} {ask : Ask} {lent : List ℕ} (ending : Ending) → DoesCall nor g old new was now ask (Err ending) lent → Works nor g old new was now (Some ending)
  works_stop ending does = record { goes = goes_of (does.changes (first_moment g 0 [])).cuts; stands = does.works }

  -- a call, and its reply
  pub works_reply : (o : Option Ending) {old mid new : D} {was now : Memory} {ask : Ask} {told : Told} {lent piece : List ℕ} → DoesCall nor g old mid was now ask (Ok told) lent → Says nor mid new piece → Leaves nor mid new (InSay nor mid piece) → IfSome o (λ ending. ending ≡ BoardFault) → Works nor g old new was now o
  works_reply o {old} {mid} {new} {was} {now} does says leaves fault = record {
    goes = andthen (goes_of (does.changes (first_moment g 0 [])).cuts) (goes_of leaves);
    stands = λ here. said_works nor g o new now fault (now_on says.bytes leaves.told (does.works here));
  }

  -- nothing
  pub works_none : (d : D) (w : Memory) → Works nor g d d w w None
  works_none d w = record { goes = started d _; stands = λ here. here }

  -- nothing more is done
  pub works_end : (ending : Ending) (d : D) (w : Memory) → (StandsNow nor g d w → WorksTo nor g d w (Some ending)) → Works nor g d d w w (Some ending)
  works_end ending d w ends = record { goes = started d _; stands = ends }

  -- the last line
  pub works_last : (ending : Option Ending) {old new : D} {was now : Memory} → Works nor g old new was now ending → Works nor g old new was now (Some (ended_turn ending))
  works_last ending {old} {new} {was} {now} works = record { goes = works.goes; stands = λ here. last_works nor g ending new now (works.stands here) }

  -- one part after another, by the geometry that the first began with
  pub works_then : (ending : Option Ending) (h : Geometry) {old mid new : D} {was between now : Memory} → h ≡ g → Works nor g old mid was between None → Works nor h mid new between now ending → Works nor g old new was now ending
  works_then ending h {old} {mid} {new} {was} {between} {now} same first second =
      let next : Works nor g mid new between now ending = subst (λ (k : Geometry). Works nor k mid new between now ending) same second in
      record {
        goes = andthen first.goes next.goes;
        stands = λ here. next.stands (first.stands here);
      }

  -- a run that was begun ends by its script
  pub begun_images : {old mid new : D} {between now : Memory} (slots : ℕ) (ending : Ending) (h : Geometry) → h ≡ g → between ≡ closed_memory slots → Changes nor old mid (Checks g) → nor.tells old → Begun g (nor.bytes old) (nor.bytes mid) → Works nor h mid new between now (Some ending) → EndsByImages g (nor.bytes old) (nor.bytes new) ending
  begun_images {old} {mid} {new} {between} {now} slots ending h same memory changes tells begun works =
      let here : Works nor g mid new between now (Some ending) = subst (λ (k : Geometry). Works nor k mid new between now (Some ending)) same works in
      script_images nor g ending (nor.bytes old) new now begun.takes (here.stands (record { moment = _; stands = begun_stands slots memory changes tells begun; reserve = begun.reserve }))

  -- one that wasn't ends by its images
  pub early_images : {old mid : D} (ending : Ending) → StopsRun nor g old mid ending → EndsByImages g (nor.bytes old) (nor.bytes mid) ending
  early_images ending stops = ⊎_elim (λ fault. inl fault.fault) (λ ends. inr (inl (early_why ends))) stops
