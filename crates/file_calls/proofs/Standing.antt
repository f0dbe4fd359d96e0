-- The table of block counts over a call: where it stood it stands, unless the device failed.
use Rattle.std.proofs.Common.{ℕ, List, Bool, false, ◌∙◌, ap, subst}
use Rattle.std.specs.Prelude.{Option, Result, Ok, Err}
use Rattle.geometry.specs.declared.geometry.Geometry.{Geometry}
use Rattle.nor_core.specs.declared.state.NorState.{Ghosts as NorOf}
use Rattle.table_model.specs.declared.error.FsErr.{FsErr}
use Rattle.table_model.specs.Table.{File, Open}
use Rattle.table_model.specs.Reply.{Answer, Refuses}
use Rattle.table_model.specs.Ask.{Ask}
use Rattle.flash_view.specs.declared.kinds.StepErr.{StepErr}
use Rattle.flash_view.specs.declared.view.View.{View}
use Rattle.flash_view.specs.Same.{OnlyLooks}
use Rattle.flash_view.specs.Steps.{Step, Errors, Stepped, as_fs_err, stopped}
use Rattle.flash_view.proofs.Stepped.{after_look}
use Rattle.fd_table.specs.declared.slot.FdSlot.{FdSlot}
use Rattle.file_calls.specs.Collecting.{refusing, packing}
use Rattle.file_calls.specs.Cuts.{cutting}
use Rattle.file_calls.specs.Goes.{StandsOn}
use Rattle.file_calls.proofs.Going.{IsStep, reads_stay, step_fails}
use Rattle.file_calls.proofs.Cutting.{where_true}

-- a call that took its step after a look
module _ {N : Type 0} {nor : NorOf N} {old mid new : View N nor} {slots : List FdSlot} {step : Step (Unit {0})} {moved : List (Option Open)} {ask : Ask} {reply : Answer}
    (does : IsStep nor old.geometry slots ask reply moved old.nor.now step) (looks : OnlyLooks old mid) where
  after : {E : Type 0} {errors : Errors E} {r : Result (Unit {0}) E} → Stepped errors mid new r step → Stepped errors old new r step
  after call = after_look looks call (λ tells need. record { needs = need; cut = λ c cut. cut; done = λ c ok done. done })

  -- the step was done
  pub stands_done : (told : Answer) → Stepped stopped mid new (Ok tt) step → StandsOn nor old.geometry old.nor.now slots told old.counted new.counted
  stands_done told taken = λ s here no_fault stood. (after taken).stands here.tells (does.can s here) stood

  -- it was not: then the device failed
  pub stands_stopped : (why : FsErr) → Stepped refusing mid new (Err why) step → StandsOn nor old.geometry old.nor.now slots (Refuses why) old.counted new.counted
  stands_stopped why taken = λ s here no_fault stood. absurd (no_fault (ap (λ (w : FsErr). Refuses w) ((after taken).ends here.tells (does.can s here))))

  pub stands_broken : (why : StepErr) → Stepped stopped mid new (Err why) step → StandsOn nor old.geometry old.nor.now slots (Refuses (as_fs_err why)) old.counted new.counted
  stands_broken why taken = stands_stopped (as_fs_err why) (step_fails taken)

-- no page was had for a cut
pub stands_cornered : {N : Type 0} {nor : NorOf N} {old mid new : View N nor} {slots : List FdSlot} {moved : List (Option Open)} {ask : Ask} {reply : Answer} {id size : ℕ} {f : File} →
    IsStep nor old.geometry slots ask reply moved old.nor.now (where_true (cutting id size f)) → OnlyLooks old mid → (told : Answer) → Stepped stopped mid new (Ok false) (cutting id size f) →
    StandsOn nor old.geometry old.nor.now slots told old.counted new.counted
stands_cornered {nor = nor} {old = old} {new = new} {id = id} {size = size} {f = f} does looks told taken = λ s here no_fault stood.
    let call : Stepped {nor = nor} stopped old new (Ok false) (cutting id size f) = after_look looks taken (λ tells can. record { needs = can; cut = λ c cut. cut; done = λ c had done. done }) in
    call.stands here.tells (does.can s here) stood

module _ {N : Type 0} {nor : NorOf N} {old new : View N nor} (slots : List FdSlot) where
  -- garbage was collected, or collection is stuck
  pub stands_collected : {stuck : Bool} {x y : ℕ} (told : Answer) → Stepped stopped old new (Ok stuck) (packing x y) → StandsOn nor old.geometry old.nor.now slots told old.counted new.counted
  stands_collected told call = λ s here no_fault stood. call.stands here.tells here.tidy stood

  pub stands_uncollected : {x y : ℕ} (why : StepErr) → Stepped stopped old new (Err why) (packing x y) → StandsOn nor old.geometry old.nor.now slots (Refuses (as_fs_err why)) old.counted new.counted
  stands_uncollected why call = λ s here no_fault stood. absurd (no_fault (ap (λ (w : StepErr). Refuses (as_fs_err w)) (call.ends here.tells here.tidy)))

-- since a look as since before it
pub stands_since : {N : Type 0} {nor : NorOf N} {old mid : View N nor} {slots : List FdSlot} {told : Answer} {stands : Bool} → OnlyLooks old mid →
    StandsOn nor mid.geometry mid.nor.now slots told mid.counted stands → StandsOn nor old.geometry old.nor.now slots told old.counted stands
stands_since {nor = nor} {mid = mid} {slots = slots} {told = told} {stands = stands} looks call = λ s here no_fault stood.
    (subst (λ (g : Geometry). StandsOn nor g mid.nor.now slots told mid.counted stands) looks.same.geometry call) s (reads_stay s looks.reads here) no_fault (looks.counted ∙ stood)
