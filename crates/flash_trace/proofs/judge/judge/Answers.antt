use Rattle.std.proofs.Common.{◌≡◌, Option, Some, None, Result, Ok, Err, refl, arith}
use Rattle.std.specs.Prelude.{IfOk}
use Rattle.flash_trace.specs.declared.verdict.Verdict.{Verdict}
use Rattle.flash_trace.specs.Judging.{standing_of}
use Rattle.flash_trace.proofs.Verdicts.{fault_here, passed_here, last_here}
use Rattle.flash_trace.proofs.judge.judge.Goals as goal

none_by : (o : Option Verdict) → ((v : Verdict) → o ≡ Some v → ⊥) → o ≡ None
none_by None other = refl
none_by (Some v) other = absurd (other v refl)

ok_on : {E : Type 0} (r : Result Verdict E) (P Q : Verdict → Type 0) → ((v : Verdict) → P v → Q v) → IfOk r P → IfOk r Q
ok_on (Ok v) P Q to is = to v is
ok_on (Err e) P Q to is = tt

pub returns-in-Some : goal.returns-in-Some
returns-in-Some c =
    c.loop-i.invariant.1 _ (fault_here c.args.case.now c.loop-i.i (standing_of c.loop-i.going) c.args.events.now _ c.in-Some.verdict c.loop-i-test.true c.index-events-i.is (rw c.in-Some.is at c.in_ok-fault.ensures.some))

pub loop-i-preserved : goal.loop-i-preserved
loop-i-preserved c =
    let none : c.in_ok-fault.fault ≡ None = none_by c.in_ok-fault.fault c.in_default.not-Some in (
      c.in_ok-going-2.ensures.going,
      λ v on. c.loop-i.invariant.1 v
          (passed_here c.args.case.now c.loop-i.i (standing_of c.loop-i.going) c.args.events.now _ _ v c.loop-i-test.true c.index-events-i.is (rw none at c.in_ok-fault.ensures.none) c.in_ok-going-2.ensures.stands on),
    )

pub returns : goal.returns
returns c = ok_on _ _ _ (λ v on. c.loop-i.invariant.1 v (last_here c.args.case.now c.loop-i.i (standing_of c.loop-i.going) c.args.events.now _ v (omega arith) (omega arith) on)) c.last_verdict.ensures
