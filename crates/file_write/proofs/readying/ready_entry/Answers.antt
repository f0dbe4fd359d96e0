use Rattle.std.proofs.Common.{arith}
use Rattle.flash_view.proofs.Stepped.{looked, look_faults, after_look}
use Rattle.file_write.proofs.BytesReadied.{ready_stays, ready_now}
use Rattle.file_write.proofs.FileHomes.{primed_tidy}
use Rattle.file_write.proofs.IndexRefreshed.{refresh_next}
use Rattle.file_write.proofs.UnreadyTails.{none_taken}
use Rattle.file_write.proofs.readying.ready_entry.Goals as goal

pub returns-in_err-stale_index-clause-steps : goal.returns-in_err-stale_index-clause-steps
returns-in_err-stale_index-clause-steps g c = λ f. let seen = c.in_err-stale_index.ensures in look_faults seen.looks seen.cause c.from_residual.ensures.0 c.from_residual.ensures.1 (λ tells can. ready_stays _ _ _ can.at.can)

pub returns-in-None-clause-steps : goal.returns-in-None-clause-steps
returns-in-None-clause-steps g c = λ f.
    let seen = c.in_ok-stale_index.ensures in
    looked seen.looks (λ e. absurd (cc)) tt (λ tells can. (ready_stays _ _ _ can.at.can, ready_now _ _ _ _ _ can.at can.ones (rw c.in-None.is at (seen.told tells can.at.can.tidy))))

pub returns-in-Some-clause-steps : goal.returns-in-Some-clause-steps
returns-in-Some-clause-steps g c = λ f.
    let seen = c.in_ok-stale_index.ensures in
    after_look seen.looks (c.refresh.ensures.step c.args.size f) (λ tells can. refresh_next _ _ _ _ c.in-Some.index _ can (rw c.in-Some.is at (seen.told tells can.at.can.tidy)))

pub returns-in-Some-clause-still : goal.returns-in-Some-clause-still
returns-in-Some-clause-still g c = λ f tells has.
    let seen = c.in_ok-stale_index.ensures in
    absurd (none_taken _ _ _ _ f has c.in-Some.index (rw c.in-Some.is at (seen.told tells (primed_tidy _ _ _ _ _ _ has.home.prime))) (rw c.in-Some.is at (seen.taken tells)))

pub returns-in_err-stale_index-clause-few : goal.returns-in_err-stale_index-clause-few
returns-in_err-stale_index-clause-few g c = omega (arith, c.in_err-stale_index.ensures.looks.reads.writes)

pub returns-in-None-clause-few : goal.returns-in-None-clause-few
returns-in-None-clause-few g c = omega (arith, c.in_ok-stale_index.ensures.looks.reads.writes)

pub returns-in-Some-clause-few : goal.returns-in-Some-clause-few
returns-in-Some-clause-few g c = omega (arith, c.in_ok-stale_index.ensures.looks.reads.writes, c.refresh.ensures.few)
