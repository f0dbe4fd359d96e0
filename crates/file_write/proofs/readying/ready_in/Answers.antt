use Rattle.std.proofs.Common.{arith}
use Rattle.flash_view.proofs.Stepped.{look_faults, after_look}
use Rattle.file_write.specs.Readyings.{HasReadyTailAt}
use Rattle.file_write.proofs.BytesReadied.{ready_stays, entry_next}
use Rattle.file_write.proofs.FileHomes.{primed_tidy}
use Rattle.file_write.proofs.UnreadyTails.{no_other, still_after}
use Rattle.file_write.proofs.readying.ready_in.Goals as goal

pub returns-in_err-has_clean_bytes-clause-steps : goal.returns-in_err-has_clean_bytes-clause-steps
returns-in_err-has_clean_bytes-clause-steps g c = λ f. let seen = c.in_err-has_clean_bytes.ensures in look_faults seen.looks seen.cause c.from_residual.ensures.0 c.from_residual.ensures.1 (λ tells can. ready_stays _ _ _ can.can)

pub returns-then-branch-clause-steps : goal.returns-then-branch-clause-steps
returns-then-branch-clause-steps g c = λ f.
    let seen = c.in_ok-has_clean_bytes.ensures in
    after_look seen.looks (c.ready_entry.ensures.steps f) (λ tells can. entry_next _ _ _ _ _ can (rw c.if-branch.true at (seen.told tells can.can.tidy)))

pub returns-else-branch-clause-steps : goal.returns-else-branch-clause-steps
returns-else-branch-clause-steps g c = λ f.
    let seen = c.in_ok-has_clean_bytes.ensures in
    after_look seen.looks (c.ready_bytes.ensures.step f) (λ tells can. record { needs = can; cut = λ d cut. cut; done = λ d ok done. done })

pub returns-then-branch-clause-still : goal.returns-then-branch-clause-still
returns-then-branch-clause-still g c = λ f. still_after (λ k image. HasReadyTailAt k image c.args.id c.args.size f) c.in_ok-has_clean_bytes.ensures.looks (c.ready_entry.ensures.still f)

pub returns-else-branch-clause-still : goal.returns-else-branch-clause-still
returns-else-branch-clause-still g c = λ f tells has.
    let seen = c.in_ok-has_clean_bytes.ensures in
    absurd (no_other _ _ _ _ f has (rw c.if-branch.false at seen.part) (rw c.if-branch.false at (seen.other tells (primed_tidy _ _ _ _ _ _ has.home.prime))))

pub returns-in_err-has_clean_bytes-clause-few : goal.returns-in_err-has_clean_bytes-clause-few
returns-in_err-has_clean_bytes-clause-few g c = omega (arith, c.in_err-has_clean_bytes.ensures.looks.reads.writes)

pub returns-then-branch-clause-few : goal.returns-then-branch-clause-few
returns-then-branch-clause-few g c = omega (arith, c.in_ok-has_clean_bytes.ensures.looks.reads.writes, c.ready_entry.ensures.few)

pub returns-else-branch-clause-few : goal.returns-else-branch-clause-few
returns-else-branch-clause-few g c = omega (arith, c.in_ok-has_clean_bytes.ensures.looks.reads.writes, c.ready_bytes.ensures.few)
