use Rattle.std.proofs.Common.{arith}
use Rattle.flash_view.proofs.Stepped.{looked, look_faults, after_look}
use Rattle.file_write.specs.Appends.{naming_at}
use Rattle.file_write.proofs.AppendEnds.{stays}
use Rattle.file_write.proofs.AfterName.{name_at}
use Rattle.file_write.proofs.Appending.{slot_there}
use Rattle.file_write.proofs.append.append_far.Goals as goal

pub returns-in_err-index-clause-step : goal.returns-in_err-index-clause-step
returns-in_err-index-clause-step g c = λ f. let seen = c.in_err-index.ensures in look_faults seen.looks seen.cause c.from_residual.ensures.0 c.from_residual.ensures.1 (λ tells can. stays _ _ _ _ _ _ _ can)

pub returns-in_default-clause-step : goal.returns-in_default-clause-step
returns-in_default-clause-step g c = λ f.
    let seen = c.in_ok-index.ensures in
    looked seen.looks (λ e. absurd (cc)) c.missing.ensures (λ tells can. (stays _ _ _ _ _ _ _ can, absurd (slot_there _ _ _ _ _ _ _ can c.requires.whole c.args.span c.requires.span c.requires.far c.requires.other (rw c.in_default.is at (seen.told tells can.can.tidy)))))

pub returns-clause-step : goal.returns-clause-step
returns-clause-step g c = λ f.
    let seen = c.in_ok-index.ensures in
    after_look {last = naming_at c.args.id c.args.found.header c.args.found.size c.in-Some.index c.args.from.now f} seen.looks (c.append_there.ensures.step f)
    (λ tells can. name_at _ _ _ _ _ c.args.span _ _ _ c.requires.span can (rw c.in-Some.is at (seen.told tells can.can.tidy)))

pub returns-in_err-index-clause-few : goal.returns-in_err-index-clause-few
returns-in_err-index-clause-few g c = omega (arith, c.in_err-index.ensures.looks.reads.writes)

pub returns-in_default-clause-few : goal.returns-in_default-clause-few
returns-in_default-clause-few g c = omega (arith, c.in_ok-index.ensures.looks.reads.writes)

pub returns-clause-few : goal.returns-clause-few
returns-clause-few g c = omega (arith, c.in_ok-index.ensures.looks.reads.writes, c.append_there.ensures.few)
