use Rattle.flash_trace.specs.Judging.{standing_of}
use Rattle.flash_trace.proofs.Testing.{not_told}
use Rattle.flash_trace.proofs.Verdicts.{counts_said, ends_badly, ends_well}
use Rattle.flash_trace.proofs.judge.last_verdict.Goals as goal

pub returns-then-not-good : goal.returns-then-not-good
returns-then-not-good c = ends_badly c.args.case.now c.args.at (standing_of c.args.going.now) (not_told _ _ c.in_ok-good.ensures c.if-not-good.true)

pub returns : goal.returns
returns c = ends_well c.args.case.now c.args.at (standing_of c.args.going.now) c.args.going.now.place.replies (c.in_ok-good.ensures.0 c.if-not-good.false) (counts_said c.args.case.now c.args.going.now.place c.requires.place)
