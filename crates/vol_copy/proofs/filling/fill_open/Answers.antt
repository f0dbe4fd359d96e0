use Rattle.std.proofs.Common.{◌≡◌, ◌∙◌, Ok, ap, arith}
use Rattle.copy_model.specs.Parts.{IsFilling}
use Rattle.vol_copy.specs.Stages.{Works, With, StopsFrom}
use Rattle.vol_copy.proofs.Exits.{passed}
use Rattle.vol_copy.proofs.Pages.{unfilled_cuts, unfilled_stops, closed_cuts, closed_done, closed_stops}
use Rattle.table_model.specs.Ask.{Closes}
use Rattle.vol_copy.specs.Went.{done_as}
use Rattle.vol_copy.proofs.Causes.{went-never, done-never}
use Rattle.vol_copy.proofs.filling.fill_open.Goals as goal

pub returns-in_err-at-clause-stops : goal.returns-in_err-at-clause-stops
returns-in_err-at-clause-stops g c =
    passed (StopsFrom (With g.N.NorState c.args.from.now (Works c.args.fd 52 (IsFilling c.args.stat.now 0))) c.args.to.now c.put_bytes.new.to) c.from_residual.result _ c.from_residual.ensures.1 c.in_err-at.ensures.stops

pub returns-then-at-stat-clause-cuts : goal.returns-then-at-stat-clause-cuts
returns-then-at-stat-clause-cuts g c = unfilled_cuts c.args.stat.now c.args.fd c.args.from.now c.args.to.now c.put_bytes.new.to c.in_ok-at.ensures.cuts c.stop_at.new.to c.in_ok-at.at (c.in_ok-at.ensures.short c.if-at-stat.true) c.stop_at.ensures.cuts

pub returns-then-at-stat-clause-stops : goal.returns-then-at-stat-clause-stops
returns-then-at-stat-clause-stops g c = unfilled_stops c.args.stat.now c.args.fd c.args.from.now c.args.to.now c.put_bytes.new.to c.in_ok-at.ensures.cuts c.stop_at.new.to c.in_ok-at.at (c.in_ok-at.ensures.short c.if-at-stat.true) _ c.stop_at.ensures.stops

pub returns-clause-cuts : goal.returns-clause-cuts
returns-clause-cuts g c = closed_cuts c.args.stat.now c.args.fd c.args.from.now c.args.to.now c.put_bytes.new.to c.in_ok-at.ensures.cuts c.perform.new.to (c.put_bytes.ensures.all (let all : c.in_ok-at.at ≡ c.args.stat.now.size = omega (arith, c.in_ok-at.ensures.within, c.if-at-stat.false) in c.in_ok-at.was ∙ ap Ok all)) c.perform.result c.perform.ensures.went

pub returns-clause-done : goal.returns-clause-done
returns-clause-done g c = closed_done c.args.stat.now c.args.fd c.args.from.now c.args.to.now c.put_bytes.new.to c.in_ok-at.ensures.cuts c.perform.new.to (c.put_bytes.ensures.all (let all : c.in_ok-at.at ≡ c.args.stat.now.size = omega (arith, c.in_ok-at.ensures.within, c.if-at-stat.false) in c.in_ok-at.was ∙ ap Ok all)) c.perform.result c.perform.ensures.went

pub returns-clause-stops : goal.returns-clause-stops
returns-clause-stops g c = closed_stops c.args.stat.now c.args.fd c.args.from.now c.args.to.now c.put_bytes.new.to c.in_ok-at.ensures.cuts c.perform.new.to (c.put_bytes.ensures.all (let all : c.in_ok-at.at ≡ c.args.stat.now.size = omega (arith, c.in_ok-at.ensures.within, c.if-at-stat.false) in c.in_ok-at.was ∙ ap Ok all)) c.perform.result c.perform.ensures.went

pub returns-clause-from_cause : goal.returns-clause-from_cause
returns-clause-from_cause g c = λ is. absurd (went-never done_as done-never (Closes c.args.fd) c.put_bytes.new.to c.perform.new.to c.perform.result c.perform.ensures.went is)
