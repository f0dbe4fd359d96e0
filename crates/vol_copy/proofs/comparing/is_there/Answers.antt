use Rattle.std.proofs.Common.{Ok, ap, sym, ◌∙◌}
use Rattle.copy_model.specs.Parts.{IsNext}
use Rattle.vol_copy.specs.Stages.{Rests, With}
use Rattle.vol_copy.specs.Seen.{LooksUntil}
use Rattle.vol_copy.proofs.Exits.{passed}
use Rattle.vol_copy.proofs.Fitting.{volume_image}
use Rattle.vol_copy.proofs.Sights.{there_fails, there_none, there_other, there_then, there_until}
use Rattle.vol_copy.proofs.comparing.is_there.Goals as goal

pub returns-in_err-there-clause-stops : goal.returns-in_err-there-clause-stops
returns-in_err-there-clause-stops g c =
    passed (LooksUntil (With g.N.NorState c.args.from.now (Rests (IsNext c.args.stat.now))) c.args.to.now c.stat_on.new.to) c.from_residual.result _ c.from_residual.ensures.1
    (there_fails c.args.stat.now c.as_slice.result.now c.as_slice.ensures.bytes c.args.from.now c.args.to.now c.stat_on.new.to c.stat_on.result c.stat_on.ensures.went _ c.in_err-there.was)

pub returns-then-may_be_copy-clause-done : goal.returns-then-may_be_copy-clause-done
returns-then-may_be_copy-clause-done g c =
    there_then c.args.stat.now c.as_slice.result.now c.as_slice.ensures.bytes c.args.from.now c.args.to.now c.stat_on.new.to c.stat_on.result c.stat_on.ensures.went
    c.in-Some.there (c.in_ok-there.was ∙ ap Ok c.in-Some.is) (volume_image c.stat_on.new.to (λ tells. g.met.M.Nor.sized _ tells)) (sym c.may_be_copy.ensures ∙ c.if-may_be_copy.true) c.has_bytes.new.to c.has_bytes.result c.has_bytes.ensures.done

pub returns-then-may_be_copy-clause-stops : goal.returns-then-may_be_copy-clause-stops
returns-then-may_be_copy-clause-stops g c =
    there_until c.args.stat.now c.as_slice.result.now c.as_slice.ensures.bytes c.args.from.now c.args.to.now c.stat_on.new.to c.stat_on.result c.stat_on.ensures.went
    c.in-Some.there (c.in_ok-there.was ∙ ap Ok c.in-Some.is) (volume_image c.stat_on.new.to (λ tells. g.met.M.Nor.sized _ tells)) (sym c.may_be_copy.ensures ∙ c.if-may_be_copy.true) c.has_bytes.new.to c.has_bytes.result c.has_bytes.ensures.stops

pub returns-else-may_be_copy-clause-done : goal.returns-else-may_be_copy-clause-done
returns-else-may_be_copy-clause-done g c =
    there_other c.args.stat.now c.as_slice.result.now c.as_slice.ensures.bytes c.args.from.now c.args.to.now c.stat_on.new.to c.stat_on.result c.stat_on.ensures.went
    c.in-Some.there (c.in_ok-there.was ∙ ap Ok c.in-Some.is) (volume_image c.stat_on.new.to (λ tells. g.met.M.Nor.sized _ tells)) (sym c.may_be_copy.ensures ∙ c.if-may_be_copy.false)

pub returns-in-None-clause-done : goal.returns-in-None-clause-done
returns-in-None-clause-done g c =
    there_none c.args.stat.now c.as_slice.result.now c.as_slice.ensures.bytes c.args.from.now c.args.to.now c.stat_on.new.to c.stat_on.result c.stat_on.ensures.went (c.in_ok-there.was ∙ ap Ok c.in-None.is)
