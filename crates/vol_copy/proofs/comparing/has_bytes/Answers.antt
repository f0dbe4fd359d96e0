use Rattle.std.proofs.Common.{Ok, ap, ◌∙◌}
use Rattle.vol_copy.specs.Stages.{Rests, With}
use Rattle.vol_copy.specs.Seen.{IsLike, LooksUntil}
use Rattle.vol_copy.proofs.Exits.{passed}
use Rattle.vol_copy.proofs.Sights.{bytes_fails, bytes_missing, bytes_unread, bytes_unclosed, bytes_done}
use Rattle.vol_copy.proofs.comparing.has_bytes.Goals as goal

pub returns-in_err-fd-clause-stops : goal.returns-in_err-fd-clause-stops
returns-in_err-fd-clause-stops g c =
    passed (LooksUntil (With g.N.NorState c.args.from.now (Rests (IsLike c.args.stat.now))) c.args.to.now c.open_on.new.to) c.from_residual.result _ c.from_residual.ensures.1
    (bytes_fails c.args.stat.now c.as_slice.result.now c.as_slice.ensures.bytes c.args.from.now c.args.to.now c.open_on.new.to c.open_on.result c.open_on.ensures.went _ c.in_err-fd.was)

pub returns-in_err-same-in-Some-clause-stops : goal.returns-in_err-same-in-Some-clause-stops
returns-in_err-same-in-Some-clause-stops g c =
    passed (LooksUntil (With g.N.NorState c.args.from.now (Rests (IsLike c.args.stat.now))) c.args.to.now c.same_bytes.new.to) c.from_residual-in_err-same-in-Some.result _ c.from_residual-in_err-same-in-Some.ensures.1
    (bytes_unread c.args.stat.now c.as_slice.result.now c.as_slice.ensures.bytes c.args.from.now c.args.to.now c.open_on.new.to c.open_on.result c.open_on.ensures.went
    c.in-Some.fd (c.in_ok-fd.was ∙ ap Ok c.in-Some.is) c.same_bytes.new.to _ c.in_err-same-in-Some.ensures.stops)

pub returns-in_err-perform-in-Some-clause-stops : goal.returns-in_err-perform-in-Some-clause-stops
returns-in_err-perform-in-Some-clause-stops g c =
    passed (LooksUntil (With g.N.NorState c.args.from.now (Rests (IsLike c.args.stat.now))) c.args.to.now c.perform.new.to) c.from_residual-in_err-perform-in-Some.result _ c.from_residual-in_err-perform-in-Some.ensures.1
    (bytes_unclosed c.args.stat.now c.as_slice.result.now c.as_slice.ensures.bytes c.args.from.now c.args.to.now c.open_on.new.to c.open_on.result c.open_on.ensures.went
    c.in-Some.fd (c.in_ok-fd.was ∙ ap Ok c.in-Some.is) c.in_ok-same-in-Some.same c.same_bytes.new.to c.in_ok-same-in-Some.ensures.done c.perform.new.to c.perform.result c.perform.ensures.went _ c.in_err-perform-in-Some.was)

pub returns-in_ok-perform-in-Some-clause-done : goal.returns-in_ok-perform-in-Some-clause-done
returns-in_ok-perform-in-Some-clause-done g c =
    bytes_done c.args.stat.now c.as_slice.result.now c.as_slice.ensures.bytes c.args.from.now c.args.to.now c.open_on.new.to c.open_on.result c.open_on.ensures.went
    c.in-Some.fd (c.in_ok-fd.was ∙ ap Ok c.in-Some.is) c.in_ok-same-in-Some.same c.same_bytes.new.to c.in_ok-same-in-Some.ensures.done c.perform.new.to c.perform.result c.perform.ensures.went c.in_ok-perform-in-Some.was

pub returns-in-None-clause-stops : goal.returns-in-None-clause-stops
returns-in-None-clause-stops g c =
    bytes_missing c.args.stat.now c.as_slice.result.now c.as_slice.ensures.bytes c.args.from.now c.args.to.now c.open_on.new.to c.open_on.result c.open_on.ensures.went
    (c.in_ok-fd.was ∙ ap Ok c.in-None.is)
