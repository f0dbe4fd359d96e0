use Rattle.std.proofs.Common.{Bool, subst}
use Rattle.copy_model.specs.Parts.{IsUpTo, IsNext}
use Rattle.vol_copy.specs.Stages.{Rests, With, StopsFrom}
use Rattle.vol_copy.specs.Seen.{IsSeen, Looked}
use Rattle.vol_copy.proofs.Exits.{passed}
use Rattle.vol_copy.proofs.Turning.{turn_none_cuts, turn_none_idle, turn_fails, turn_last, unseen_cuts, unseen_idle, unseen_stops, kept_cuts, kept_idle, kept_leads, copied_cuts, copied_idle, copied_stops, copied_leads}
use Rattle.volume.proofs.Staying.{same_then}
use Rattle.vol_copy.proofs.copying.copy_next.Goals as goal

pub returns-in_err-found-clause-cuts : goal.returns-in_err-found-clause-cuts
returns-in_err-found-clause-cuts g c =
    turn_none_cuts c.args.after c.args.from.now c.args.to.now

pub returns-in_err-found-clause-idle : goal.returns-in_err-found-clause-idle
returns-in_err-found-clause-idle g c =
    turn_none_idle c.args.after c.args.from.now c.args.to.now

pub returns-in_err-found-clause-stops : goal.returns-in_err-found-clause-stops
returns-in_err-found-clause-stops g c =
    passed (StopsFrom (With g.N.NorState c.args.from.now (Rests (IsUpTo c.args.after))) c.args.to.now c.args.to.now) c.from_residual.result _ c.from_residual.ensures.1 (turn_fails c.args.after c.args.from.now c.args.to.now _ c.in_err-found.ensures.only)

pub returns-in-None-clause-cuts : goal.returns-in-None-clause-cuts
returns-in-None-clause-cuts g c =
    turn_none_cuts c.args.after c.args.from.now c.args.to.now

pub returns-in-None-clause-idle : goal.returns-in-None-clause-idle
returns-in-None-clause-idle g c =
    turn_none_idle c.args.after c.args.from.now c.args.to.now

pub returns-in-None-clause-done : goal.returns-in-None-clause-done
returns-in-None-clause-done g c =
    turn_last c.args.after c.args.from.now c.next_of.new.from c.next_of.ensures.reads c.next_of.ensures.same c.in_ok-found.found c.in_ok-found.ensures.told c.args.to.now c.in-None.is

pub returns-in_err-there-in-Some-clause-cuts : goal.returns-in_err-there-in-Some-clause-cuts
returns-in_err-there-in-Some-clause-cuts g c =
    unseen_cuts c.args.after c.args.from.now c.next_of.new.from c.next_of.ensures.reads c.next_of.ensures.same c.in_ok-found.found c.in_ok-found.ensures.told c.args.to.now c.in-Some.stat c.in-Some.is c.is_there.new.to _ c.in_err-there-in-Some.ensures.stops

pub returns-in_err-there-in-Some-clause-idle : goal.returns-in_err-there-in-Some-clause-idle
returns-in_err-there-in-Some-clause-idle g c =
    unseen_idle c.args.after c.args.from.now c.next_of.new.from c.next_of.ensures.reads c.next_of.ensures.same c.in_ok-found.found c.in_ok-found.ensures.told c.args.to.now c.in-Some.stat c.in-Some.is c.is_there.new.to _ c.in_err-there-in-Some.ensures.stops

pub returns-in_err-there-in-Some-clause-stops : goal.returns-in_err-there-in-Some-clause-stops
returns-in_err-there-in-Some-clause-stops g c =
    passed (StopsFrom (With g.N.NorState c.args.from.now (Rests (IsUpTo c.args.after))) c.args.to.now c.is_there.new.to) c.from_residual-in_err-there-in-Some.result _ c.from_residual-in_err-there-in-Some.ensures.1
    (unseen_stops c.args.after c.args.from.now c.next_of.new.from c.next_of.ensures.reads c.next_of.ensures.same c.in_ok-found.found c.in_ok-found.ensures.told c.args.to.now c.in-Some.stat c.in-Some.is c.is_there.new.to _ c.in_err-there-in-Some.ensures.stops)

pub returns-then-there-clause-cuts : goal.returns-then-there-clause-cuts
returns-then-there-clause-cuts g c =
    kept_cuts c.args.after c.args.from.now c.next_of.new.from c.next_of.ensures.reads c.next_of.ensures.same c.in_ok-found.found c.in_ok-found.ensures.told c.args.to.now c.in-Some.stat c.in-Some.is
    c.is_there.new.to (subst (λ (b : Bool). Looked (With g.N.NorState c.next_of.new.from (Rests (IsNext c.in-Some.stat))) (Rests (IsSeen c.in-Some.stat b)) c.args.to.now c.is_there.new.to) c.if-there.true c.in_ok-there-in-Some.ensures.done)

pub returns-then-there-clause-idle : goal.returns-then-there-clause-idle
returns-then-there-clause-idle g c =
    kept_idle c.args.after c.args.from.now c.next_of.new.from c.next_of.ensures.reads c.next_of.ensures.same c.in_ok-found.found c.in_ok-found.ensures.told c.args.to.now c.in-Some.stat c.in-Some.is
    c.is_there.new.to (subst (λ (b : Bool). Looked (With g.N.NorState c.next_of.new.from (Rests (IsNext c.in-Some.stat))) (Rests (IsSeen c.in-Some.stat b)) c.args.to.now c.is_there.new.to) c.if-there.true c.in_ok-there-in-Some.ensures.done)

pub returns-then-there-clause-done : goal.returns-then-there-clause-done
returns-then-there-clause-done g c =
    kept_leads c.args.after c.args.from.now c.next_of.new.from c.next_of.ensures.reads c.next_of.ensures.same c.in_ok-found.found c.in_ok-found.ensures.told c.args.to.now c.in-Some.stat c.in-Some.is
    c.is_there.new.to (subst (λ (b : Bool). Looked (With g.N.NorState c.next_of.new.from (Rests (IsNext c.in-Some.stat))) (Rests (IsSeen c.in-Some.stat b)) c.args.to.now c.is_there.new.to) c.if-there.true c.in_ok-there-in-Some.ensures.done)

pub returns-in_err-copy_file-in-Some-clause-cuts : goal.returns-in_err-copy_file-in-Some-clause-cuts
returns-in_err-copy_file-in-Some-clause-cuts g c =
    copied_cuts c.args.after c.args.from.now c.next_of.new.from c.next_of.ensures.reads c.next_of.ensures.same c.in_ok-found.found c.in_ok-found.ensures.told c.args.to.now c.in-Some.stat c.in-Some.is
    c.is_there.new.to c.copy_file.new.to c.is_there.new.from c.is_there.ensures.reads c.is_there.ensures.same_from (subst (λ (b : Bool). Looked (With g.N.NorState c.next_of.new.from (Rests (IsNext c.in-Some.stat))) (Rests (IsSeen c.in-Some.stat b)) c.args.to.now c.is_there.new.to) c.if-there.false c.in_ok-there-in-Some.ensures.done) c.copy_file.ensures.cuts

pub returns-in_err-copy_file-in-Some-clause-idle : goal.returns-in_err-copy_file-in-Some-clause-idle
returns-in_err-copy_file-in-Some-clause-idle g c =
    copied_idle c.args.after c.args.from.now c.next_of.new.from c.next_of.ensures.reads c.next_of.ensures.same c.in_ok-found.found c.in_ok-found.ensures.told c.args.to.now c.in-Some.stat c.in-Some.is
    c.is_there.new.to c.copy_file.new.to c.is_there.new.from c.is_there.ensures.reads c.is_there.ensures.same_from (subst (λ (b : Bool). Looked (With g.N.NorState c.next_of.new.from (Rests (IsNext c.in-Some.stat))) (Rests (IsSeen c.in-Some.stat b)) c.args.to.now c.is_there.new.to) c.if-there.false c.in_ok-there-in-Some.ensures.done) c.copy_file.ensures.cuts

pub returns-in_err-copy_file-in-Some-clause-stops : goal.returns-in_err-copy_file-in-Some-clause-stops
returns-in_err-copy_file-in-Some-clause-stops g c =
    passed (StopsFrom (With g.N.NorState c.args.from.now (Rests (IsUpTo c.args.after))) c.args.to.now c.copy_file.new.to) c.from_residual-in_err-copy_file-in-Some.result _ c.from_residual-in_err-copy_file-in-Some.ensures.1
    (copied_stops c.args.after c.args.from.now c.next_of.new.from c.next_of.ensures.reads c.next_of.ensures.same c.in_ok-found.found c.in_ok-found.ensures.told c.args.to.now c.in-Some.stat c.in-Some.is
    c.is_there.new.to c.copy_file.new.to c.is_there.new.from c.is_there.ensures.reads c.is_there.ensures.same_from (subst (λ (b : Bool). Looked (With g.N.NorState c.next_of.new.from (Rests (IsNext c.in-Some.stat))) (Rests (IsSeen c.in-Some.stat b)) c.args.to.now c.is_there.new.to) c.if-there.false c.in_ok-there-in-Some.ensures.done) c.copy_file.ensures.cuts _ c.in_err-copy_file-in-Some.ensures.stops)

pub returns-in_ok-copy_file-in-Some-clause-cuts : goal.returns-in_ok-copy_file-in-Some-clause-cuts
returns-in_ok-copy_file-in-Some-clause-cuts g c =
    copied_cuts c.args.after c.args.from.now c.next_of.new.from c.next_of.ensures.reads c.next_of.ensures.same c.in_ok-found.found c.in_ok-found.ensures.told c.args.to.now c.in-Some.stat c.in-Some.is
    c.is_there.new.to c.copy_file.new.to c.is_there.new.from c.is_there.ensures.reads c.is_there.ensures.same_from (subst (λ (b : Bool). Looked (With g.N.NorState c.next_of.new.from (Rests (IsNext c.in-Some.stat))) (Rests (IsSeen c.in-Some.stat b)) c.args.to.now c.is_there.new.to) c.if-there.false c.in_ok-there-in-Some.ensures.done) c.copy_file.ensures.cuts

pub returns-in_ok-copy_file-in-Some-clause-idle : goal.returns-in_ok-copy_file-in-Some-clause-idle
returns-in_ok-copy_file-in-Some-clause-idle g c =
    copied_idle c.args.after c.args.from.now c.next_of.new.from c.next_of.ensures.reads c.next_of.ensures.same c.in_ok-found.found c.in_ok-found.ensures.told c.args.to.now c.in-Some.stat c.in-Some.is
    c.is_there.new.to c.copy_file.new.to c.is_there.new.from c.is_there.ensures.reads c.is_there.ensures.same_from (subst (λ (b : Bool). Looked (With g.N.NorState c.next_of.new.from (Rests (IsNext c.in-Some.stat))) (Rests (IsSeen c.in-Some.stat b)) c.args.to.now c.is_there.new.to) c.if-there.false c.in_ok-there-in-Some.ensures.done) c.copy_file.ensures.cuts

pub returns-in_ok-copy_file-in-Some-clause-done : goal.returns-in_ok-copy_file-in-Some-clause-done
returns-in_ok-copy_file-in-Some-clause-done g c =
    copied_leads c.args.after c.args.from.now c.next_of.new.from c.next_of.ensures.reads c.next_of.ensures.same c.in_ok-found.found c.in_ok-found.ensures.told c.args.to.now c.in-Some.stat c.in-Some.is
    c.is_there.new.to c.copy_file.new.to c.is_there.new.from c.is_there.ensures.reads c.is_there.ensures.same_from (subst (λ (b : Bool). Looked (With g.N.NorState c.next_of.new.from (Rests (IsNext c.in-Some.stat))) (Rests (IsSeen c.in-Some.stat b)) c.args.to.now c.is_there.new.to) c.if-there.false c.in_ok-there-in-Some.ensures.done) c.copy_file.ensures.cuts c.in_ok-copy_file-in-Some.ensures.done

pub returns-in_err-copy_file-in-Some-clause-same_to : goal.returns-in_err-copy_file-in-Some-clause-same_to
returns-in_err-copy_file-in-Some-clause-same_to g c = same_then c.is_there.ensures.same_to c.copy_file.ensures.same_to

pub returns-in_ok-copy_file-in-Some-clause-same_to : goal.returns-in_ok-copy_file-in-Some-clause-same_to
returns-in_ok-copy_file-in-Some-clause-same_to g c = same_then c.is_there.ensures.same_to c.copy_file.ensures.same_to
