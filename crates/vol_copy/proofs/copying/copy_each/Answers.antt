use Rattle.std.proofs.Common.{◌≡◌, ◌<◌, Option, None, arith, rules, subst}
use Rattle.nor_core.proofs.Cuts.{reads_none, reads_then}
use Rattle.copy_model.specs.Parts.{IsUpTo}
use Rattle.volume.proofs.Staying.{same_none, same_then}
use Rattle.vol_copy.specs.declared.copying.Turn.{Turn}
use Rattle.vol_copy.specs.Stages.{Rests, With, Leads, StopsFrom}
use Rattle.vol_copy.specs.Turns.{HasTurned}
use Rattle.vol_copy.proofs.Exits.{passed}
use Rattle.vol_copy.proofs.Readers.{reader_none, reader_then}
use Rattle.vol_copy.proofs.Turning.{gone_none, gone_cuts, gone_idle, gone_stops, gone_turn, gone_counted, gone_last}
use Rattle.vol_copy.proofs.copying.copy_each.Goals as goal

pub records-init : goal.records-init
records-init g c = record {
  few = omega arith;
  reads = reads_none c.args.from.now.nor.now;
  same_from = reader_none c.args.from.now;
  same_to = same_none c.args.to.now;
  gone = gone_none c.args.from.now c.args.to.now;
}

pub records-preserved : goal.records-preserved
records-preserved g c =
    let was = c.records.invariant in
    let above : c.records.after < c.in-Some.turn.id = search rules in
    let leads = subst (λ (o : Option Turn). Leads (With g.N.NorState c.records.from (Rests (IsUpTo c.records.after))) (Rests (HasTurned c.records.after o)) c.records.to c.copy_next.new.to) c.in-Some.is c.in_ok-turn.ensures.done in
    record {
      few = grind (arith, was.few, above, c.count_turn-done.ensures.copied, c.count_turn-done.ensures.kept);
      reads = reads_then was.reads c.copy_next.ensures.reads;
      same_from = reader_then was.same_from c.copy_next.ensures.same_from;
      same_to = same_then was.same_to c.copy_next.ensures.same_to;
      gone = gone_counted c.args.from.now c.args.to.now c.records.after c.records.done c.records.to c.copy_next.new.to c.records.from was.reads was.same_from was.gone c.in-Some.turn c.count_turn-done.result c.count_turn-done.ensures.copied c.count_turn-done.ensures.kept
          (gone_turn c.args.from.now c.args.to.now c.records.after c.records.done c.records.to c.copy_next.new.to c.records.from was.reads was.same_from was.gone c.in-Some.turn c.copy_next.ensures.cuts leads c.copy_next.ensures.idle);
    }

pub returns-in_err-turn-clause-cuts : goal.returns-in_err-turn-clause-cuts
returns-in_err-turn-clause-cuts g c =
    let was = c.records.invariant in
    gone_cuts c.args.from.now c.args.to.now c.records.after c.records.done c.records.to c.copy_next.new.to c.records.from was.reads was.same_from was.gone c.copy_next.ensures.cuts

pub returns-in_err-turn-clause-idle : goal.returns-in_err-turn-clause-idle
returns-in_err-turn-clause-idle g c =
    let was = c.records.invariant in
    gone_idle c.args.from.now c.args.to.now c.records.after c.records.done c.records.to c.copy_next.new.to c.records.from was.reads was.same_from was.gone c.copy_next.ensures.idle

pub returns-in_err-turn-clause-stops : goal.returns-in_err-turn-clause-stops
returns-in_err-turn-clause-stops g c =
    let was = c.records.invariant in
    passed (StopsFrom (With g.N.NorState c.args.from.now (Rests (IsUpTo 0))) c.args.to.now c.copy_next.new.to) c.from_residual.result _ c.from_residual.ensures.1
    (gone_stops c.args.from.now c.args.to.now c.records.after c.records.done c.records.to c.copy_next.new.to c.records.from was.reads was.same_from was.gone _ c.in_err-turn.ensures.stops)

pub returns-clause-cuts : goal.returns-clause-cuts
returns-clause-cuts g c =
    let was = c.records.invariant in
    gone_cuts c.args.from.now c.args.to.now c.records.after c.records.done c.records.to c.copy_next.new.to c.records.from was.reads was.same_from was.gone c.copy_next.ensures.cuts

pub returns-clause-idle : goal.returns-clause-idle
returns-clause-idle g c =
    let was = c.records.invariant in
    gone_idle c.args.from.now c.args.to.now c.records.after c.records.done c.records.to c.copy_next.new.to c.records.from was.reads was.same_from was.gone c.copy_next.ensures.idle

pub returns-clause-done : goal.returns-clause-done
returns-clause-done g c =
    let was = c.records.invariant in
    let none : c.in_ok-turn.field-0 ≡ None = search rules in
    gone_last c.args.from.now c.args.to.now c.records.after c.records.done c.records.to c.copy_next.new.to c.records.from was.reads was.same_from was.gone (subst (λ (o : Option Turn). Leads (With g.N.NorState c.records.from (Rests (IsUpTo c.records.after))) (Rests (HasTurned c.records.after o)) c.records.to c.copy_next.new.to) none c.in_ok-turn.ensures.done)

pub returns-in_err-turn-clause-same_to : goal.returns-in_err-turn-clause-same_to
returns-in_err-turn-clause-same_to g c = same_then c.records.invariant.same_to c.copy_next.ensures.same_to

pub returns-clause-same_to : goal.returns-clause-same_to
returns-clause-same_to g c = same_then c.records.invariant.same_to c.copy_next.ensures.same_to
