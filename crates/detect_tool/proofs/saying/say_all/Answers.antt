use Rattle.std.proofs.Common.{◌≡◌, ◌<◌, length, arith, rules, Err}
use Rattle.detect_tool.proofs.Telling.{said_none, said_next, said_broken, said_all, not_done}
use Rattle.detect_tool.proofs.saying.say_all.Goals as goal

pub loop-i-init : goal.loop-i-init
loop-i-init g c = record { faults = omega arith; said = λ list r. said_none list c.args.board.now }

pub returns-in_default-clause-says : goal.returns-in_default-clause-says
returns-in_default-clause-says g c = λ list r.
    let low : c.loop-i.i < length c.args.found.now = omega (arith, c.loop-i-test.true, c.loop-i.auto.i-end) in
    absurd (not_done c.args.found.now list r c.loop-i.i c.loop-i.last low (c.loop-i.invariant.said list r) c.in_default.ensures)

pub say_found-requires : goal.say_found-requires
say_found-requires g c =
    let first = c.in-Some.ensures in
    let w = first.1 c.in-Some.next in
    let few = c.requires.places c.in-Some.next w.0 w.1 in
    record { place = rw w.2 at few }

pub loop-i-preserved : goal.loop-i-preserved
loop-i-preserved g c = record {
  faults = omega (arith, c.loop-i.invariant.faults, c.say_found.ensures.says.cuts.faults);
  said = λ list r.
      let low : c.loop-i.i < length c.args.found.now = omega (arith, c.loop-i-test.true, c.loop-i.auto.i-end) in
      said_next c.args.found.now list r c.loop-i.i c.loop-i.last c.in-Some.next low (c.loop-i.invariant.said list r) c.in-Some.ensures c.say_found.ensures.says c.in_ok-say_found.ensures.whole;
}

pub returns-in_err-say_found-clause-says : goal.returns-in_err-say_found-clause-says
returns-in_err-say_found-clause-says g c =
    let is : c.from_residual.result ≡ Err c.in_err-say_found.field-0.0 = search rules in
    rw is (λ list r.
    let low : c.loop-i.i < length c.args.found.now = omega (arith, c.loop-i-test.true, c.loop-i.auto.i-end) in
    said_broken c.args.found.now list r c.loop-i.i c.loop-i.last c.in-Some.next _ low (c.loop-i.invariant.said list r) c.in-Some.ensures c.say_found.ensures.says c.in_err-say_found.ensures.front)

pub returns-in_err-say_found-clause-cause : goal.returns-in_err-say_found-clause-cause
returns-in_err-say_found-clause-cause g c =
    let is : c.from_residual.result ≡ Err c.in_err-say_found.field-0.0 = search rules in
    rw is (omega (arith, c.loop-i.invariant.faults, c.in_err-say_found.ensures.cause))

pub returns-clause-says : goal.returns-clause-says
returns-clause-says g c = λ list r. said_all c.args.found.now list r c.loop-i.i c.loop-i.last (omega (arith, c.loop-i-test.false, c.loop-i.auto.i-end)) (c.loop-i.invariant.said list r)
