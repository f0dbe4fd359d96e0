use Rattle.std.proofs.Common.{◌≡◌, [], rules, Err, arith}
use Rattle.flash_view.proofs.Stepped.{passes, stepped_then, fault_passes, done_as}
use Rattle.block_gc.proofs.BatchEnds.{ending_begins, ending_then}
use Rattle.block_gc.proofs.batch.end_batch.Goals as goal

pub returns-in_err-rename-clause-step : goal.returns-in_err-rename-clause-step
returns-in_err-rename-clause-step g c = λ was most.
    let a = c.args in
    let is : c.from_residual.result ≡ Err c.in_err-rename.field-0.0 = search rules in
    passes (c.in_err-rename.ensures.step was most) is (λ tells need. ending_begins _ was _ a.block most a.batch a.first a.run need)

pub returns-in_err-drop_all-clause-step : goal.returns-in_err-drop_all-clause-step
returns-in_err-drop_all-clause-step g c = λ was most.
    let a = c.args in
    fault_passes (stepped_then (c.in_ok-rename.ensures.step was most) (c.in_err-drop_all.ensures.step was most)
    (λ tells need. ending_begins _ was _ a.block most a.batch a.first a.run need)
    (λ tells need drops. ending_then _ was _ _ a.block most a.batch a.first a.run need drops))
    c.from_residual-in_err-drop_all.ensures.0 c.from_residual-in_err-drop_all.ensures.1

pub returns-clause-step : goal.returns-clause-step
returns-clause-step g c = λ was most.
    let a = c.args in
    done_as (stepped_then (c.in_ok-rename.ensures.step was most) (c.in_ok-drop_all.ensures.step was most)
    (λ tells need. ending_begins _ was _ a.block most a.batch a.first a.run need)
    (λ tells need drops. ending_then _ was _ _ a.block most a.batch a.first a.run need drops))

pub drop_all-requires-clause-first : goal.drop_all-requires-clause-first
drop_all-requires-clause-first g c = rw (c.in_ok-rename.ensures.step [] 0).framed.same.geometry c.requires.first

pub drop_all-requires-clause-at : goal.drop_all-requires-clause-at
drop_all-requires-clause-at g c = rw (c.in_ok-rename.ensures.step [] 0).framed.same.geometry c.requires.at

pub drop_all-requires-clause-end : goal.drop_all-requires-clause-end
drop_all-requires-clause-end g c = rw (c.in_ok-rename.ensures.step [] 0).framed.same.geometry c.requires.end

pub returns-in_err-rename-clause-few : goal.returns-in_err-rename-clause-few
returns-in_err-rename-clause-few g c = omega (arith, c.in_err-rename.ensures.few)

pub returns-in_err-drop_all-clause-few : goal.returns-in_err-drop_all-clause-few
returns-in_err-drop_all-clause-few g c = omega (arith, c.in_ok-rename.ensures.few, c.in_err-drop_all.ensures.few)

pub returns-clause-few : goal.returns-clause-few
returns-clause-few g c = omega (arith, c.in_ok-rename.ensures.few, c.in_ok-drop_all.ensures.few)
