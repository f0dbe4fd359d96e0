use Rattle.std.proofs.Common.{◌≡◌, rules, Err, arith}
use Rattle.flash_view.proofs.Stepped.{passes, stepped_then}
use Rattle.block_gc.proofs.BatchEnds.{from_begins, from_then}
use Rattle.flash_view.specs.Steps.{Stepped, stopped}
use Rattle.block_gc.specs.Programs.{SixEach}
use Rattle.block_gc.proofs.Programs.{if_ok, counting, counting_begins, counting_then}
use Rattle.block_gc.proofs.batch.move_from.Goals as goal

pub returns-in_err-run-clause-step : goal.returns-in_err-run-clause-step
returns-in_err-run-clause-step g c = λ span.
    let a = c.args in
    let is : c.from_residual.result ≡ Err c.in_err-run.field-0.0 = search rules in
    passes (c.in_err-run.ensures.step span) is (λ tells can. from_begins _ _ a.block a.most a.batch a.page span can)

pub returns-clause-step : goal.returns-clause-step
returns-clause-step g c = λ span.
    let a = c.args in
    stepped_then (c.in_ok-run.ensures.step span) (c.end_batch.ensures.step (g.N.NorState.bytes a.v.now.nor.now) a.most)
    (λ tells can. from_begins _ _ a.block a.most a.batch a.page span can)
    (λ tells can all. from_then _ _ _ a.block a.most a.batch a.page span _ all)

pub end_batch-requires-clause-index : goal.end_batch-requires-clause-index
end_batch-requires-clause-index g c = rw (c.in_ok-run.ensures.step 0).framed.same.geometry c.requires.index

pub end_batch-requires-clause-first : goal.end_batch-requires-clause-first
end_batch-requires-clause-first g c = rw (c.in_ok-run.ensures.step 0).framed.same.geometry c.requires.page

pub end_batch-requires-clause-at : goal.end_batch-requires-clause-at
end_batch-requires-clause-at g c = rw (c.in_ok-run.ensures.step 0).framed.same.geometry c.requires.at

pub end_batch-requires-clause-end : goal.end_batch-requires-clause-end
end_batch-requires-clause-end g c = rw (c.in_ok-run.ensures.step 0).framed.same.geometry c.in_ok-run.ensures.end

pub returns-in_err-run-clause-few : goal.returns-in_err-run-clause-few
returns-in_err-run-clause-few g c =
    let is : c.from_residual.result ≡ Err c.in_err-run.field-0.0 = search rules in
    λ span tells can none. rw is tt

pub returns-clause-few : goal.returns-clause-few
returns-clause-few g c = λ span tells can none.
    let a = c.args in
    let was = g.N.NorState.bytes a.v.now.nor.now in
    let run = c.in_ok-run.run' in
    let counts : Stepped stopped a.v.now c.end_batch.new.v c.end_batch.result (counting a.block a.most a.batch a.page span run) =
    stepped_then (c.in_ok-run.ensures.step span) (c.end_batch.ensures.step was a.most)
    (λ tells need. counting_begins _ _ a.block a.most a.batch a.page span run need.0)
    (λ tells need all. counting_then _ _ _ a.block a.most a.batch a.page span run need all) in
    if_ok c.end_batch.result stopped.fault _
    (SixEach a.v.now.geometry a.block a.most was (g.N.NorState.bytes c.end_batch.new.v.nor.now) (g.N.NorState.device_writes a.v.now.nor.now) (g.N.NorState.device_writes c.end_batch.new.v.nor.now))
    (counts.ends tells (can, none)) (λ falls. omega (arith, falls, c.in_ok-run.ensures.few, c.end_batch.ensures.few))
