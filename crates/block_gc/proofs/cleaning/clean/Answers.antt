use Rattle.std.proofs.Common.{◌≡◌, rules, Ok, Err, arith}
use Rattle.std.proofs.lemmas.Result.{IfOk-from_err}
use Rattle.flash_view.specs.Steps.{Stepped, stopped, any_image}
use Rattle.flash_view.proofs.Looking.{looks_then}
use Rattle.flash_view.proofs.Stepped.{look_faults, after_look, passes, stepped_then, acted, fault_passes, done_as, view_image, image_after}
use Rattle.page_put.specs.Fresh.{Freshens, IsFresh}
use Rattle.block_gc.specs.Turns.{emptying}
use Rattle.block_gc.proofs.CleanedBlocks.{longest, clean_stays, can_empty, empties, freshens}
use Rattle.block_gc.proofs.Programs.{longest_is}
use Rattle.block_gc.proofs.cleaning.clean.Goals as goal

pub returns-in_err-c-clause-step : goal.returns-in_err-c-clause-step
returns-in_err-c-clause-step g c = let seen = c.in_err-c.ensures in look_faults seen.looks.only seen.looks.cause c.from_residual.ensures.0 c.from_residual.ensures.1 (λ tells can. clean_stays _ _ _ (view_image c.args.v.now (g.met.N.Nor.sized _) tells) c.requires can)

pub returns-in_err-count-clause-step : goal.returns-in_err-count-clause-step
returns-in_err-count-clause-step g c =
    let first = c.in_ok-c.ensures.looks.only in
    let seen = c.in_err-count.ensures.looks in
    look_faults (looks_then first seen.only) (let rose = seen.cause in let more = first.same.faults in omega arith) c.from_residual-in_err-count.ensures.0 c.from_residual-in_err-count.ensures.1
    (λ tells can. clean_stays _ _ _ (view_image c.args.v.now (g.met.N.Nor.sized _) tells) c.requires can)

pub returns-in_err-empty_block-clause-step : goal.returns-in_err-empty_block-clause-step
returns-in_err-empty_block-clause-step g c =
    let one = c.in_ok-c.ensures in
    let both = looks_then one.looks.only c.in_ok-count.ensures.looks.only in
    let is : c.from_residual-in_err-empty_block.result ≡ Err c.in_err-empty_block.field-0.0 = search rules in
    passes (after_look both c.in_err-empty_block.ensures.step (λ tells need. record { needs = need; cut = λ d cut. cut; done = λ d ok done. done })) is
    (λ tells can. empties _ _ _ _ (view_image c.args.v.now (g.met.N.Nor.sized _) tells) c.requires (longest _ _ _ _ _ can.tidy c.requires (one.looks.told tells) c.longest_batch.ensures) can)

pub returns-in_err-fresh_block-clause-step : goal.returns-in_err-fresh_block-clause-step
returns-in_err-fresh_block-clause-step g c =
    let one = c.in_ok-c.ensures in
    let two = c.in_ok-count.ensures in
    let both = looks_then one.looks.only two.looks.only in
    let block = c.args.block in
    let last = c.in_err-fresh_block.ensures in
    let first : Stepped stopped c.args.v.now c.empty_block.new.v (Ok tt) (emptying block c.longest_batch.result) = after_look both c.in_ok-empty_block.ensures.step (λ tells need. record { needs = need; cut = λ d cut. cut; done = λ d ok done. done }) in
    fault_passes (stepped_then first (acted any_image (λ h. Freshens h block c.in_ok-count.count) (λ h. IsFresh h block c.in_ok-count.count) last.same last.wrote last.cause last.changes last.done (λ any. last.counted))
    (λ tells can. empties _ _ _ _ (view_image c.args.v.now (g.met.N.Nor.sized _) tells) c.requires (longest _ _ _ _ _ can.tidy c.requires (one.looks.told tells) c.longest_batch.ensures) can)
    (λ tells can empty. freshens _ _ _ block c.in_ok-count.count (view_image c.args.v.now (g.met.N.Nor.sized _) tells) (image_after g.met.N.Nor.sized first tells) c.requires
    (rw (one.looks.only.same.geometry, one.looks.only.reads.bytes) at (two.looks.told (one.looks.only.reads.told tells))) can empty))
    c.from_residual-in_err-fresh_block.ensures.0 c.from_residual-in_err-fresh_block.ensures.1

pub returns-clause-step : goal.returns-clause-step
returns-clause-step g c =
    let one = c.in_ok-c.ensures in
    let two = c.in_ok-count.ensures in
    let both = looks_then one.looks.only two.looks.only in
    let block = c.args.block in
    let last = c.in_ok-fresh_block.ensures in
    let first : Stepped stopped c.args.v.now c.empty_block.new.v (Ok tt) (emptying block c.longest_batch.result) = after_look both c.in_ok-empty_block.ensures.step (λ tells need. record { needs = need; cut = λ d cut. cut; done = λ d ok done. done }) in
    done_as (stepped_then first (acted any_image (λ h. Freshens h block c.in_ok-count.count) (λ h. IsFresh h block c.in_ok-count.count) last.same last.wrote last.cause last.changes last.done (λ any. last.counted))
    (λ tells can. empties _ _ _ _ (view_image c.args.v.now (g.met.N.Nor.sized _) tells) c.requires (longest _ _ _ _ _ can.tidy c.requires (one.looks.told tells) c.longest_batch.ensures) can)
    (λ tells can empty. freshens _ _ _ block c.in_ok-count.count (view_image c.args.v.now (g.met.N.Nor.sized _) tells) (image_after g.met.N.Nor.sized first tells) c.requires
    (rw (one.looks.only.same.geometry, one.looks.only.reads.bytes) at (two.looks.told (one.looks.only.reads.told tells))) can empty))

pub returns-in_err-c-clause-few : goal.returns-in_err-c-clause-few
returns-in_err-c-clause-few g c = λ tells can. IfOk-from_err _ _ c.from_residual.ensures.0

pub returns-in_err-count-clause-few : goal.returns-in_err-count-clause-few
returns-in_err-count-clause-few g c = λ tells can. IfOk-from_err _ _ c.from_residual-in_err-count.ensures.0

pub returns-in_err-empty_block-clause-few : goal.returns-in_err-empty_block-clause-few
returns-in_err-empty_block-clause-few g c =
    let is : c.from_residual-in_err-empty_block.result ≡ Err c.in_err-empty_block.field-0.0 = search rules in
    λ tells can. rw is tt

pub returns-in_err-fresh_block-clause-few : goal.returns-in_err-fresh_block-clause-few
returns-in_err-fresh_block-clause-few g c = λ tells can. IfOk-from_err _ _ c.from_residual-in_err-fresh_block.ensures.0

pub returns-clause-few : goal.returns-clause-few
returns-clause-few g c = λ tells can.
    let view = c.args.v.now in
    let block = c.args.block in
    let one = c.in_ok-c.ensures in
    let both = looks_then one.looks.only c.in_ok-count.ensures.looks.only in
    let all = rw (both.same.geometry, both.reads.bytes, both.reads.writes) at (c.in_ok-empty_block.ensures.few (both.reads.told tells)) in
    let moved = all (can_empty _ _ _ c.requires can) in
    let most = longest_is _ _ block c.longest_batch.result _ can.tidy c.requires (one.looks.told tells) c.longest_batch.ensures in
    let last = rw (c.empty_block.ensures.step.framed.same.geometry, both.same.geometry) at c.in_ok-fresh_block.ensures.few in
    omega (arith, moved, most, last)
