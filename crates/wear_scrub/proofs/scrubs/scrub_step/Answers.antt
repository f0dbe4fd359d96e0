use Rattle.std.proofs.Common.{◌≡◌, refl, rules, arith, inl, Err, Ok}
use Rattle.flash_view.proofs.Stepped.{looked, look_faults, after_look, passes, stepped_then, ends_as}
use Rattle.flash_view.specs.Steps.{Stepped, stopped}
use Rattle.block_gc.specs.RoomMade.{freeing}
use Rattle.wear_scrub.proofs.Steps.{rests, step_begins, step_ends}
use Rattle.wear_scrub.proofs.scrubs.scrub_step.Goals as goal

pub returns-in_err-is_level-clause-step : goal.returns-in_err-is_level-clause-step
returns-in_err-is_level-clause-step g c = let seen = c.in_err-is_level.ensures in look_faults seen.looks seen.cause c.from_residual.ensures.0 c.from_residual.ensures.1 (λ tells need. rests _ _ need.1)

pub returns-then-branch-clause-step : goal.returns-then-branch-clause-step
returns-then-branch-clause-step g c =
    let seen = c.in_ok-is_level.ensures in
    looked seen.looks (λ e. absurd (cc)) tt (λ tells need. (rests _ _ need.1, inl (refl, rw c.if-branch.true at (seen.told tells need.1), refl, let same = seen.looks.reads.writes in omega (arith, same))))

pub returns-in_err-free_up-clause-step : goal.returns-in_err-free_up-clause-step
returns-in_err-free_up-clause-step g c =
    let seen = c.in_ok-is_level.ensures in
    let is : c.from_residual-in_err-free_up.result ≡ Err c.in_err-free_up.field-0.0 = search rules in
    passes (after_look {whole = freeing 3 (g.N.NorState.device_writes c.args.v.now.nor.now) _} seen.looks c.in_err-free_up.ensures.step (λ tells t. record { needs = t; cut = λ d cut. cut; done = λ d met done. rw seen.looks.reads.writes at done })) is
    (λ tells need. step_begins _ c.args.limit _ need.0 need.1)

pub returns-clause-step : goal.returns-clause-step
returns-clause-step g c =
    let seen = c.in_ok-is_level.ensures in
    let before = g.N.NorState.device_writes c.args.v.now.nor.now in
    let between = g.N.NorState.device_writes c.free_up.new.v.nor.now in
    let freed : Stepped stopped c.args.v.now c.free_up.new.v (Ok c.in_ok-free_up.field-0) (freeing 3 before between) =
    ends_as (after_look {whole = freeing 3 (g.N.NorState.device_writes c.args.v.now.nor.now) _} seen.looks c.in_ok-free_up.ensures.step (λ tells t. record { needs = t; cut = λ d cut. cut; done = λ d met done. rw seen.looks.reads.writes at done }))
    (λ tells t. record { needs = t; cut = λ d cut. cut }) (λ tells t done. done) in
    stepped_then freed c.move_picked.ensures (λ tells need. step_begins _ c.args.limit _ need.0 need.1)
    (λ tells need done. step_ends _ c.args.limit _ need.0 need.1 c.in_ok-free_up.field-0 _ (rw c.if-branch.false at (seen.told tells need.1)) done)

pub returns-in_err-free_up-clause-idle : goal.returns-in_err-free_up-clause-idle
returns-in_err-free_up-clause-idle g c = λ tells tidy level. let old = rw c.if-branch.false at (c.in_ok-is_level.ensures.told tells tidy) in absurd (old level)

pub returns-clause-idle : goal.returns-clause-idle
returns-clause-idle g c = λ tells tidy level. let old = rw c.if-branch.false at (c.in_ok-is_level.ensures.told tells tidy) in absurd (old level)
