use Rattle.std.proofs.Common.{◌≡◌, true, rules, Ok, Err}
use Rattle.flash_view.specs.Steps.{Stepped, stopped}
use Rattle.flash_view.proofs.Stepped.{passes, stepped_then, ends_as}
use Rattle.block_gc.specs.RoomMade.{cleaning_chosen}
use Rattle.block_gc.proofs.Cleanings.{step_ends, step_done}
use Rattle.block_gc.proofs.room.gc_step.Goals as goal

pub returns-in_err-clean_chosen : goal.returns-in_err-clean_chosen
returns-in_err-clean_chosen g c =
    let is : c.from_residual.result ≡ Err c.in_err-clean_chosen.field-0.0 = search rules in
    passes c.in_err-clean_chosen.ensures is (λ tells t. record { needs = t; cut = λ d cut. cut })

pub returns-in_err-collect : goal.returns-in_err-collect
returns-in_err-collect g c =
    let is : c.from_residual-in_err-collect.result ≡ Err c.in_err-collect.field-0.0 = search rules in
    let first : Stepped stopped c.args.v.now c.clean_chosen.new.v (Ok true) (cleaning_chosen (g.N.NorState.device_writes c.args.v.now.nor.now) (g.N.NorState.device_writes c.clean_chosen.new.v.nor.now)) = rw c.if-not-branch.false at c.in_ok-clean_chosen.ensures in
    passes (stepped_then {whole = step_done _ (g.N.NorState.device_writes c.collect.new.v.nor.now)} first c.in_err-collect.ensures.step (λ tells t. record { needs = t; cut = λ d cut. cut }) (λ tells t done. step_ends _ _ _ t done)) is
    (λ tells t. record { needs = t; cut = λ d cut. cut })

pub returns : goal.returns
returns g c =
    let first : Stepped stopped c.args.v.now c.clean_chosen.new.v (Ok true) (cleaning_chosen (g.N.NorState.device_writes c.args.v.now.nor.now) (g.N.NorState.device_writes c.clean_chosen.new.v.nor.now)) = rw c.if-not-branch.false at c.in_ok-clean_chosen.ensures in
    ends_as (stepped_then {whole = step_done _ (g.N.NorState.device_writes c.collect.new.v.nor.now)} first c.in_ok-collect.ensures.step (λ tells t. record { needs = t; cut = λ d cut. cut }) (λ tells t done. step_ends _ _ _ t done))
    (λ tells t. record { needs = t; cut = λ d cut. cut }) (λ tells t done. done)
