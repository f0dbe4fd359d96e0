use Rattle.std.proofs.Common.{◌≡◌, refl, rules, arith, Err}
use Rattle.flash_view.proofs.Stepped.{looked, look_faults, after_look, passes, ends_as}
use Rattle.block_gc.specs.RoomMade.{cleaning_chosen}
use Rattle.block_gc.proofs.Cleanings.{none_cut}
use Rattle.block_gc.proofs.room.collect_turn.Goals as goal

pub returns-in_err-is_met-clause-step : goal.returns-in_err-is_met-clause-step
returns-in_err-is_met-clause-step g c = let seen = c.in_err-is_met.ensures in look_faults seen.looks seen.cause c.from_residual.ensures.0 c.from_residual.ensures.1 (λ tells t. none_cut _ _ t)

pub returns-then-branch-clause-step : goal.returns-then-branch-clause-step
returns-then-branch-clause-step g c =
    let seen = c.in_ok-is_met.ensures in
    looked seen.looks (λ e. absurd (cc)) tt (λ tells t. (none_cut _ _ t, (refl, rw c.if-branch.true at (seen.told tells t), let same = seen.looks.reads.writes in omega (arith, same))))

pub returns-in_err-clean_chosen-clause-step : goal.returns-in_err-clean_chosen-clause-step
returns-in_err-clean_chosen-clause-step g c =
    let is : c.from_residual-in_err-clean_chosen.result ≡ Err c.in_err-clean_chosen.field-0.0 = search rules in
    passes (after_look {whole = cleaning_chosen _ _} c.in_ok-is_met.ensures.looks c.in_err-clean_chosen.ensures (λ tells t. record { needs = t; cut = λ d cut. cut; done = λ d ok done. done })) is
    (λ tells t. record { needs = t; cut = λ d cut. cut })

pub returns-then-branch-2-clause-step : goal.returns-then-branch-2-clause-step
returns-then-branch-2-clause-step g c =
    ends_as (after_look {whole = cleaning_chosen _ _} c.in_ok-is_met.ensures.looks c.in_ok-clean_chosen.ensures (λ tells t. record { needs = t; cut = λ d cut. cut; done = λ d ok done. done }))
    (λ tells t. record { needs = t; cut = λ d cut. cut }) (λ tells t done. (rw (c.if-branch-2.true, c.in_ok-is_met.ensures.looks.reads.writes) at done, rw c.if-branch.false at (c.in_ok-is_met.ensures.told tells t)))

pub returns-else-branch-2-clause-step : goal.returns-else-branch-2-clause-step
returns-else-branch-2-clause-step g c =
    let seen = c.in_ok-is_met.ensures in
    ends_as (after_look {whole = cleaning_chosen _ _} seen.looks c.in_ok-clean_chosen.ensures (λ tells t. record { needs = t; cut = λ d cut. cut; done = λ d ok done. done }))
    (λ tells t. record { needs = t; cut = λ d cut. cut })
    (λ tells t done. let none = rw (c.if-branch-2.false, seen.looks.reads.writes) at done in (none.1, (none.0, rw c.if-branch.false at (seen.told tells t)), none.2))

pub returns-in_err-clean_chosen-clause-idle : goal.returns-in_err-clean_chosen-clause-idle
returns-in_err-clean_chosen-clause-idle g c = λ tells t met. let seen = c.in_ok-is_met.ensures in absurd ((rw c.if-branch.false at (seen.told tells t)) met)

pub returns-then-branch-2-clause-idle : goal.returns-then-branch-2-clause-idle
returns-then-branch-2-clause-idle g c = λ tells t met. let seen = c.in_ok-is_met.ensures in absurd ((rw c.if-branch.false at (seen.told tells t)) met)

pub returns-else-branch-2-clause-idle : goal.returns-else-branch-2-clause-idle
returns-else-branch-2-clause-idle g c = λ tells t met. let seen = c.in_ok-is_met.ensures in absurd ((rw c.if-branch.false at (seen.told tells t)) met)
