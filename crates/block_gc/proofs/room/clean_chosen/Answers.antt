use Rattle.std.proofs.Common.{◌≡◌, refl, sym, ◌∙◌, rules, arith, Err}
use Rattle.flash_view.proofs.Stepped.{looked, look_faults, after_look, passes, ends_as}
use Rattle.block_gc.proofs.Cleanings.{none_cut, chosen_can, cleans_chosen, one_cleaned}
use Rattle.block_gc.proofs.room.clean_chosen.Goals as goal

pub returns-in_err-block : goal.returns-in_err-block
returns-in_err-block g c = let seen = c.in_err-block.ensures in look_faults seen.looks seen.cause c.from_residual.ensures.0 c.from_residual.ensures.1 (λ tells t. none_cut _ _ t)

pub returns-in_default : goal.returns-in_default
returns-in_default g c =
    let seen = c.in_ok-block.ensures in
    looked seen.looks (λ e. absurd (cc)) tt (λ tells t. (none_cut _ _ t, (sym (seen.told tells t) ∙ c.in_default.is, refl, let same = seen.looks.reads.writes in omega (arith, same))))

pub returns-in_err-clean : goal.returns-in_err-clean
returns-in_err-clean g c =
    let seen = c.in_ok-block.ensures in
    let is : c.from_residual-in_err-clean.result ≡ Err c.in_err-clean.field-0.0 = search rules in
    passes (after_look seen.looks c.in_err-clean.ensures.step (λ tells can. record { needs = can; cut = λ d cut. cut; done = λ d ok done. done })) is
    (λ tells t. cleans_chosen _ _ _ (sym (seen.told tells t) ∙ c.in-Some.is) t)

pub returns : goal.returns
returns g c =
    let seen = c.in_ok-block.ensures in
    let block = c.in-Some.block in
    ends_as (after_look seen.looks c.in_ok-clean.ensures.step (λ tells can. record { needs = can; cut = λ d cut. cut; done = λ d ok done. done }))
    (λ tells t. cleans_chosen _ _ block (sym (seen.told tells t) ∙ c.in-Some.is) t)
    (λ tells t done.
    let chosen = sym (seen.told tells t) ∙ c.in-Some.is in
    let few = rw (seen.looks.same.geometry, seen.looks.reads.bytes, seen.looks.reads.writes) at (c.in_ok-clean.ensures.few (seen.looks.reads.told tells)) in
    one_cleaned _ _ _ _ _ block chosen done (few (chosen_can _ _ block t chosen)))
