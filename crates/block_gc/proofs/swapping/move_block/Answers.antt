use Rattle.std.proofs.Common.{◌≡◌, rules, arith, Ok, Err}
use Rattle.flash_view.specs.Steps.{Stepped, stopped}
use Rattle.flash_view.proofs.Stepped.{passes, stepped_then, ends_as}
use Rattle.block_gc.proofs.Swaps.{cleaning_within, move_begins, cleaned_begins, move_ends}
use Rattle.block_gc.proofs.swapping.move_block.Goals as goal

pub returns-in_err-clean : goal.returns-in_err-clean
returns-in_err-clean g c =
    let is : c.from_residual.result ≡ Err c.in_err-clean.field-0.0 = search rules in
    passes c.in_err-clean.ensures.step is (λ tells can. move_begins _ _ c.args.block can)

pub returns : goal.returns
returns g c =
    let first : Stepped stopped c.args.v.now c.clean.new.v (Ok tt) (cleaning_within c.args.block (g.N.NorState.device_writes c.args.v.now.nor.now) (g.N.NorState.device_writes c.clean.new.v.nor.now)) =
    ends_as c.in_ok-clean.ensures.step (λ tells can. record { needs = can; cut = λ d cut. cut }) (λ tells can done. (done, let few = c.in_ok-clean.ensures.few tells can in omega (arith, few))) in
    stepped_then first c.free_up.ensures.step (λ tells can. cleaned_begins _ _ c.args.block can) (λ tells can done. move_ends _ _ _ c.args.block can done)
