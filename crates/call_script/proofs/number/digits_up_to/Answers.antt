use Rattle.std.proofs.Common.{◌∙◌, sym, arith}
use Rattle.call_script.proofs.Numbers.{too_large}
use Rattle.call_script.proofs.number.digits_up_to.Goals as goal

pub returns-in_err-checked_mul-clause-number : goal.returns-in_err-checked_mul-clause-number
returns-in_err-checked_mul-clause-number c =
    c.from_residual.ensures ∙ sym (too_large _ _ _ _ c.loop-digit-test.true (sym c.is_ascii_digit.ensures.value ∙ c.if-not-is_ascii_digit.false) (omega (arith, c.in_err-checked_mul.ensures)))
    ∙ c.loop-digit.invariant

pub returns-in_err-number-clause-number : goal.returns-in_err-number-clause-number
returns-in_err-number-clause-number c =
    c.from_residual-in_err-number.ensures ∙ sym (too_large _ _ _ _ c.loop-digit-test.true (sym c.is_ascii_digit.ensures.value ∙ c.if-not-is_ascii_digit.false) (omega (arith, c.in_err-number.ensures, c.in_ok-checked_mul.ensures)))
    ∙ c.loop-digit.invariant
