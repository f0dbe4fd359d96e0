use Rattle.std.proofs.Common.{◌≡◌, ◌∙◌, sym, arith}
use Rattle.std.proofs.lemmas.Grind.{common_steps}
use Rattle.front_words.proofs.Hexed.{too_large}
use Rattle.front_words.proofs.amount.hex_up_to.Goals as goal

pub returns-then-number-gt-MOST : goal.returns-then-number-gt-MOST
returns-then-number-gt-MOST c =
    let value = c.in_ok-value.ensures.value in
    sym (too_large c.loop-digit.number c.args.digits.now c.loop-digit.digit-index (omega arith) (grind (arith, common_steps)) (omega (arith, value, c.if-number-gt-MOST.true))) ∙ c.loop-digit.invariant.same
