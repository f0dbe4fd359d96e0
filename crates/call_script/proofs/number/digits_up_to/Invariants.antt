use Rattle.std.proofs.Common.{◌≡◌, drop}
use Rattle.call_script.specs.Numerals.{at_most, digits_after}
use Rattle.call_script.proofs.number.digits_up_to.Given as goal

abbrev pub invariant-loop-digit : goal.invariant-loop-digit
invariant-loop-digit l = at_most l.most (digits_after l.number (drop l.digit-index l.digits)) ≡ at_most l.most (digits_after 0 l.digits)
