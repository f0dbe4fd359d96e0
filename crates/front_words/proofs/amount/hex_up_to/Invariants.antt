use Rattle.std.proofs.Common.{◌≡◌, ◌≤◌, drop}
use Rattle.front_words.specs.Amounts.{hex_after, up_to}
use Rattle.front_words.proofs.amount.hex_up_to.Given as goal

abbrev pub invariant-loop-digit : goal.invariant-loop-digit
invariant-loop-digit l = record {
  small : l.number ≤ 4294967295;
  same : up_to (hex_after l.number (drop l.digit-index l.digits)) ≡ up_to (hex_after 0 l.digits);
}
