use Rattle.std.proofs.Common.{◌≡◌, ◌∙◌, sym, ap, ℤ, get_or, Some, pos, rules, arith}
use Rattle.std.proofs.lemmas.Grind.{common_steps}
use Rattle.std.proofs.lemmas.Int.{to_z_pos}
use Rattle.std.specs.Int.{w64}
use Rattle.call_script.specs.Numerals.{signed_up_to}
use Rattle.call_script.proofs.Numbers.{signed_plain}
use Rattle.call_script.proofs.number.parse_signed.Goals as goal

pub returns-in_ok-number-in_default : goal.returns-in_ok-number-in_default
returns-in_ok-number-in_default c =
    let plain : get_or c.args.word.now 0 0 ≡ 45 → ⊥ = λ e. grind (arith, common_steps) in
    let spelled : signed_up_to 4294967295 c.args.word.now ≡ Some (pos c.in_ok-number-in_default.number) = signed_plain _ _ _ (search (rules, c.parse_number-in_default.ensures.number, c.in_ok-number-in_default.was)) plain in
    ap (λ (z : ℤ). Some z) (to_z_pos w64 c.in_ok-number-in_default.number (omega (arith, c.in_ok-number-in_default.ensures.bound))) ∙ sym spelled
