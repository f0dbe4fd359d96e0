-- Words spell one command.
use Rattle.std.proofs.Common.{◌≡◌, sym, ◌∙◌, ap, subst, Some}
use Rattle.geometry.specs.Numbers.{IsOf}
use Rattle.geometry.proofs.Geometries.{same_numbers}
use Rattle.tool_core.specs.declared.words.Form.{Form}
use Rattle.tool_core.specs.declared.plan.Command.{Command}
use Rattle.tool_parts.specs.Asked.{Asked}
use Rattle.tool_core.specs.Planned.{IsPlanned}

same_command : (x y : Command) → x.verb ≡ y.verb → x.geometry ≡ y.geometry → x ≡ y
same_command x y verb geometry = λ i. record { verb = verb i; geometry = geometry i }

-- words spell one command
pub one_plan : {a : Asked} {x y : Command} → IsPlanned a x → IsPlanned a y → x ≡ y
one_plan {a} {x} {y} first second =
    let both : Some first.form ≡ Some second.form = sym first.words_are ∙ second.words_are in
    let same : first.form ≡ second.form = cc in
    let again : IsOf y.geometry first.form.numbers.page first.form.numbers.block first.form.numbers.blocks first.form.numbers.block first.form.numbers.meta first.form.numbers.magic = subst (λ (f : Form). IsOf y.geometry f.numbers.page f.numbers.block f.numbers.blocks f.numbers.block f.numbers.meta f.numbers.magic) (sym same) second.numbers in
    let numbers = first.numbers in
    same_command x y (first.verb_is ∙ ap (λ (f : Form). f.verb) same ∙ sym second.verb_is)
    (same_numbers x.geometry y.geometry (numbers.page_is ∙ sym again.page_is) (numbers.block_is ∙ sym again.block_is) (numbers.blocks_is ∙ sym again.blocks_is) (numbers.phys_is ∙ sym again.phys_is) (numbers.meta_is ∙ sym again.meta_is) (numbers.magic_is ∙ sym again.magic_is))
