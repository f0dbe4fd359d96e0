-- The command that words spell.
use Rattle.std.specs.Prelude.{◌≡◌, Some, None}
use Rattle.geometry.specs.Numbers.{IsOf}
use Rattle.tool_core.specs.declared.words.Form.{Form}
use Rattle.tool_core.specs.declared.plan.Command.{Command}
use Rattle.tool_parts.specs.Asked.{Asked}
use Rattle.tool_core.specs.Words.{form_of}
use Rattle.tool_core.specs.Plan.{refusal_of}

-- The words are that command's, on volumes of that geometry, and nothing refuses it.
pub record IsPlanned (a : Asked) (command : Command) : Type 0 where
  pub form : Form
  pub words_are : form_of a.words ≡ Some form
  pub verb_is : command.verb ≡ form.verb
  pub numbers : IsOf command.geometry form.numbers.page form.numbers.block form.numbers.blocks form.numbers.block form.numbers.meta form.numbers.magic
  pub accepted : refusal_of a ≡ None
