-- A command that is refused before the device was read is refused for its words, numbers, device or memory.
use Rattle.std.proofs.Common.{ℕ, ◌≡◌, subst}
use Rattle.std.specs.Prelude.{Option, Some, None}
use Rattle.tool_parts.specs.declared.buffers.Lengths.{Lengths}
use Rattle.tool_parts.specs.declared.ending.Ending.{Ending}
use Rattle.tool_parts.specs.Asked.{Asked}
use Rattle.tool_parts.specs.Early.{IsEarly, IsEarlyIf}
use Rattle.tool_parts.proofs.Early.{length_early, refused_early}
use Rattle.tool_core.specs.declared.words.Form.{Form}
use Rattle.tool_core.specs.Words.{form_of}
use Rattle.tool_core.specs.Plan.{volume_refusal, refusal_for, refusal_of}

form_early : (form : Option Form) (unit size : ℕ) (lent : Lengths) → IsEarlyIf (refusal_for form unit size lent)
form_early None unit size lent = tt {0}
form_early (Some f) unit size lent = refused_early (volume_refusal f unit size) _ (length_early f.numbers.page f.numbers.block f.numbers.blocks lent)

refusal_early : (a : Asked) → IsEarlyIf (refusal_of a)
unfolding refusal_of
refusal_early a = form_early (form_of a.words) a.unit a.size a.lent

-- such an ending
pub ending_early : (a : Asked) (ending : Ending) → refusal_of a ≡ Some ending → IsEarly ending
ending_early a ending is = subst (λ (o : Option Ending). IsEarlyIf o) is (refusal_early a)
