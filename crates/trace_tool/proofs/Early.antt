-- What is refused before the chip is read is refused for its words, numbers, device or memory.
use Rattle.std.proofs.Common.{ℕ, ◌≡◌, subst}
use Rattle.std.specs.Prelude.{Option, Some, None}
use Rattle.tool_parts.specs.declared.buffers.Lengths.{Lengths}
use Rattle.tool_parts.specs.declared.ending.Ending.{Ending}
use Rattle.tool_parts.specs.declared.words.Numbers.{Numbers}
use Rattle.tool_parts.specs.Accepting.{write_refusal_of}
use Rattle.tool_parts.specs.Asked.{Asked}
use Rattle.tool_parts.specs.Early.{IsEarly, IsEarlyIf}
use Rattle.tool_parts.proofs.Early.{length_early, refused_early}
use Rattle.trace_tool.specs.Words.{numbers_of}
use Rattle.trace_tool.specs.Planned.{refusal_for, refusal_of}

words_early : (numbers : Option Numbers) (unit size : ℕ) (lent : Lengths) → IsEarlyIf (refusal_for numbers unit size lent)
words_early None unit size lent = tt {0}
words_early (Some n) unit size lent = refused_early (write_refusal_of n unit size) _ (length_early n.page n.block n.blocks lent)

refusal_early : (a : Asked) → IsEarlyIf (refusal_of a)
unfolding refusal_of
refusal_early a = words_early (numbers_of a.words) a.unit a.size a.lent

-- such an ending
pub ending_early : (a : Asked) (ending : Ending) → refusal_of a ≡ Some ending → IsEarly ending
ending_early a ending is = subst (λ (o : Option Ending). IsEarlyIf o) is (refusal_early a)
