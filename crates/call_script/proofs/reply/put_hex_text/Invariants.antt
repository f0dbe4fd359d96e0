use Rattle.std.proofs.Common.{◌≤◌, ◌+◌, ◌*◌, take}
use Rattle.call_script.specs.Texts.{hex_text}
use Rattle.call_script.specs.Pieces.{Puts}
use Rattle.call_script.proofs.reply.put_hex_text.Given as goal

abbrev pub invariant-loop-byte : goal.invariant-loop-byte
invariant-loop-byte l = Puts l.initial.into l.at (hex_text (take l.byte-index l.bytes)) l.into l.end × (l.end ≤ l.at + 2 * l.byte-index)
