use Rattle.std.proofs.Common.{◌≡◌, ◌+◌, ◌≤◌, ◌++◌, length, take}
use Rattle.call_script.specs.Texts.{unescaped}
use Rattle.call_script.proofs.text.unescape.Given as goal

abbrev pub invariant-loop-byte : goal.invariant-loop-byte
invariant-loop-byte l = (take l.length l.into ++ unescaped l.rest ≡ unescaped l.word) × (l.length + length l.rest ≤ length l.into)

abbrev pub decreases-loop-byte : goal.decreases-loop-byte
decreases-loop-byte l = length l.rest
