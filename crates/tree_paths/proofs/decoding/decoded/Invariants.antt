use Rattle.std.proofs.Common.{◌≡◌, ◌++◌, length}
use Rattle.call_script.specs.Texts.{unescaped}
use Rattle.tree_paths.proofs.decoding.decoded.Given as goal

abbrev pub invariant-loop-byte : goal.invariant-loop-byte
invariant-loop-byte l = l.bytes.items ++ unescaped l.rest ≡ unescaped l.name

abbrev pub decreases-loop-byte : goal.decreases-loop-byte
decreases-loop-byte l = length l.rest
