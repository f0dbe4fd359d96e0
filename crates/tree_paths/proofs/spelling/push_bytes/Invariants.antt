use Rattle.std.proofs.Common.{◌≡◌, ◌++◌, take}
use Rattle.std.specs.Prelude.{string_bytes}
use Rattle.tree_paths.specs.Naming.{spelled_bytes}
use Rattle.tree_paths.proofs.spelling.push_bytes.Given as goal

abbrev pub invariant-loop-byte : goal.invariant-loop-byte
invariant-loop-byte l = string_bytes l.path ≡ string_bytes l.fn.path ++ spelled_bytes (take l.byte-index l.bytes)
