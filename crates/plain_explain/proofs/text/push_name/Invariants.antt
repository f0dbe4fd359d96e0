-- The text so far, and what is to come.
use Rattle.std.proofs.Common.{◌≡◌, ◌++◌, drop, string_bytes}
use Rattle.std.specs.List.{flat_map}
use Rattle.call_script.specs.Texts.{printed_byte}
use Rattle.plain_explain.proofs.text.push_name.Given as goal

abbrev pub invariant-loop-byte : goal.invariant-loop-byte
invariant-loop-byte l = string_bytes l.text ++ flat_map printed_byte (drop l.byte-index l.name) ≡ string_bytes l.initial.text ++ flat_map printed_byte l.name
