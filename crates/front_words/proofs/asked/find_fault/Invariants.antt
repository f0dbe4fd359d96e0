use Rattle.std.proofs.Common.{◌≡◌, map, drop}
use Rattle.std.specs.Prelude.{string_bytes}
use Rattle.front_words.specs.Tokens.{parts}
use Rattle.front_words.specs.Asking.{first_fault, all_slots, gifts}
use Rattle.front_words.proofs.asked.find_fault.Given as goal

abbrev pub invariant-loop-slot : goal.invariant-loop-slot
invariant-loop-slot l = first_fault l.fn.word (gifts (parts (map string_bytes l.fn.words))) (drop l.slot-index all_slots) ≡ first_fault l.fn.word (gifts (parts (map string_bytes l.fn.words))) all_slots
