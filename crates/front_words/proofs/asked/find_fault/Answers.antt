use Rattle.std.proofs.Common.{◌∙◌, sym, map}
use Rattle.std.specs.Prelude.{string_bytes}
use Rattle.front_words.specs.Tokens.{parts, held_by}
use Rattle.front_words.specs.Asking.{gifts, all_slots}
use Rattle.front_words.proofs.Refusing.{fault_here, fault_behind}
use Rattle.front_words.proofs.asked.find_fault.Goals as goal

pub returns-then-is_some : goal.returns-then-is_some
returns-then-is_some c =
    fault_here c.args.word (gifts (parts (map string_bytes c.args.words.now))) all_slots c.loop-slot.slot-index _ (held_by c.given_for.result) c.fault-found.result c.loop-slot-test.true c.fault-found.ensures c.given_for.ensures (sym c.is_some.ensures ∙ c.if-is_some.true)
    ∙ c.loop-slot.invariant

pub loop-slot-preserved : goal.loop-slot-preserved
loop-slot-preserved c =
    fault_behind c.args.word (gifts (parts (map string_bytes c.args.words.now))) all_slots c.loop-slot.slot-index _ (held_by c.given_for.result) c.fault-found.result c.loop-slot-test.true c.fault-found.ensures c.given_for.ensures (sym c.is_some.ensures ∙ c.if-is_some.false)
    ∙ c.loop-slot.invariant
