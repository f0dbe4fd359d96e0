use Rattle.std.proofs.Common.{◌∙◌, ap, sym, arith}
use Rattle.fd_table.specs.Slots.{descriptors, held}
use Rattle.fd_table.proofs.Held.{open_none, open_held, open_past, held_used, held_closed}
use Rattle.fd_table.proofs.slots.open_slot.Goals as goal
use Rattle.fd_table.proofs.slots.open_slot.Goals.{then-fd-eq0-via-then-fd-eq0, then-fd-eq0-via-else-fd-eq0+then-slots-from}

pub returns-then-fd-eq0-clause-closed : goal.returns-then-fd-eq0-clause-closed
unfolding descriptors
returns-then-fd-eq0-clause-closed c =
    elim c.then-fd-eq0.branch [ then-fd-eq0-via-then-fd-eq0 w ↦ open_none _ _ w.if-fd-eq0.true | then-fd-eq0-via-else-fd-eq0+then-slots-from w ↦ open_past 65535 c.args.slots.now c.args.fd (omega arith) ]

pub returns-then-slot-clause-found : goal.returns-then-slot-clause-found
unfolding descriptors
returns-then-slot-clause-found c = open_held 65535 c.args.slots.now c.args.fd c.from-2.result c.index-slots-from.result c.from-2.ensures (omega arith) (omega arith) (omega arith) ∙ ap held (sym c.index-slots-from.is) ∙ held_used _ c.if-slot.true

pub returns-else-slot-clause-closed : goal.returns-else-slot-clause-closed
unfolding descriptors
returns-else-slot-clause-closed c = open_held 65535 c.args.slots.now c.args.fd c.from-2.result c.index-slots-from.result c.from-2.ensures (omega arith) (omega arith) (omega arith) ∙ ap held (sym c.index-slots-from.is) ∙ held_closed _ c.if-slot.false
