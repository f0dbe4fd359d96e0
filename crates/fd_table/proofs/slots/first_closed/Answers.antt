use Rattle.std.proofs.Common.{◌∙◌, ap, sym, ℕ, Some, arith}
use Rattle.fd_table.specs.declared.slot.FdSlot.{FdSlot}
use Rattle.fd_table.specs.Slots.{descriptors, lowest_closed}
use Rattle.fd_table.proofs.Held.{none_closed, closed_here}
use Rattle.fd_table.proofs.slots.first_closed.Goals as goal

pub returns-then-at-eq-MOST-clause-full : goal.returns-then-at-eq-MOST-clause-full
unfolding descriptors lowest_closed
returns-then-at-eq-MOST-clause-full c = none_closed 65535 c.args.slots.now 1 (λ k d low h. c.loop-at.invariant.1 k d (omega arith))

pub returns-then-not-slot-clause-lowest : goal.returns-then-not-slot-clause-lowest
unfolding descriptors lowest_closed
returns-then-not-slot-clause-lowest c =
    closed_here 65535 c.args.slots.now 1 c.loop-at.at c.index-slots-at.result (omega arith) c.loop-at-test.true (sym (ap (λ (s : FdSlot). s.used) c.index-slots-at.is) ∙ c.if-not-slot.true) c.loop-at.invariant.1
    ∙ ap (λ (n : ℕ). Some n) (omega arith)

pub returns-clause-full : goal.returns-clause-full
unfolding descriptors lowest_closed
returns-clause-full c = none_closed 65535 c.args.slots.now 1 (λ k d low h. c.loop-at.invariant.1 k d (omega arith))
