use Rattle.std.proofs.Common.{ℕ, false, arith, refl, None, ap, ◌∙◌, replicate, map, take}
use Rattle.fd_table.specs.Slots.{descriptors, held}
use Rattle.fd_table.proofs.Held.{changed_more, changed_all, all_closed, count_held, none_of}
use Rattle.fd_table.proofs.slots.close.Goals as goal

pub loop-slot-preserved : goal.loop-slot-preserved
loop-slot-preserved c = changed_more none_of c.args.slots.now c.loop-slot.slots c.loop-slot.slot-index (record { used = false; id = 0; flags = 0; offset = 0 }) _ (omega arith) (omega arith) refl c.loop-slot.invariant

pub returns : goal.returns
unfolding descriptors
returns c =
    changed_all 65535 none_of c.args.slots.now c.loop-slot.slots c.loop-slot.slot-index (omega arith) c.loop-slot.invariant
    ∙ all_closed (map held (take 65535 c.args.slots.now)) None ∙ ap (λ (n : ℕ). replicate n None) (count_held 65535 c.args.slots.now)
