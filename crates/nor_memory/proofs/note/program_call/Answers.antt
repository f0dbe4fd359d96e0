use Rattle.std.proofs.Common.{◌≡◌, refl, rules}
use Rattle.nor_memory.proofs.note.program_call.Goals as goal

pub returns : goal.returns
returns c =
    let asked : c.in_ok-to_vec.field-0.items ≡ c.args.asked.now = search rules in
    let left : c.in_ok-to_vec-2.field-0.items ≡ c.args.left.now = search rules in
    record { bits = c.in_ok-to_vec.field-0; left_bits = c.in_ok-to_vec-2.field-0; call_is = refl; asked_is = asked; left_is = left }
