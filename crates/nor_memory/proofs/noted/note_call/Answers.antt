use Rattle.std.proofs.Common.{◌≡◌, refl, rules}
use Rattle.nor_memory.proofs.noted.note_call.Goals as goal

pub returns-clause-noted : goal.returns-clause-noted
returns-clause-noted c =
    let copied : c.in_ok-before.before.items ≡ c.args.before.now = search rules in
    (record { now = c.args.now; at = c.args.at; asked = c.args.asked; before = c.in_ok-before.before }, c.in_ok-push.ensures.items, refl, refl, refl, copied)
