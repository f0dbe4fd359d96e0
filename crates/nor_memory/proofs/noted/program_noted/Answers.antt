use Rattle.std.proofs.Common.{◌≡◌, ◌+◌, ◌∙◌, ap, length, List, ℕ, inl, rules}
use Rattle.std.specs.List.{slice_range}
use Rattle.nor_core.proofs.Programs.{half_none}
use Rattle.nor_memory.proofs.noted.program_noted.Goals as goal

pub returns-in_default-clause-half : goal.returns-in_default-clause-half
returns-in_default-clause-half c = half_none _ _ _

pub returns-in_default-note_call-clause-half : goal.returns-in_default-note_call-clause-half
returns-in_default-note_call-clause-half c = half_none _ _ _

pub returns-clause-noted : goal.returns-clause-noted
returns-clause-noted c =
    let n = c.in-Ok-note_call.ensures.noted in
    let copied : c.in-Ok.bits.items ≡ c.args.from.now = search rules in
    let before = ap (λ (l : List ℕ). slice_range l c.args.at (c.args.at + length c.args.from.now)) c.image.ensures in
    inl (record { note = n.0; noted = n.1; now_is = n.2; at_is = n.3; asked_is = (c.in-Ok.bits, n.4, copied); before_is = n.5 ∙ before })
