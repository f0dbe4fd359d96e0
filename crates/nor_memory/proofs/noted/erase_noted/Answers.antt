use Rattle.std.proofs.Common.{◌+◌, ◌*◌, ◌∙◌, ap, List, ℕ, inl}
use Rattle.std.specs.List.{slice_range}
use Rattle.nor_memory.proofs.noted.erase_noted.Goals as goal

pub returns-clause-noted : goal.returns-clause-noted
returns-clause-noted c =
    let n = c.in-Ok.ensures.noted in
    let unit = c.unit-unit.ensures in
    let start = ap (λ (u : ℕ). c.args.unit_ix * u) unit in
    let before = ap (λ (l : List ℕ). slice_range l (c.args.unit_ix * c.unit-unit.result) (c.args.unit_ix * c.unit-unit.result + c.unit-unit.result)) c.image.ensures in
    let range = ap (λ (u : ℕ). slice_range c.args.board.now.bytes.items (c.args.unit_ix * u) (c.args.unit_ix * u + u)) unit in
    inl (record { note = n.0; noted = n.1; now_is = n.2; at_is = n.3 ∙ start; asked_is = n.4; before_is = n.5 ∙ before ∙ range })
