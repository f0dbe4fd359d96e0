use Rattle.std.proofs.Common.{◌+◌, List, ℕ, sym, subst}
use Rattle.meta_tally.specs.Names.{Noted}
use Rattle.meta_tally.proofs.Tallies.{noted_one}
use Rattle.meta_tally.proofs.tally.from_where.Goals as goal

pub returns-then-note_name-clause-noted : goal.returns-then-note_name-clause-noted
returns-then-note_name-clause-noted c =
    let g = c.args.g.now in
    let image = c.args.image.now in
    subst (λ (x : List ℕ). Noted g image (c.args.p + 1) x) (sym c.note_name.ensures.noted)
    (noted_one g image c.args.p c.args.name.now c.args.names.now c.note_name.ensures.few c.requires.head c.requires.noted)

pub returns-else-note_name-clause-noted : goal.returns-else-note_name-clause-noted
returns-else-note_name-clause-noted c =
    let g = c.args.g.now in
    let image = c.args.image.now in
    subst (λ (x : List ℕ). Noted g image (c.args.p + 1) x) (sym c.note_name.ensures.noted)
    (noted_one g image c.args.p c.args.name.now c.args.names.now c.note_name.ensures.few c.requires.head c.requires.noted)
