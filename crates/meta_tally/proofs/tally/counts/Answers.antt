use Rattle.std.proofs.Common.{◌≡◌, sym, ◌∙◌, ap, not, true, false, arith}
use Rattle.meta_tally.specs.Wholes.{is_complete_at}
use Rattle.meta_tally.proofs.Alike.{alike_of, same_marked, same_pages}
use Rattle.meta_tally.proofs.Tallies.{incomplete, complete}
use Rattle.meta_tally.proofs.tally.counts.Goals as goal

pub is_complete_at-requires-clause-page : goal.is_complete_at-requires-clause-page
is_complete_at-requires-clause-page c =
    let alike = alike_of c.args.g.now c.with_meta-h.result c.args.meta c.with_meta-h.ensures in
    rw (same_pages c.args.g.now c.with_meta-h.result alike) c.requires.page

pub is_shadowed-requires-clause-marked : goal.is_shadowed-requires-clause-marked
is_shadowed-requires-clause-marked c =
    let alike = alike_of c.args.g.now c.with_meta-h.result c.args.meta c.with_meta-h.ensures in
    same_marked c.args.g.now c.with_meta-h.result alike c.args.image.now c.args.marks.now c.requires.marked

pub is_shadowed-requires-clause-end : goal.is_shadowed-requires-clause-end
is_shadowed-requires-clause-end c =
    let alike = alike_of c.args.g.now c.with_meta-h.result c.args.meta c.with_meta-h.ensures in
    rw (same_pages c.args.g.now c.with_meta-h.result alike) (omega (arith, c.requires.page))

pub returns-then-not-is_complete_at : goal.returns-then-not-is_complete_at
returns-then-not-is_complete_at c = λ h same at.
    let g = c.args.g.now in
    let k = c.with_meta-h.result in
    let alike = alike_of g k c.args.meta c.with_meta-h.ensures in
    let fails : is_complete_at k c.args.image.now c.args.p ≡ false = grind (arith, c.is_complete_at.ensures, c.if-not-is_complete_at.true) in
    incomplete g k c.args.image.now c.args.from c.args.p c.args.name.now alike c.requires.from c.requires.none c.requires.head fails h same (at ∙ sym c.with_meta-h.ensures.meta_is)

pub returns : goal.returns
returns c = λ h same at.
    let g = c.args.g.now in
    let k = c.with_meta-h.result in
    let alike = alike_of g k c.args.meta c.with_meta-h.ensures in
    let passes : is_complete_at k c.args.image.now c.args.p ≡ true = grind (arith, c.is_complete_at.ensures, c.if-not-is_complete_at.false) in
    ap not c.is_shadowed.ensures
    ∙ complete g k c.args.image.now c.args.from c.args.p c.args.name.now alike c.requires.from c.requires.none c.requires.head passes h same (at ∙ sym c.with_meta-h.ensures.meta_is)
