use Rattle.std.proofs.Common.{◌∙◌, IsTrue, false, map, ap, sym, refl, arith}
use Rattle.plain_table.specs.Seen.{file, files_of}
use Rattle.plain_table.proofs.Among.{among_here, among_on, among_end}
use Rattle.plain_table.proofs.same.is_among.Goals as goal

pub returns-then-are_same : goal.returns-then-are_same
returns-then-are_same c = (
  λ h. c.loop-other.invariant.0 (among_here files_of (map file c.args.table.now) c.args.tables.now c.loop-other.other-index c.other-item.result c.loop-other-test.true c.other-item.is (c.are_same.ensures.0 c.if-are_same.true ∙ ap (map file) c.as_slice.ensures.value)),
  λ h. refl,
)

pub loop-other-preserved : goal.loop-other-preserved
loop-other-preserved c =
    let step = among_on files_of (map file c.args.table.now) c.args.tables.now c.loop-other.other-index c.other-item.result c.loop-other-test.true c.other-item.is (λ is. let yes = c.are_same.ensures.1 (is ∙ ap (map file) (sym c.as_slice.ensures.value)) in absurd (grind (arith, yes))) in
    (λ h. c.loop-other.invariant.0 (step.1 h), λ h. step.0 (c.loop-other.invariant.1 h))

pub returns : goal.returns
returns c = (
  λ (h : IsTrue false). absurd (cc),
  λ h. absurd (among_end files_of (map file c.args.table.now) c.args.tables.now c.loop-other.other-index (omega arith) (c.loop-other.invariant.1 h)),
)
