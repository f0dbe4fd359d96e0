use Rattle.std.proofs.Common.{sym, ◌∙◌}
use Rattle.meta_tally.specs.Counted.{shadows}
use Rattle.meta_tally.proofs.Finds.{any_here, any_later, any_past}
use Rattle.meta_tally.proofs.tally.is_shadowed.Goals as goal

pub returns-then-shadows_at : goal.returns-then-shadows_at
returns-then-shadows_at c = any_here (shadows c.args.g.now c.args.image.now c.args.name.now) c.loop-q.q _ _ c.loop-q-test.true c.loop-q.invariant (sym c.shadows_at.ensures ∙ c.if-shadows_at.true)

pub loop-q-preserved : goal.loop-q-preserved
loop-q-preserved c = any_later (shadows c.args.g.now c.args.image.now c.args.name.now) c.loop-q.q _ _ c.loop-q-test.true c.loop-q.invariant (sym c.shadows_at.ensures ∙ c.if-shadows_at.false)

pub returns : goal.returns
returns c = any_past (shadows c.args.g.now c.args.image.now c.args.name.now) c.loop-q.q _ _ c.loop-q-test.false c.loop-q.invariant
