use Rattle.std.proofs.Common.{ℕ, ◌+◌, sym, arith}
use Rattle.volume_detect.specs.Rows.{is_marked}
use Rattle.volume_detect.proofs.Runs.{gap_next, no_wider, too_wide, fewer_wide}
use Rattle.volume_detect.proofs.rows.has_wide_gap.Goals as goal

pub returns-then-gap-widest-clause-wide : goal.returns-then-gap-widest-clause-wide
returns-then-gap-widest-clause-wide c = λ yes.
    let good = is_marked c.args.words.now c.args.first c.args.step c.args.g.now in
    let b : ℕ = c.loop-b.b in
    let last = gap_next good b c.loop-b.gap c.gap_after-gap.result c.is_marked.result c.gap_after-gap.ensures (sym c.is_marked.ensures) c.loop-b.invariant.last in
    too_wide good c.args.widest (b + 1) c.gap_after-gap.result c.args.g.now.blocks last c.if-gap-widest.true (omega (arith, c.loop-b-test.true, c.loop-b.invariant.end))

pub loop-b-preserved : goal.loop-b-preserved
loop-b-preserved c =
    let good = is_marked c.args.words.now c.args.first c.args.step c.args.g.now in
    let b : ℕ = c.loop-b.b in
    let was = c.loop-b.invariant in
    let last = gap_next good b c.loop-b.gap c.gap_after-gap.result c.is_marked.result c.gap_after-gap.ensures (sym c.is_marked.ensures) was.last in
    record { end = was.end; narrow = c.if-gap-widest.false; last = last; gaps = no_wider good c.args.widest b c.gap_after-gap.result was.gaps last c.if-gap-widest.false }

pub returns-clause-none : goal.returns-clause-none
returns-clause-none c = λ no.
    fewer_wide (is_marked c.args.words.now c.args.first c.args.step c.args.g.now) c.args.widest c.args.g.now.blocks c.loop-b.b (omega (arith, c.loop-b-test.false, c.loop-b.invariant.end)) c.loop-b.invariant.gaps
