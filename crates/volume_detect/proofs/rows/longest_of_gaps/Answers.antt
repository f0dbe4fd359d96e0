use Rattle.std.proofs.Common.{arith, ◌==◌, sym, ap}
use Rattle.volume_detect.specs.Rows.{is_equal}
use Rattle.volume_detect.proofs.Runs.{widest_end}
use Rattle.volume_detect.proofs.rows.longest_of_gaps.Goals as goal

pub returns-then-gap-gt2 : goal.returns-then-gap-gt2
returns-then-gap-gt2 c =
    let here = ap (λ (x : _). x == c.args.magic) (sym c.word.ensures) in
    widest_end (is_equal c.args.words.now c.args.first c.args.step c.args.magic) c.loop-b.b c.args.most c.loop-b.longest c.loop-b.gap (c.word.result == c.args.magic) here (omega (arith, c.gap_after-gap.ensures, c.if-gap-gt2.true)) c.loop-b-test.true c.loop-b.invariant
