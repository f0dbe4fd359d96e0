use Rattle.std.proofs.Common.{◌≡◌, ℕ, ◌+◌, ◌*◌, ◌/◌, ◌≤◌, arith, subst}
use Rattle.std.proofs.Math.Nat.{mul-le-mul_right}
use Rattle.vol_mount.specs.Formatted.{BlankTo}
use Rattle.vol_mount.proofs.Blanks.{blank_more}
use Rattle.vol_mount.proofs.Inside.{inside_then}
use Rattle.vol_mount.proofs.formatting.format_blocks.Goals as goal

-- so many for one block more
one_more : (n each first was now : ℕ) → was ≤ first + n * each → now ≤ was + each → now ≤ first + (n + 1) * each
one_more n each first was now before step =
    let more : (n + 1) * each ≡ n * each + each = omega arith in
    omega (arith, before, step, more)

-- and no more than for all
most : (n all each first now : ℕ) → n ≤ all → now ≤ first + n * each → now ≤ first + all * each
most n all each first now below few =
    let more : n * each ≤ all * each = mul-le-mul_right each below in
    omega (arith, few, more)

pub loop-block-preserved : goal.loop-block-preserved
loop-block-preserved g c =
    let was = c.loop-block.invariant in
    let step = c.in_ok-format_block.ensures in
    record {
      changes = inside_then _ was.changes step.changes;
      end = was.end;
      below = omega (arith, was.end, c.loop-block-test.true);
      few = one_more c.loop-block.block (c.args.g.now.block / c.args.g.now.phys + 2) _ _ _ was.few step.few;
      done = λ tells. blank_more c.args.g.now c.loop-block.block (g.N.NorState.bytes c.args.nor.now) (g.N.NorState.bytes c.loop-block.nor) (g.N.NorState.bytes c.format_block.new.nor) (was.done tells) (step.done (was.changes.cuts.told tells));
    }

pub returns-clause-done : goal.returns-clause-done
returns-clause-done g c = λ tells.
    let was = c.loop-block.invariant in
    let all : c.loop-block.block ≡ c.args.g.now.blocks = omega (arith, was.end, c.loop-block-test.false, c.loop-block.auto.block-end) in
    subst (λ (n : ℕ). BlankTo c.args.g.now n (g.N.NorState.bytes c.args.nor.now) (g.N.NorState.bytes c.loop-block.nor)) all (was.done tells)

pub returns-in_err-format_block-clause-changes : goal.returns-in_err-format_block-clause-changes
returns-in_err-format_block-clause-changes g c = inside_then _ c.loop-block.invariant.changes c.format_block.ensures.changes

pub returns-in_err-format_block-clause-few : goal.returns-in_err-format_block-clause-few
returns-in_err-format_block-clause-few g c =
    let was = c.loop-block.invariant in
    let each = c.args.g.now.block / c.args.g.now.phys + 2 in
    most (c.loop-block.block + 1) c.args.g.now.blocks each _ _ (omega (arith, was.end, c.loop-block-test.true)) (one_more c.loop-block.block each _ _ _ was.few c.format_block.ensures.few)

pub returns-clause-few : goal.returns-clause-few
returns-clause-few g c =
    let was = c.loop-block.invariant in
    most c.loop-block.block c.args.g.now.blocks (c.args.g.now.block / c.args.g.now.phys + 2) _ _ was.below was.few
