use Rattle.std.proofs.Common.{◌≡◌, ℕ, refl, subst, arith}
use Rattle.nor_core.proofs.Cuts.{reads_then}
use Rattle.meta_guess.specs.declared.counts.Counts.{Counts}
use Rattle.meta_guess.specs.Guesses.{IsBest, CountsBy}
use Rattle.meta_guess.proofs.Choosing.{best_first, best_next, next_below}
use Rattle.meta_guess.proofs.guessing.best_meta.Goals as goal

pub loop-meta-init : goal.loop-meta-init
loop-meta-init g c =
    let first = c.in_ok-first.ensures in
    record {
      reads = first.reads;
      below = omega arith;
      told = λ tells. best_first c.args.g.now (g.N.NorState.bytes c.args.nor.now) c.in_ok-first.first (first.told tells);
    }

pub loop-meta-preserved : goal.loop-meta-preserved
loop-meta-preserved g c =
    let was = c.loop-meta.invariant in
    let turn = c.in_ok-counts.ensures in
    let best = c.loop-meta.best in
    let other : ℕ × Counts = (c.loop-meta.meta, c.in_ok-counts.counts) in
    record {
      reads = reads_then was.reads turn.reads;
      below = next_below c.args.g.now (g.N.NorState.bytes c.args.nor.now) c.loop-meta.meta best other c.better-best.result refl was.below c.better-best.ensures;
      told = λ tells.
          let image = g.N.NorState.bytes c.args.nor.now in
          let by : CountsBy c.args.g.now image c.loop-meta.meta c.in_ok-counts.counts = rw was.reads.bytes at (turn.told (was.reads.told tells)) in
          best_next c.args.g.now image c.loop-meta.meta best other c.better-best.result refl (was.told tells) by c.better-best.ensures;
    }

pub returns-clause-told : goal.returns-clause-told
returns-clause-told g c = λ tells.
    let all : c.loop-meta.meta ≡ 65 = omega (arith, c.loop-meta-test.false, c.loop-meta.auto.meta-end) in
    subst (λ (n : ℕ). IsBest c.args.g.now (g.N.NorState.bytes c.args.nor.now) n c.loop-meta.best.0 c.loop-meta.best.1) all (c.loop-meta.invariant.told tells)

pub returns-clause-range : goal.returns-clause-range
returns-clause-range g c = omega (arith, c.loop-meta.invariant.below, c.loop-meta-test.false, c.loop-meta.auto.meta-end)

pub returns-in_err-counts-clause-reads : goal.returns-in_err-counts-clause-reads
returns-in_err-counts-clause-reads g c = reads_then c.loop-meta.invariant.reads c.count_by-in-loop-meta.ensures.reads
