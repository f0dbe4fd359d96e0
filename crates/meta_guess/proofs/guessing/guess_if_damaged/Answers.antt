use Rattle.std.proofs.Common.{◌<◌, arith}
use Rattle.nor_core.proofs.Cuts.{reads_then}
use Rattle.meta_guess.specs.Guesses.{IsBest}
use Rattle.meta_guess.proofs.Choosing.{guess_best}
use Rattle.meta_guess.proofs.Sound.{none_counted}
use Rattle.meta_guess.proofs.guessing.guess_if_damaged.Goals as goal

pub returns-clause-told : goal.returns-clause-told
returns-clause-told g c = λ tells.
    let first = c.in_ok-counts.ensures in
    let image = g.N.NorState.bytes c.args.nor.now in
    let given = rw c.in-Some.is at (first.told tells) in
    let found : IsBest c.args.g.now image 65 c.in_ok-meta.meta c.in_ok-meta.best = rw first.reads.bytes at (c.in_ok-meta.ensures.told (first.reads.told tells)) in
    let some : 0 < c.in-Some.counts.damaged = omega (arith, c.if-counts-eq0.false) in
    (guess_best c.args.g.now image c.in-Some.counts c.in_ok-meta.best c.in_ok-meta.meta given some found, some)

pub returns-then-counts-eq0-clause-told : goal.returns-then-counts-eq0-clause-told
returns-then-counts-eq0-clause-told g c = λ tells.
    let given = rw c.in-Some.is at (c.in_ok-counts.ensures.told tells) in
    none_counted c.args.g.now (g.N.NorState.bytes c.args.nor.now) c.in-Some.counts.damaged given.damaged c.if-counts-eq0.true

pub returns-clause-reads : goal.returns-clause-reads
returns-clause-reads g c = reads_then c.in_ok-counts.ensures.reads c.in_ok-meta.ensures.reads
