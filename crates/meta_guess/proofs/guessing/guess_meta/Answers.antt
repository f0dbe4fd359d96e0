use Rattle.std.proofs.Common.{arith}
use Rattle.nor_core.proofs.Cuts.{reads_then}
use Rattle.meta_guess.specs.Guesses.{IsBest}
use Rattle.meta_guess.proofs.Choosing.{guess_given, guess_best}
use Rattle.meta_guess.proofs.guessing.guess_meta.Goals as goal

pub returns-then-given-eq0-clause-told : goal.returns-then-given-eq0-clause-told
returns-then-given-eq0-clause-told g c = λ tells.
    guess_given c.args.g.now (g.N.NorState.bytes c.args.nor.now) c.in_ok-given.given c.meta-meta.result (c.in_ok-given.ensures.told tells) c.if-given-eq0.true c.meta-meta.ensures

pub returns-then-given-eq0-clause-range : goal.returns-then-given-eq0-clause-range
returns-then-given-eq0-clause-range g c = let most = c.args.g.now.valid.meta_most in omega (arith, c.meta-meta.ensures, most)

pub returns-clause-told : goal.returns-clause-told
returns-clause-told g c = λ tells.
    let first = c.in_ok-given.ensures in
    let image = g.N.NorState.bytes c.args.nor.now in
    let found : IsBest c.args.g.now image 65 c.in_ok-meta.meta c.in_ok-meta.best = rw first.reads.bytes at (c.in_ok-meta.ensures.told (first.reads.told tells)) in
    guess_best c.args.g.now image c.in_ok-given.given c.in_ok-meta.best c.in_ok-meta.meta (first.told tells) (omega (arith, c.if-given-eq0.false)) found

pub returns-clause-reads : goal.returns-clause-reads
returns-clause-reads g c = reads_then c.in_ok-given.ensures.reads c.in_ok-meta.ensures.reads

pub returns-then-given-eq0-clause-few : goal.returns-then-given-eq0-clause-few
returns-then-given-eq0-clause-few g c = λ none. c.in_ok-given.ensures.few

pub returns-clause-few : goal.returns-clause-few
returns-clause-few g c = λ none. absurd (c.if-given-eq0.false none)
