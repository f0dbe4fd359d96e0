-- The numbers below were tried.
use Rattle.std.proofs.Common.{◌<◌}
use Rattle.nor_core.specs.Device.{OnlyReads}
use Rattle.meta_guess.specs.Guesses.{IsBest}
use Rattle.meta_guess.proofs.guessing.best_meta.Given as goal

abbrev pub invariant-loop-meta : goal.invariant-loop-meta
invariant-loop-meta g l = record {
  reads : OnlyReads g.N.NorState l.fn.nor l.nor;
  below : l.best.0 < l.meta;
  told : (g.N.NorState.tells l.fn.nor → IsBest l.g (g.N.NorState.bytes l.fn.nor) l.meta l.best.0 l.best.1);
}
