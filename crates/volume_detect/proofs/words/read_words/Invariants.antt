-- The words below were read.
use Rattle.std.proofs.Common.{◌≡◌, ◌*◌, ◌/◌, length}
use Rattle.nor_core.specs.Device.{OnlyReads}
use Rattle.volume_detect.specs.Words.{ReadTo}
use Rattle.volume_detect.proofs.words.read_words.Given as goal

abbrev pub invariant-loop-i : goal.invariant-loop-i
invariant-loop-i g l = record {
  reads : OnlyReads g.N.NorState l.fn.nor l.nor;
  end : l.i-end ≡ 6 * (g.N.NorState.size l.fn.nor / 4096);
  size : length l.words ≡ 12 * (g.N.NorState.size l.fn.nor / 4096);
  told : (g.N.NorState.tells l.fn.nor → ReadTo (g.N.NorState.bytes l.fn.nor) l.i l.words);
}
