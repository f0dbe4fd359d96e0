-- The lines of the first candidates were said.
use Rattle.std.proofs.Common.{◌≤◌, List}
use Rattle.volume_rank.specs.declared.found.Found.{Found}
use Rattle.detect_tool.specs.Ranked.{IsRanking}
use Rattle.detect_tool.proofs.Telling.{Said}
use Rattle.detect_tool.proofs.saying.say_all.Given as goal

abbrev pub invariant-loop-i : goal.invariant-loop-i
invariant-loop-i g l = record {
  faults : g.B.NorState.faults l.fn.board ≤ g.B.NorState.faults l.board;
  said : (list : List Found) → IsRanking l.found list → Said g.B.NorState list l.i l.last l.fn.board l.board;
}
