-- What was read and what is left are the script.
use Rattle.std.proofs.Common.{◌≡◌, ◌-◌, ◌≤◌, ◌++◌, length}
use Rattle.rehearse_tool.proofs.input.read_script.Given as goal

abbrev pub invariant-loop-script : goal.invariant-loop-script
invariant-loop-script g l = record {
  whole : g.S.Source.tells l.fn.script → l.text.items ++ g.S.Source.left l.script ≡ g.S.Source.left l.fn.script;
  told : g.S.Source.tells l.fn.script → g.S.Source.tells l.script;
  faults : g.S.Source.faults l.fn.script ≤ g.S.Source.faults l.script;
}

abbrev pub decreases-loop-script : goal.decreases-loop-script
decreases-loop-script g l = 16777217 - length l.text.items
