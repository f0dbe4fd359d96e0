-- None of the first files has a bad name.
use Rattle.std.proofs.Common.{◌≡◌, ◌-◌, length, IfSome}
use Rattle.folder_core.specs.Puts.{Kept}
use Rattle.folder_plan.specs.Refusals.{first_bad, first_bad_from}
use Rattle.folder_plan.specs.Rising.{AreUpTo}
use Rattle.folder_plan.proofs.names.first_bad_name.Given as goal

abbrev pub invariant-loop-i : goal.invariant-loop-i
invariant-loop-i g l = record {
  kept : Kept g.F.FolderState l.fn.folder l.folder;
  first : first_bad (g.F.FolderState.entries l.fn.folder) ≡ first_bad_from (g.F.FolderState.entries l.fn.folder) l.i (length (g.F.FolderState.entries l.fn.folder) - l.i);
  rising : IfSome l.top (λ t. AreUpTo t l.i (g.F.FolderState.entries l.fn.folder));
}
