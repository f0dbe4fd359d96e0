-- None of the first files has the name.
use Rattle.std.proofs.Common.{◌≡◌, false, take}
use Rattle.folder_core.specs.Puts.{Kept}
use Rattle.folder_plan.specs.Refusals.{is_name_of}
use Rattle.folder_plan.proofs.names.is_taken.Given as goal

abbrev pub invariant-loop-k : goal.invariant-loop-k
invariant-loop-k g l = record {
  kept : Kept g.F.FolderState l.fn.folder l.folder;
  none : is_name_of l.name (take l.k (g.F.FolderState.entries l.fn.folder)) ≡ false;
}
