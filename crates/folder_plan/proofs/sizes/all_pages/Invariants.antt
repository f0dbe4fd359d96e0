-- The pages of the first files were summed.
use Rattle.std.proofs.Common.{◌≡◌, ◌*◌, ◌^◌, ◌≤◌, take}
use Rattle.folder_core.specs.Puts.{Kept}
use Rattle.folder_plan.specs.Refusals.{index_sum, data_sum}
use Rattle.folder_plan.proofs.sizes.all_pages.Given as goal

abbrev pub invariant-loop-i : goal.invariant-loop-i
invariant-loop-i g l = record {
  kept : Kept g.F.FolderState l.fn.folder l.folder;
  index : l.all.index_pages ≡ index_sum l.g (take l.i (g.F.FolderState.entries l.fn.folder));
  pages : l.all.data_pages ≡ data_sum l.g (take l.i (g.F.FolderState.entries l.fn.folder));
  few_index : l.all.index_pages ≤ l.i * 2 ^ 65;
  few_pages : l.all.data_pages ≤ l.i * 2 ^ 65;
}
