use Rattle.std.proofs.Common.{◌<◌, length, arith, sym}
use Rattle.folder_plan.proofs.Keeping.{kept_none, kept_then}
use Rattle.folder_plan.proofs.Summing.{index_none, data_none, index_step, data_step}
use Rattle.folder_plan.proofs.sizes.all_pages.Goals as goal

pub loop-i-init : goal.loop-i-init
loop-i-init g c = record {
  kept = kept_none c.args.folder.now;
  index = sym (index_none c.args.g.now (g.F.FolderState.entries c.args.folder.now));
  pages = sym (data_none c.args.g.now (g.F.FolderState.entries c.args.folder.now));
  few_index = omega arith;
  few_pages = omega arith;
}

pub loop-i-preserved : goal.loop-i-preserved
loop-i-preserved g c =
    let was = c.loop-i.invariant in
    let entries = g.F.FolderState.entries c.args.folder.now in
    let pages = c.pages_of-pages.ensures in
    let inside : c.loop-i.i < length entries = omega (arith, c.loop-i-test.true, c.requires.count) in
    record {
      kept = kept_then was.kept c.in_ok-size.ensures.kept;
      index = index_step c.args.g.now entries _ c.loop-i.i c.loop-i.all.index_pages c.pages_of-pages.result.index_pages c.in_ok-size.field-0 inside was.kept.entries c.in_ok-size.ensures.size pages.index_pages was.index;
      pages = data_step c.args.g.now entries _ c.loop-i.i c.loop-i.all.data_pages c.pages_of-pages.result.data_pages c.in_ok-size.field-0 inside was.kept.entries c.in_ok-size.ensures.size pages.data_pages was.pages;
      few_index = omega (arith, was.few_index, pages.few_index);
      few_pages = omega (arith, was.few_pages, pages.few_data);
    }
