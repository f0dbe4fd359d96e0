use Rattle.std.proofs.Common.{List, arith, sym, ap, ◌∙◌}
use Rattle.table_model.specs.Table.{same_text}
use Rattle.folder_core.specs.Files.{Entry, name_at}
use Rattle.folder_plan.proofs.Keeping.{kept_none, kept_then}
use Rattle.folder_plan.proofs.Naming.{name_none, name_fails, name_there}
use Rattle.folder_plan.proofs.names.is_taken.Goals as goal

pub loop-k-init : goal.loop-k-init
loop-k-init g c = record {
  kept = kept_none c.args.folder.now;
  none = name_none c.args.name.now (g.F.FolderState.entries c.args.folder.now);
}

pub returns-then-branch-clause-taken : goal.returns-then-branch-clause-taken
returns-then-branch-clause-taken g c =
    let was = c.loop-k.invariant in
    let here = ap (λ (l : List Entry). same_text (name_at l c.loop-k.k) c.args.name.now) was.kept.entries in
    sym (name_there c.args.name.now (g.F.FolderState.entries c.args.folder.now) c.loop-k.k c.args.i c.loop-k-test.true (omega (arith, c.requires.inside)) (sym here ∙ sym c.in_ok-is_named.ensures.same ∙ c.if-branch.true))

pub loop-k-preserved : goal.loop-k-preserved
loop-k-preserved g c =
    let was = c.loop-k.invariant in
    let here = ap (λ (l : List Entry). same_text (name_at l c.loop-k.k) c.args.name.now) was.kept.entries in
    record {
      kept = kept_then was.kept c.in_ok-is_named.ensures.kept;
      none = name_fails c.args.name.now (g.F.FolderState.entries c.args.folder.now) c.loop-k.k (omega (arith, c.loop-k-test.true, c.requires.inside)) was.none (sym here ∙ sym c.in_ok-is_named.ensures.same ∙ c.if-branch.false);
    }
