use Rattle.std.proofs.Common.{List, IfSome, arith, sym, ap, subst, ◌∙◌, ◌+◌}
use Rattle.folder_core.specs.Files.{Entry}
use Rattle.folder_plan.specs.Refusals.{is_bad}
use Rattle.folder_plan.specs.Rising.{AreUpTo}
use Rattle.folder_plan.proofs.Keeping.{kept_then}
use Rattle.folder_plan.proofs.Naming.{first_here, first_on, first_none}
use Rattle.folder_plan.proofs.names.first_bad_name.Goals as goal

pub returns-then-checked-clause-first : goal.returns-then-checked-clause-first
returns-then-checked-clause-first g c =
    let was = c.loop-i.invariant in
    let here = ap (λ (l : List Entry). is_bad l c.loop-i.i) was.kept.entries in
    sym (was.first ∙ first_here (g.F.FolderState.entries c.args.folder.now) c.loop-i.i (omega (arith, c.loop-i-test.true, c.requires.count)) (sym here ∙ sym c.in_ok-checked.ensures.bad ∙ c.if-checked.true))

pub loop-i-preserved : goal.loop-i-preserved
loop-i-preserved g c =
    let was = c.loop-i.invariant in
    let here = ap (λ (l : List Entry). is_bad l c.loop-i.i) was.kept.entries in
    record {
      kept = kept_then was.kept c.in_ok-checked.ensures.kept;
      first = was.first ∙ first_on (g.F.FolderState.entries c.args.folder.now) c.loop-i.i (omega (arith, c.loop-i-test.true, c.requires.count)) (sym here ∙ sym c.in_ok-checked.ensures.bad ∙ c.if-checked.false);
      rising = subst (λ (l : List Entry). IfSome c.in_ok-checked.checked.top (λ t. AreUpTo t (c.loop-i.i + 1) l)) was.kept.entries c.in_ok-checked.ensures.rising;
    }

pub check_name-requires-clause-rising : goal.check_name-requires-clause-rising
check_name-requires-clause-rising g c = subst (λ (l : List Entry). IfSome c.loop-i.top (λ t. AreUpTo t c.loop-i.i l)) (sym c.loop-i.invariant.kept.entries) c.loop-i.invariant.rising

pub returns-clause-first : goal.returns-clause-first
returns-clause-first g c =
    sym (c.loop-i.invariant.first ∙ first_none (g.F.FolderState.entries c.args.folder.now) c.loop-i.i (omega (arith, c.loop-i-test.false, c.requires.count)))
