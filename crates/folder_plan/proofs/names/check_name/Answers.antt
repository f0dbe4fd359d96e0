use Rattle.std.proofs.Common.{Option, List, ℕ, IfSome, sym, ◌∙◌, subst, refl}
use Rattle.folder_plan.specs.Rising.{IsBefore, AreUpTo}
use Rattle.folder_plan.proofs.Rising.{behind_fine, behind_next}
use Rattle.folder_plan.proofs.names.check_name.Goals as goal

pub returns-then-comes_behind-clause-bad : goal.returns-then-comes_behind-clause-bad
returns-then-comes_behind-clause-bad g c =
    let entries = g.F.FolderState.entries c.args.folder.now in
    let behind = c.if-comes_behind.ensures refl in
    let up : AreUpTo behind.0 c.args.i entries = subst (λ (o : Option (List ℕ)). IfSome o (λ t. AreUpTo t c.args.i entries)) behind.1 c.requires.rising in
    let before : IsBefore behind.0 c.in-Some.name = subst (λ (l : List ℕ). IsBefore behind.0 l) c.as_slice.ensures.bytes behind.2 in
    behind_fine behind.0 c.in-Some.name c.args.i entries c.requires.inside (sym c.in_ok-name.ensures.name ∙ c.in-Some.is) up before

pub returns-then-comes_behind-clause-rising : goal.returns-then-comes_behind-clause-rising
returns-then-comes_behind-clause-rising g c =
    let entries = g.F.FolderState.entries c.args.folder.now in
    let behind = c.if-comes_behind.ensures refl in
    let up : AreUpTo behind.0 c.args.i entries = subst (λ (o : Option (List ℕ)). IfSome o (λ t. AreUpTo t c.args.i entries)) behind.1 c.requires.rising in
    let before : IsBefore behind.0 c.in-Some.name = subst (λ (l : List ℕ). IsBefore behind.0 l) c.as_slice.ensures.bytes behind.2 in
    behind_next behind.0 c.in-Some.name c.args.i entries (sym c.in_ok-name.ensures.name ∙ c.in-Some.is) up before
