use Rattle.std.proofs.Common.{◌↔◌, ℕ, List, subst, IsTrue, IfOk}
use Rattle.run_model.specs.Runs.{LacksPage}
use Rattle.flash_trace.proofs.Testing.{told_no, not_told, ok_told}
use Rattle.flash_trace.proofs.stands.stands_tight.Goals as goal

pub returns-then-not-stands_plain : goal.returns-then-not-stands_plain
returns-then-not-stands_plain c = told_no _ (λ w. not_told _ _ c.stands_plain.ensures c.if-not-stands_plain.true (w.0, w.2))

pub returns-then-not-may_leave : goal.returns-then-not-may_leave
returns-then-not-may_leave c = told_no _ (λ w. not_told _ _ c.may_leave.ensures c.if-not-may_leave.true w.1)

pub returns : goal.returns
returns c =
    let part = c.stands_plain.ensures.0 c.if-not-stands_plain.false in
    let leaves = c.may_leave.ensures.0 c.if-not-may_leave.false in
    ok_told _ (LacksPage c.args.case.now.g.now c.args.picture.now.image.items) _ (λ lacks. (part.0, leaves, part.1, lacks)) (λ w. w.3)
    (subst (λ (l : List ℕ). IfOk c.lacks_page.result (λ b. IsTrue b ↔ LacksPage c.args.case.now.g.now l)) c.as_slice.ensures.value c.lacks_page.ensures)
