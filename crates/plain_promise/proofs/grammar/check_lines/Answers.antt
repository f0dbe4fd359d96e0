use Rattle.std.proofs.Common.{◌≡◌, ◌+◌, sym, ◌∙◌, ap, subst, Bool, Some, None}
use Rattle.promise_model.specs.Lines.{sort_of}
use Rattle.promise_model.specs.Verdicts.{fault_at as the_fault, is_open as the_open, promise_or_none}
use Rattle.plain_promise.specs.Seen.{fault, fault_seen}
use Rattle.plain_promise.proofs.Checking.{IsSeen, seen_on, seen_fault, seen_all}
use Rattle.plain_promise.proofs.grammar.check_lines.Goals as goal

pub returns-in-Some-fault_at : goal.returns-in-Some-fault_at
returns-in-Some-fault_at c =
    let at_line : the_fault c.loop-text.within c.loop-text.number (sort_of c.in-Some.text.now) ≡ Some (fault c.in-Some-fault_at.fault) =
    ap (the_fault c.loop-text.within c.loop-text.number) (sym c.in_ok-line.ensures) ∙ sym c.fault_at.ensures ∙ ap fault_seen c.in-Some-fault_at.is in
    seen_fault c.args.script.now c.loop-text.at c.loop-text.number c.loop-text.within c.loop-text.promises c.loop-text.invariant c.in-Some.text.now c.in-Some.behind (fault c.in-Some-fault_at.fault) c.in-Some.ensures.some at_line

pub loop-text-preserved-in_default-fault_at : goal.loop-text-preserved-in_default-fault_at
loop-text-preserved-in_default-fault_at c =
    let at_line : the_fault c.loop-text.within c.loop-text.number (sort_of c.in-Some.text.now) ≡ None = ap (the_fault c.loop-text.within c.loop-text.number) (sym c.in_ok-line.ensures) ∙ sym c.fault_at.ensures ∙ ap fault_seen c.in_default-fault_at.is in
    subst (λ (b : Bool). IsSeen c.args.script.now c.in-Some.behind (c.loop-text.number + 1) b (c.loop-text.promises + c.promises_in-promises.result))
    (ap (the_open c.loop-text.within) (sym c.in_ok-line.ensures) ∙ sym c.is_open-within.ensures)
    (seen_on c.args.script.now c.loop-text.at c.loop-text.number c.loop-text.within c.loop-text.promises c.loop-text.invariant c.in-Some.text.now c.in-Some.behind c.promises_in-promises.result
    c.in-Some.ensures.some at_line c.promises_in-promises.ensures.few (c.promises_in-promises.ensures.count ∙ ap promise_or_none c.in_ok-line.ensures))

pub loop-text-preserved-in_default-fault_at-2 : goal.loop-text-preserved-in_default-fault_at-2
loop-text-preserved-in_default-fault_at-2 c =
    let at_line : the_fault c.loop-text.within c.loop-text.number (sort_of c.in-Some.text.now) ≡ None = ap (the_fault c.loop-text.within c.loop-text.number) (sym c.in_ok-line.ensures) ∙ sym c.fault_at.ensures ∙ ap fault_seen c.in_default-fault_at.is in
    subst (λ (b : Bool). IsSeen c.args.script.now c.in-Some.behind (c.loop-text.number + 1) b (c.loop-text.promises + c.promises_in-promises.result))
    (ap (the_open c.loop-text.within) (sym c.in_ok-line.ensures) ∙ sym c.is_open-within.ensures)
    (seen_on c.args.script.now c.loop-text.at c.loop-text.number c.loop-text.within c.loop-text.promises c.loop-text.invariant c.in-Some.text.now c.in-Some.behind c.promises_in-promises.result
    c.in-Some.ensures.some at_line c.promises_in-promises.ensures.few (c.promises_in-promises.ensures.count ∙ ap promise_or_none c.in_ok-line.ensures))

pub loop-text-preserved : goal.loop-text-preserved
loop-text-preserved c =
    let at_line : the_fault c.loop-text.within c.loop-text.number (sort_of c.in-Some.text.now) ≡ None = ap (the_fault c.loop-text.within c.loop-text.number) (sym c.in_ok-line.ensures) ∙ sym c.fault_at.ensures ∙ ap fault_seen c.in_default-fault_at.is in
    subst (λ (b : Bool). IsSeen c.args.script.now c.in-Some.behind (c.loop-text.number + 1) b (c.loop-text.promises + c.promises_in-promises.result))
    (ap (the_open c.loop-text.within) (sym c.in_ok-line.ensures) ∙ sym c.is_open-within.ensures)
    (seen_on c.args.script.now c.loop-text.at c.loop-text.number c.loop-text.within c.loop-text.promises c.loop-text.invariant c.in-Some.text.now c.in-Some.behind c.promises_in-promises.result
    c.in-Some.ensures.some at_line c.promises_in-promises.ensures.few (c.promises_in-promises.ensures.count ∙ ap promise_or_none c.in_ok-line.ensures))

pub returns : goal.returns
returns c = seen_all c.args.script.now c.loop-text.at c.loop-text.number c.loop-text.within c.loop-text.promises c.loop-text.invariant c.in_default.ensures.none
