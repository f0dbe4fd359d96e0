use Rattle.std.proofs.Common.{◌≡◌, sym, ◌∙◌, ap, subst, get_or, IfOk}
use Rattle.table_model.specs.Ask.{asked}
use Rattle.plain_table.specs.Seen.{files_of}
use Rattle.promise_model.specs.Lines.{Sort, Calls, Ends, BadPromise, BadCall, Blank as ABlank, sort_of}
use Rattle.plain_promise.specs.declared.sort.Line.TheVariants.{Marked as IsMarked}
use Rattle.plain_promise.specs.Seen.{line_seen}
use Rattle.plain_promise.specs.Walks.{GoesOver, Turns}
use Rattle.plain_promise.proofs.walk.pass_line.Goals as goal

pub returns-in-Call : goal.returns-in-Call
returns-in-Call c = λ d.
    let is : Calls (asked c.in-Call.call) ≡ sort_of c.args.text.now = sym (ap line_seen c.in-Call.is) ∙ c.in_ok-call.ensures in
    subst (λ (s : Sort). IfOk c.pass_call.result (Turns s (files_of (get_or c.args.ends.now c.args.walk.ended d)) c.args.walk)) is (c.pass_call.ensures (files_of (get_or c.args.ends.now c.args.walk.ended d)))

pub returns-in-Marked-End : goal.returns-in-Marked-End
returns-in-Marked-End c = λ d.
    let is : Ends ≡ sort_of c.args.text.now = sym (ap line_seen (c.in-Marked-End.is ∙ ap IsMarked c.in-Marked-End.field-0-is)) ∙ c.in_ok-call.ensures in
    subst (λ (s : Sort). GoesOver s (files_of (get_or c.args.ends.now c.args.walk.ended d)) c.args.walk c.pass_end.result) is (c.pass_end.ensures (files_of (get_or c.args.ends.now c.args.walk.ended d)))

pub returns-in-Marked-Bad : goal.returns-in-Marked-Bad
returns-in-Marked-Bad c = λ d.
    let is : BadPromise ≡ sort_of c.args.text.now = sym (ap line_seen (c.in-Marked-Bad.is ∙ ap IsMarked c.in-Marked-Bad.field-0-is)) ∙ c.in_ok-call.ensures in
    subst (λ (s : Sort). GoesOver s (files_of (get_or c.args.ends.now c.args.walk.ended d)) c.args.walk c.pass_blank.result) is (c.pass_blank.ensures.bad_promise (files_of (get_or c.args.ends.now c.args.walk.ended d)))

pub returns-in-Blank : goal.returns-in-Blank
returns-in-Blank c = λ d.
    let is : ABlank ≡ sort_of c.args.text.now = sym (ap line_seen c.in-Blank.is) ∙ c.in_ok-call.ensures in
    subst (λ (s : Sort). GoesOver s (files_of (get_or c.args.ends.now c.args.walk.ended d)) c.args.walk c.pass_blank-in-Blank.result) is (c.pass_blank-in-Blank.ensures.blank (files_of (get_or c.args.ends.now c.args.walk.ended d)))

pub returns-in-Bad : goal.returns-in-Bad
returns-in-Bad c = λ d.
    let is : BadCall ≡ sort_of c.args.text.now = sym (ap line_seen c.in-Bad.is) ∙ c.in_ok-call.ensures in
    subst (λ (s : Sort). GoesOver s (files_of (get_or c.args.ends.now c.args.walk.ended d)) c.args.walk c.pass_blank-in-Bad.result) is (c.pass_blank-in-Bad.ensures.bad_call (files_of (get_or c.args.ends.now c.args.walk.ended d)))
