use Rattle.std.proofs.Common.{◌≡◌, sym, ◌∙◌, ap, subst, IfOk}
use Rattle.table_model.specs.Ask.{asked}
use Rattle.promise_model.specs.Lines.{Sort, Calls, sort_of}
use Rattle.plain_promise.specs.Seen.{line_seen}
use Rattle.plain_promise.specs.Walks.{Lists}
use Rattle.plain_promise.proofs.Printing.{lists_none}
use Rattle.plain_promise.proofs.listing.list_line.Goals as goal
use Rattle.plain_promise.proofs.listing.list_line.Goals.{in-Call, in_default}

pub returns : goal.returns
returns c =
    elim c.match-branch-2.branch [
      | in-Call w ↦
          (let is : Calls (asked w.in-Call.call) ≡ sort_of c.args.words.now = sym (ap line_seen w.in-Call.is) ∙ c.in_ok-call.ensures in
          rw (w.result-is, w.text-is) (subst (λ (s : Sort). IfOk w.list_call.result (Lists s c.args.line c.args.moment c.args.text.now.items w.list_call.new.text.items)) is w.list_call.ensures))
      | in_default w ↦ rw (w.result-is, w.text-is) (lists_none c.in_ok-call.field-0 (sort_of c.args.words.now) c.args.line c.args.moment c.args.text.now.items c.in_ok-call.ensures w.in_default.not-Call)
    ]
