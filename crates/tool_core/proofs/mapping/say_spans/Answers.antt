use Rattle.std.proofs.Common.{◌≡◌, true, false, arith, rules, Err}
use Rattle.volume.proofs.Staying.{same_then, same_none}
use Rattle.tool_core.proofs.MapSays.{spans_none, pages_then, spans_more, spans_done, spans_broken, spans_full}
use Rattle.tool_core.proofs.mapping.say_spans.Goals as goal

pub spans-init : goal.spans-init
spans-init g c = record { same = same_none c.args.volume.now; few = omega arith; says = λ id count pages. spans_none c.args.volume.now pages }

pub spans-preserved : goal.spans-preserved
spans-preserved g c = record {
  same = same_then c.spans.invariant.same c.say_span.ensures.same;
  few = omega (arith, c.spans.invariant.few);
  says = λ id count pages.
      let was = c.spans.invariant.says id count pages in
      spans_more c.spans.span c.spans.invariant.same.geometry was (rw c.if-branch.true at (c.in_ok-say_span.ensures.says id count (pages_then c.spans.span was)));
}

pub returns-else-branch-clause-says : goal.returns-else-branch-clause-says
returns-else-branch-clause-says g c = λ id count pages.
    let was = c.spans.invariant.says id count pages in
    spans_done c.spans.span c.spans.invariant.same.geometry was (rw c.if-branch.false at (c.in_ok-say_span.ensures.says id count (pages_then c.spans.span was)))

pub returns-in_err-say_span-clause-says : goal.returns-in_err-say_span-clause-says
returns-in_err-say_span-clause-says g c =
    let is : c.from_residual.result ≡ Err c.in_err-say_span.field-0.0 = search rules in
    rw is (λ id count pages.
    let was = c.spans.invariant.says id count pages in
    spans_broken c.spans.span _ c.spans.invariant.same.geometry was (c.in_err-say_span.ensures.says id count (pages_then c.spans.span was)))

pub returns-clause-says : goal.returns-clause-says
returns-clause-says g c = λ id count pages. spans_full c.spans.span (omega (arith, c.spans-test.false)) (c.spans.invariant.says id count pages)
