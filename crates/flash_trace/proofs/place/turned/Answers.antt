use Rattle.std.proofs.Common.{◌≡◌, ◌+◌, ◌∙◌, ap, sym, refl, arith, drop, length, slice_range}
use Rattle.flash_trace.specs.Ways.{IsHeard}
use Rattle.flash_trace.specs.declared.ways.Heard.TheVariants.{Whole}
use Rattle.flash_trace.proofs.Few.{few_replies}
use Rattle.flash_trace.proofs.Places.{line_some, place_turned, range_end}
use Rattle.flash_trace.proofs.place.turned.Goals as goal

pub overflow_add-result : goal.overflow_add-result
overflow_add-result c = let few = few_replies _ _ _ c.args.place c.requires in omega (arith, few, c.args.case.now.short)

pub returns-in_ok-found-in-Whole-clause-at : goal.returns-in_ok-found-in-Whole-clause-at
returns-in_ok-found-in-Whole-clause-at c =
    let heard : IsHeard (slice_range c.deref.result.now c.args.place.heard (length c.deref.result.now)) c.args.place.ahead (Whole c.in-Whole.way) = rw c.in-Whole.is at c.hear_ahead.ensures in
    let counted : c.len.result ≡ c.in-Whole.way.line.len = c.len.ensures in
    let long : c.len.result ≡ length c.in-Whole.way.line.items = omega (arith, counted, c.in-Whole.way.line.ok) in
    place_turned _ _ _ c.args.place _ c.in-Whole.way heard.1.0 c.requires heard.0 (ap (drop c.args.place.heard) (sym c.deref.ensures.value) ∙ sym (range_end c.args.place.heard c.deref.result.now) ∙ heard.1.1) refl refl (ap (λ n. c.args.place.heard + n) long) refl c.in_ok-found-in-Whole.ensures

pub returns-in_ok-found-in-Whole-clause-on : goal.returns-in_ok-found-in-Whole-clause-on
returns-in_ok-found-in-Whole-clause-on c =
    let heard : IsHeard (slice_range c.deref.result.now c.args.place.heard (length c.deref.result.now)) c.args.place.ahead (Whole c.in-Whole.way) = rw c.in-Whole.is at c.hear_ahead.ensures in
    let counted : c.len.result ≡ c.in-Whole.way.line.len = c.len.ensures in
    let long : c.len.result ≡ length c.in-Whole.way.line.items = omega (arith, counted, c.in-Whole.way.line.ok) in
    λ again. omega (arith, long, line_some _ _ _ c.args.place c.in-Whole.way c.requires heard.0)
