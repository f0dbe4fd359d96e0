use Rattle.std.proofs.Common.{◌≡◌, ◌∙◌}
use Rattle.tool_core.specs.Scrubbing.{scrub_text}
use Rattle.tool_core.proofs.ScrubEnds.{ends_stopped, ends_said, ends_broken, makes_ok, makes_err}
use Rattle.tool_core.proofs.scrubbing.scrub_checked.Goals as goal

pub returns-in-Err-clause-scrubs : goal.returns-in-Err-clause-scrubs
returns-in-Err-clause-scrubs g c = λ slots closed. ends_stopped c.in-Err.ending (makes_err c.in-Err.is (c.scrub_and_count.ensures.makes slots closed))

pub returns-in-Ok-say-clause-scrubs : goal.returns-in-Ok-say-clause-scrubs
returns-in-Ok-say-clause-scrubs g c = λ slots closed.
    let t = c.in-Ok.tally in
    let line : c.as_slice.result.now ≡ scrub_text t.moved t.free t.last = c.as_slice.ensures.value ∙ c.tally_line.ensures in
    ends_said t (makes_ok c.in-Ok.is (c.scrub_and_count.ensures.makes slots closed)) line c.say.ensures.says c.say.ensures.cuts c.in-Ok-say.ensures.done

pub returns-in-Err-say-clause-scrubs : goal.returns-in-Err-say-clause-scrubs
returns-in-Err-say-clause-scrubs g c = λ slots closed.
    let t = c.in-Ok.tally in
    let line : c.as_slice.result.now ≡ scrub_text t.moved t.free t.last = c.as_slice.ensures.value ∙ c.tally_line.ensures in
    ends_broken t (makes_ok c.in-Ok.is (c.scrub_and_count.ensures.makes slots closed)) line c.say.ensures.says c.say.ensures.cuts
