use Rattle.std.proofs.Common.{◌≡◌, ◌∙◌, sym, ap, rules, Err}
use Rattle.tool_core.specs.Filling.{unsettled_as}
use Rattle.tool_core.proofs.ScrubTurns.{makes_uncounted, makes_no_count, makes_tally, still_closed, free_told}
use Rattle.table_model.specs.declared.error.FsErr.TheVariants.{DeviceFault, Damaged}
use Rattle.tool_core.proofs.Among.{unsettled_among}
use Rattle.tool_core.proofs.scrubbing.scrub_and_count.Goals as goal

pub returns-in_err-steps-clause-makes : goal.returns-in_err-steps-clause-makes
returns-in_err-steps-clause-makes g c =
    let failed = c.in_err-steps in
    let is : c.from_residual.result ≡ Err failed.field-0.0 = search rules in
    rw is (λ slots closed. makes_uncounted failed.field-0.0 (failed.ensures.makes slots closed))

pub returns-in-Ok-clause-makes : goal.returns-in-Ok-clause-makes
returns-in-Ok-clause-makes g c = λ slots closed. makes_tally c.in_ok-steps.steps c.in-Ok.space.free_blocks (c.in_ok-steps.ensures.makes slots closed) c.space.ensures.unchanged.reads
    (still_closed c.scrub_all.new.volume c.space.new.self slots c.space.ensures.unchanged)
    (λ still tells tidy. free_told c.scrub_all.new.volume slots c.in-Ok.space c.args.volume.now.geometry c.scrub_all.ensures.same.geometry c.in_ok-steps.ensures.taken c.in-Ok.ensures.told still tells tidy)

pub returns-in-Err-clause-makes : goal.returns-in-Err-clause-makes
returns-in-Err-clause-makes g c = λ slots closed. makes_no_count _ (c.in_ok-steps.ensures.makes slots closed) c.space.ensures.unchanged.reads (c.unsettled.ensures.ends ∙ ap unsettled_as (c.in-Err.ensures.refused c.in_ok-steps.ensures.taken))

pub returns-in-Err-clause-among : goal.returns-in-Err-clause-among
returns-in-Err-clause-among g c = rw c.unsettled.ensures.ends (unsettled_among c.in-Err.why (λ d is. absurd (let no : DeviceFault ≡ Damaged d = sym (c.in-Err.ensures.refused c.in_ok-steps.ensures.taken) ∙ is in cc)))
