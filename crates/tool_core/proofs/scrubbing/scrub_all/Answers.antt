use Rattle.std.proofs.Common.{◌≡◌, true, false, sym, ◌∙◌, arith, rules, Err}
use Rattle.volume.proofs.Staying.{same_then, same_none}
use Rattle.volume.specs.Holds.{memory}
use Rattle.tool_core.proofs.ScrubTurns.{makes_none, makes_more, makes_rest, makes_fails, makes_all}
use Rattle.tool_core.proofs.scrubbing.scrub_all.Goals as goal

pub steps-init : goal.steps-init
steps-init g c = record {
  same = same_none c.args.volume.now;
  stands = c.requires.takes;
  blocks = search rules;
  few = omega arith;
  makes = λ slots closed. makes_none c.args.volume.now.nor.now (memory c.args.volume.now) closed;
}

pub steps-preserved : goal.steps-preserved
steps-preserved g c = record {
  same = same_then c.steps.invariant.same c.scrub_turn.ensures.same;
  stands = c.in_ok-scrub.ensures.taken;
  blocks = c.steps.invariant.blocks;
  few = omega (arith, c.steps.invariant.few);
  makes = λ slots closed. makes_more c.steps.moved c.in_ok-scrub.scrub c.steps.volume.geometry (sym c.if-has_moved.true ∙ c.has_moved.ensures) c.steps.invariant.same.geometry (c.steps.invariant.makes slots closed) (λ still. c.in_ok-scrub.ensures.makes slots still);
}

pub returns-else-has_moved-clause-makes : goal.returns-else-has_moved-clause-makes
returns-else-has_moved-clause-makes g c = λ slots closed. makes_rest c.steps.moved c.in_ok-scrub.scrub c.steps.volume.geometry (sym c.if-has_moved.false ∙ c.has_moved.ensures) c.steps.invariant.same.geometry (omega (arith, c.steps.invariant.few, c.steps.invariant.blocks)) (c.steps.invariant.makes slots closed) (λ still. c.in_ok-scrub.ensures.makes slots still)

pub returns-in_err-scrub-clause-makes : goal.returns-in_err-scrub-clause-makes
returns-in_err-scrub-clause-makes g c =
    let failed = c.in_err-scrub in
    let is : c.from_residual.result ≡ Err failed.field-0.0 = search rules in
    rw is (λ slots closed. makes_fails c.steps.moved failed.field-0.0 c.steps.volume.geometry c.steps.invariant.same.geometry (c.steps.invariant.makes slots closed) (λ still. failed.ensures.makes slots still))

pub returns-clause-makes : goal.returns-clause-makes
returns-clause-makes g c = λ slots closed. makes_all c.steps.moved (omega (arith, c.steps.invariant.few, c.steps.invariant.blocks, c.steps-test.false)) (c.steps.invariant.makes slots closed)
