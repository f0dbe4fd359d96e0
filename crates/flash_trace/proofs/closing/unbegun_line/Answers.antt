use Rattle.std.specs.Option.{option_map}
use Rattle.flash_trace.proofs.Testing.{none_begun, mixed_begun, tight_begun, tight_or_none, ok_line, not_true, not_false}
use Rattle.flash_trace.proofs.closing.unbegun_line.Goals as goal

pub returns-then-spoiled-gt1 : goal.returns-then-spoiled-gt1
returns-then-spoiled-gt1 c = none_begun c.args.g.now c.args.first.now c.args.image.now _ c.spoiled_blocks-spoiled.ensures c.if-spoiled-gt1.true

pub returns-then-not-over : goal.returns-then-not-over
returns-then-not-over c =
    mixed_begun c.args.g.now c.args.first.now c.args.image.now _ c.spoiled_blocks-spoiled.ensures c.if-spoiled-gt1.false _ c.in_ok-over.ensures.fits _ _ c.in_ok-over.ensures.shared (not_true _ c.if-not-over.true) c.in_ok-line.ensures

pub returns : goal.returns
returns c =
    ok_line _ (λ o. option_map (λ l. l.items) o) (tight_or_none c.args.g.now c.args.image.now) _
    (tight_begun c.args.g.now c.args.first.now c.args.image.now _ c.spoiled_blocks-spoiled.ensures c.if-spoiled-gt1.false _ c.in_ok-over.ensures.fits (not_false _ c.if-not-over.false))
    c.tight_line.ensures
