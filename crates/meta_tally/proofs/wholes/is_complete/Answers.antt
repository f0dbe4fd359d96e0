use Rattle.std.proofs.Common.{◌≡◌, ℕ, false}
use Rattle.std.specs.Prelude.{is_none}
use Rattle.image_model.specs.Live.{live_at, own}
use Rattle.image_model.specs.Files.{data_page}
use Rattle.meta_tally.proofs.Finds.{find_later}
use Rattle.meta_tally.proofs.wholes.is_complete.Goals as goal

pub loop-span-preserved : goal.loop-span-preserved
loop-span-preserved c =
    let pages = own (live_at c.args.g.now c.args.image.now) c.args.id in
    let there : is_none (data_page c.args.g.now pages c.args.head.now c.loop-span.span) ≡ false = rw c.if-not-has_data.false at c.has_data.ensures in
    record {
      known = c.known_for-known.ensures.known;
      found = find_later (λ (s : ℕ). is_none (data_page c.args.g.now pages c.args.head.now s)) c.loop-span.span _ _ c.loop-span-test.true c.loop-span.invariant.found there;
    }
