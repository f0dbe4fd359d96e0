use Rattle.std.proofs.Common.{◌≡◌, ◌++◌}
use Rattle.std.proofs.lemmas.Grind.{common_steps}
use Rattle.std.proofs.Common.{arith, refl}
use Rattle.image_model.specs.Live.{live_at, own}
use Rattle.image_model.specs.Files.{span_bytes}
use Rattle.plain_image.proofs.Ranges.{flat_map_step, flat_map_end}
use Rattle.plain_image.proofs.files.bytes_of.Goals as goal

pub loop-span-preserved : goal.loop-span-preserved
loop-span-preserved c =
    let more : c.extend_from_slice.new.self.items ≡ c.loop-span.bytes.items ++ span_bytes c.args.g.now (own (live_at c.args.g.now c.args.image.now) c.args.id) c.args.head.now c.loop-span.span =
    grind (arith, common_steps) in
    flat_map_step _ _ _ _ _ _ c.loop-span-test.true c.loop-span.invariant more

pub returns-clause-value : goal.returns-clause-value
returns-clause-value c =
    let all = flat_map_end _ _ _ _ _ c.loop-span-test.false c.loop-span.invariant in
    rw (c.truncate.ensures.items, all, c.size_of-2.ensures) refl
