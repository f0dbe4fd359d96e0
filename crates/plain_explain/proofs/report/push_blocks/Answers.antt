use Rattle.std.proofs.Common.{◌≡◌, ◌++◌, string_bytes, arith}
use Rattle.std.proofs.lemmas.Grind.{common_steps}
use Rattle.plain_image.proofs.Ranges.{flat_map_step}
use Rattle.plain_explain.specs.Report.{block_line}
use Rattle.plain_explain.proofs.report.push_blocks.Goals as goal

pub loop-block-preserved : goal.loop-block-preserved
loop-block-preserved c =
    let more : string_bytes c.push_block.new.text ≡ string_bytes c.loop-block.text ++ block_line c.args.g.now c.args.image.now c.loop-block.block = grind (arith, common_steps) in
    flat_map_step (block_line c.args.g.now c.args.image.now) _ _ _ c.loop-block.block c.args.g.now.blocks c.loop-block-test.true c.loop-block.invariant more
