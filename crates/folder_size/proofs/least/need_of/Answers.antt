use Rattle.std.proofs.Common.{refl, arith}
use Rattle.folder_size.proofs.Needing.{index_over, data_over, over_most, in_most}
use Rattle.folder_size.proofs.least.need_of.Goals as goal
use Rattle.folder_size.proofs.least.need_of.Goals.{then-index-most-via-then-index-most, then-index-most-via-else-index-most+then-data_pages-most}

pub returns-then-index-most : goal.returns-then-index-most
returns-then-index-most c = elim c.then-index-most.branch [
  | then-index-most-via-then-index-most w ↦ index_over c.args.g.now c.args.index c.args.data_pages (omega (arith, w.if-index-most.true, c.from-most.ensures))
  | then-index-most-via-else-index-most+then-data_pages-most w ↦ data_over c.args.g.now c.args.index c.args.data_pages (omega (arith, w.if-data_pages-most.true, c.from-most.ensures))
]

pub returns-then-blocks-most_blocks : goal.returns-then-blocks-most_blocks
returns-then-blocks-most_blocks c =
    over_most c.args.g.now c.args.index c.args.data_pages _ c.most_blocks.result (rw (c.blocks_for.ensures.blocks, c.blocks_for-2.ensures.blocks) refl) c.most_blocks.ensures c.if-blocks-most_blocks.true

pub returns : goal.returns
returns c =
    in_most c.args.g.now c.args.index c.args.data_pages _ c.most_blocks.result (rw (c.blocks_for.ensures.blocks, c.blocks_for-2.ensures.blocks) refl) c.most_blocks.ensures c.if-blocks-most_blocks.false
