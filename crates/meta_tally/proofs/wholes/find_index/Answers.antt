use Rattle.std.proofs.Common.{◌≡◌, ◌*◌, ℕ, sym, refl, arith}
use Rattle.std.proofs.Math.Nat.{sub-zero}
use Rattle.geometry.specs.Numbers.{per_block, page_count}
use Rattle.image_model.specs.Live.{live_at, own}
use Rattle.image_model.specs.Files.{is_index, index_page}
use Rattle.meta_tally.proofs.Finds.{block_found, block_passed, blocks_passed}
use Rattle.meta_tally.proofs.wholes.find_index.Goals as goal

pub loop-block-init : goal.loop-block-init
unfolding index_page page_count
loop-block-init c =
    let none : 0 * per_block c.args.g.now ≡ 0 = omega arith in
    rw (none, sub-zero (c.args.g.now.blocks * per_block c.args.g.now)) refl

pub returns-in-Some : goal.returns-in-Some
returns-in-Some c =
    let g = c.args.g.now in
    block_found (λ (p : ℕ). is_index (own (live_at g c.args.image.now) c.args.id p) c.args.span) c.loop-block.block g.blocks (per_block g) c.in-Some.p _ c.loop-block-test.true c.loop-block.invariant (sym c.in-Some.ensures)

pub loop-block-preserved : goal.loop-block-preserved
loop-block-preserved c =
    let g = c.args.g.now in
    block_passed (λ (p : ℕ). is_index (own (live_at g c.args.image.now) c.args.id p) c.args.span) c.loop-block.block g.blocks (per_block g) _ c.loop-block-test.true c.loop-block.invariant (sym c.in_default.ensures)

pub returns : goal.returns
returns c =
    let g = c.args.g.now in
    blocks_passed (λ (p : ℕ). is_index (own (live_at g c.args.image.now) c.args.id p) c.args.span) c.loop-block.block g.blocks (per_block g) _ c.loop-block-test.false c.loop-block.invariant
