use Rattle.std.proofs.Common.{◌≡◌, ◌<◌, rules, arith}
use Rattle.free_search.specs.Free.{worn_with, worn_by_row}
use Rattle.free_search.proofs.Rowed.{row_worn, row_below}
use Rattle.free_search.proofs.Worn.{worn_more, worn_over, worn_all, worn_new}
use Rattle.free_search.proofs.pages.least_by_rows.Goals.{then-ne, else-ne}
use Rattle.free_search.proofs.pages.least_by_rows.Goals as goal

pub loop-block-init : goal.loop-block-init
loop-block-init c = record { below = tt; told = λ at image table same all block low. absurd (omega (arith, low)) }

pub loop-block-preserved : goal.loop-block-preserved
loop-block-preserved c =
    let was = c.loop-block.invariant in
    let block = c.loop-block.block in
    let least = c.loop-block.least in
    elim c.if-ne.branch [
      | then-ne w ↦ record {
        below = rw (w.least-is, w.less_worn_row-least.ensures) (row_below c.args.rows.now c.args.entries c.args.blocks least block c.loop-block-test.true was.below);
        told = λ at image table same all.
            let low : block < at.blocks = rw (← all) c.loop-block-test.true in
            let by_row : worn_by_row c.args.rows.now c.args.entries least block ≡ worn_with at image least block = rw same (row_worn at image c.args.rows.now least block low table) in
            let other = w.if-ne.ensures in
            rw (w.least-is, w.less_worn_row-least.ensures, by_row) (worn_more at image c.args.not_in block least (search rules) (was.told at image table same all));
      }
      | else-ne w ↦ record {
        below = rw w.least-is was.below;
        told = λ at image table same all. let never = w.if-ne.ensures in rw w.least-is (worn_over at image c.args.not_in block least (search rules) (was.told at image table same all));
      }
    ]

pub returns-then-is_unworn-clause-below : goal.returns-then-is_unworn-clause-below
returns-then-is_unworn-clause-below c = let low = c.loop-block.invariant.below in let found = c.map.ensures in search rules

pub returns-then-is_unworn-clause-told : goal.returns-then-is_unworn-clause-told
returns-then-is_unworn-clause-told c at image table same all =
    let best = worn_new at image c.args.not_in c.loop-block.block c.loop-block.least (omega (arith, all, c.loop-block-test.true)) (rw c.if-is_unworn.true at c.is_unworn.ensures) (c.loop-block.invariant.told at image table same all) in
    let found = c.map.ensures in
    search rules

pub returns-clause-below : goal.returns-clause-below
returns-clause-below c = let low = c.loop-block.invariant.below in let found = c.map-2.ensures in search rules

pub returns-clause-told : goal.returns-clause-told
returns-clause-told c at image table same all =
    let end : c.loop-block.block ≡ at.blocks = omega (arith, all, c.loop-block-test.false, c.loop-block.auto.block-end) in
    let best = worn_all at image c.args.not_in c.loop-block.block c.loop-block.least end (c.loop-block.invariant.told at image table same all) in
    let found = c.map-2.ensures in
    search rules
