use Rattle.std.proofs.Common.{◌≡◌, false}
use Rattle.flash_view.specs.Table.{row_takes}
use Rattle.flash_view.proofs.RowSums.{first_stays, first_rises}
use Rattle.flash_view.proofs.sums.first_now.Goals as goal

pub returns-then-block-first : goal.returns-then-block-first
returns-then-block-first c = λ was.
    let fails : row_takes c.args.g.now c.args.rows.now c.args.kind c.args.block ≡ false = cc (c.is_open.ensures, c.entries.ensures.count, c.if-is_open.false) in
    first_stays _ _ c.args.block c.args.first fails c.if-block-first.true was

pub returns : goal.returns
returns c = λ was.
    let fails : row_takes c.args.g.now c.args.rows.now c.args.kind c.args.block ≡ false = cc (c.is_open.ensures, c.entries.ensures.count, c.if-is_open.false) in
    first_rises _ _ c.args.block c.args.first c.next_open.result fails c.if-block-first.false c.next_open.ensures was
