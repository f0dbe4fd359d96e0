use Rattle.std.proofs.Common.{◌∙◌, refl}
use Rattle.flash_view.proofs.Looking.{looks_none}
use Rattle.page_put.proofs.Changing.{table_put, table_full}
use Rattle.page_put.proofs.rows.move_count.Goals as goal

pub invariant_of-v-clause-table : goal.invariant_of-v-clause-table
invariant_of-v-clause-table g c = λ on.
    let p = c.put_row.ensures in
    let r = c.requires in
    table_put c.args.page c.block_of-block.result c.args.before c.args.after _ _ _ (record { entry = r.entry; room = r.room; was = r.was; looks = looks_none c.args.v.now; told = r.is }) c.block_of-block.ensures.block
    p.counts.same.geometry p.device p.size (p.row ∙ c.with_one.ensures ∙ rw (c.without_one-rest.ensures, c.kept_row.ensures) refl) p.others p.summed

pub returns-then-total-ge65535-clause-stands : goal.returns-then-total-ge65535-clause-stands
returns-then-total-ge65535-clause-stands g c = λ tells.
    let r = c.requires in
    absurd (table_full c.args.page c.block_of-block.result c.args.before c.args.after (record { entry = r.entry; room = r.room; was = r.was; looks = looks_none c.args.v.now; told = r.is })
    c.block_of-block.ensures.block tells (rw (c.total.ensures, c.without_one-rest.ensures, c.kept_row.ensures) at c.if-total-ge65535.true))
