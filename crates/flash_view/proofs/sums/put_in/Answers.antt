use Rattle.std.proofs.Common.{◌≡◌, ◌≢◌, ℕ, ◌∙◌, sym, subst}
use Rattle.flash_view.specs.declared.kinds.Kind.TheVariants.{Index, Data}
use Rattle.flash_view.specs.Firsts.{IsFirstBut}
use Rattle.flash_view.specs.Table.{row_of, row_takes}
use Rattle.flash_view.proofs.RowSums.{sums_move, first_but}
use Rattle.flash_view.proofs.sums.put_in.Goals as goal

pub returns-clause-summed : goal.returns-clause-summed
returns-clause-summed c = λ was.
    let g = c.args.g.now in
    let old = c.args.rows.now in
    let block = c.args.block in
    let counts = c.args.counts.now in
    let fill = c.fill_block.ensures in
    let put = c.put_sums.ensures in
    let settle = c.settle_firsts.ensures in
    let mid = c.put_sums.new.rows in
    let new = c.settle_firsts.new.rows in
    let own : row_of mid block ≡ counts = put.rows block ∙ fill.row in
    let others = λ (k : ℕ) (out : k ≢ block). put.rows k ∙ fill.others k out in
    let but = first_but g old mid block counts c.requires.block own others in
    record {
      sums = settle.sums ∙ put.sums ∙ c.moved-sums.ensures ∙ rw (c.part_of-less.ensures, c.part_of.ensures, c.row_at-before.ensures, c.entries-entries.ensures.count)
          (sums_move g old new block counts c.requires.block (settle.rows block ∙ own) (λ k out. settle.rows k ∙ others k out) c.kept_sums.result (c.kept_sums.ensures ∙ was.sums));
      index = settle.index (subst (IsFirstBut g.blocks (row_takes g mid Index) block) (sym (put.firsts Index ∙ fill.firsts Index)) (but Index _ was.index));
      pages = settle.pages (subst (IsFirstBut g.blocks (row_takes g mid Data) block) (sym (put.firsts Data ∙ fill.firsts Data)) (but Data _ was.pages));
    }
