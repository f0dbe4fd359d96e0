use Rattle.std.proofs.Common.{◌≡◌, ℕ, ◌<◌, ◌∙◌, arith}
use Rattle.std.specs.Prelude.{slice_index}
use Rattle.geometry.specs.Numbers.{rows_need}
use Rattle.flash_view.proofs.RowSums.{summed_none, row_none, sums_none}
use Rattle.flash_view.proofs.sums.clear_in.Goals as goal

pub returns-clause-summed : goal.returns-clause-summed
returns-clause-summed c =
    let me = c.args.g.now in
    let put = c.put_firsts.ensures in
    let bytes = c.clear.new.bytes in
    let none : (k : ℕ) → k < rows_need me → slice_index bytes k ≡ 0 = λ k low. c.clear.ensures.none k (omega (arith, low, c.rows_need.ensures.need)) in
    summed_none me c.put_firsts.new.rows (λ k low. put.rows k ∙ row_none bytes (rows_need me) none k (omega (arith, low))) (put.sums ∙ sums_none bytes (rows_need me) none (omega (arith, me.valid.some_blocks)))
    (put.index ∙ c.blocks-end.ensures) (put.pages ∙ c.blocks-end.ensures)
