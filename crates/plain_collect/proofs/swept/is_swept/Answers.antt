use Rattle.std.proofs.Common.{sym, ◌∙◌}
use Rattle.image_model.specs.Collect.{data_in}
use Rattle.plain_collect.proofs.Sweeping.{swept_where}
use Rattle.plain_collect.proofs.swept.is_swept.Goals as goal

pub returns-then-is_free_block : goal.returns-then-is_free_block
unfolding data_in
returns-then-is_free_block c =
    swept_where _ _ _ c.in-Some.block _ _ _ (sym c.in_ok-block.ensures.value ∙ c.in-Some.is) (c.in_ok-is_tidy.ensures.0 c.if-not-branch.false) (c.in_ok-is_tidy-2.ensures.0 c.if-not-branch-2.false)
    (c.in_ok-have_same_table.ensures.0 c.if-not-branch-3.false) (sym c.is_free_block.ensures ∙ c.if-is_free_block.true) c.deleted_outside-then-is_free_block.ensures.value c.deleted_outside.ensures.value (c.from-data.ensures ∙ c.count_entries.ensures)
