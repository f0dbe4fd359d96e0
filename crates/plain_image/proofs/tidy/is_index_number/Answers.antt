use Rattle.std.proofs.Common.{sym, ◌∙◌}
use Rattle.image_model.specs.Live.{live_at, own}
use Rattle.plain_image.proofs.Headed.{index_other}
use Rattle.plain_image.proofs.tidy.is_index_number.Goals as goal

pub returns-else-is_index_of : goal.returns-else-is_index_of
returns-else-is_index_of c =
    c.if-is_index_of.false ∙ sym (index_other c.args.g.now (own (live_at c.args.g.now c.args.image.now) c.args.id) c.args.span c.args.p (sym c.is_index_of.ensures ∙ c.if-is_index_of.false))
