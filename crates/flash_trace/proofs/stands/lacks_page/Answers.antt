use Rattle.std.proofs.Common.{sym, ◌∙◌}
use Rattle.flash_trace.proofs.Testing.{told_no, not_lacks, lacks_told}
use Rattle.flash_trace.proofs.stands.lacks_page.Goals as goal

pub returns-then-is_some : goal.returns-then-is_some
returns-then-is_some c = told_no _ (not_lacks c.args.g.now c.args.image.now c.in_ok-chosen.chosen c.in_ok-chosen.ensures.value (sym c.is_some.ensures ∙ c.if-is_some.true))

pub returns : goal.returns
returns c = lacks_told c.args.g.now c.args.image.now c.in_ok-chosen.chosen c.in_ok-chosen.ensures.value _ (sym c.is_some.ensures ∙ c.if-is_some.false) c.are_had.ensures
