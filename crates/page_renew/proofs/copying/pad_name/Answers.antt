use Rattle.std.proofs.Common.{sym, ◌∙◌}
use Rattle.page_renew.proofs.Copies.{name_whole}
use Rattle.page_renew.proofs.copying.pad_name.Goals as goal

pub put_name-requires-clause-no_zero : goal.put_name-requires-clause-no_zero
put_name-requires-clause-no_zero c = rw c.as_slice.ensures.bytes (name_whole c.args.page.now _ (sym c.name_of.ensures ∙ c.in-Some.is))
