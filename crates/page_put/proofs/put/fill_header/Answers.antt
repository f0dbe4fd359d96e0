use Rattle.std.proofs.Common.{arith, ◌∙◌}
use Rattle.page_put.proofs.Bytes.{bytes_of_header}
use Rattle.page_put.proofs.put.fill_header.Goals as goal

pub returns : goal.returns
returns c = bytes_of_header _ _ (c.put_header.ensures.others.size ∙ c.requires) (λ k. omega (arith, c.type_inv.bytes k)) c.put_header.ensures.field
