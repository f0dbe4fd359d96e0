use Rattle.page_layout.proofs.IdBits.{set_here, set_other}
use Rattle.page_layout.proofs.ids.note_id.Goals as goal

pub returns-clause-noted : goal.returns-clause-noted
returns-clause-noted c = set_here c.args.bits.now c.from.result c.args.id c.from.ensures c.requires

pub returns-clause-others : goal.returns-clause-others
returns-clause-others c = λ k other. set_other c.args.bits.now c.from.result c.args.id k c.from.ensures c.requires other
