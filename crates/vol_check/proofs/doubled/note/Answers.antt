use Rattle.std.proofs.Common.{arith}
use Rattle.vol_check.proofs.doubled.note.Goals as goal

pub returns : goal.returns
returns c = rw (← c.object-id.ensures) (omega (arith, c.if-head-ne0.false), c.is_noted-noted.ensures, record { noted = c.note_id.ensures.noted; others = c.note_id.ensures.others })
