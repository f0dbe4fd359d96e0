use Rattle.image_tool.proofs.putting.put_piece.Goals as goal

pub returns-in-Err-Damaged-clause-told : goal.returns-in-Err-Damaged-clause-told
returns-in-Err-Damaged-clause-told g c = λ tells f is. let told = c.in-Err-Damaged.ensures.told tells f is in rw c.in-Err-Damaged.field-0-is at told

pub returns-in-Err-clause-told : goal.returns-in-Err-clause-told
returns-in-Err-clause-told g c = λ tells f is. let read = c.in-Ok.ensures.told tells f is in rw (read.bytes, c.as_slice.ensures.bytes) at c.in-Err.ensures.half

pub returns-in-Err-Damaged-clause-apart : goal.returns-in-Err-Damaged-clause-apart
returns-in-Err-Damaged-clause-apart g c = let missing = rw c.in-Err-Damaged.field-0-is at c.in-Err-Damaged.ensures.missing in missing.apart
