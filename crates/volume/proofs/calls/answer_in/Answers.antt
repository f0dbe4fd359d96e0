use Rattle.volume.proofs.Acting.{acts_by, no_write}
use Rattle.volume.proofs.calls.answer_in.Goals as goal

pub returns-in-Write-clause-acts : goal.returns-in-Write-clause-acts
returns-in-Write-clause-acts g c = rw c.in-Write.is (c.write_in.ensures.acts c.args.into.now)

pub call_in-requires : goal.call_in-requires
call_in-requires g c = record { usable = c.requires.usable; fresh = c.requires.fresh; room = c.requires.room; no_write = no_write c.args.call.now c.in_default.not-Write c.in_default.not-Fill }

pub returns-in_default-clause-acts : goal.returns-in_default-clause-acts
returns-in_default-clause-acts g c = acts_by c.requires.none c.call_in.ensures.goes (no_write c.args.call.now c.in_default.not-Write c.in_default.not-Fill)

pub returns-in-Write-clause-counted : goal.returns-in-Write-clause-counted
returns-in-Write-clause-counted g c = c.write_in.ensures.counted c.args.into.now
