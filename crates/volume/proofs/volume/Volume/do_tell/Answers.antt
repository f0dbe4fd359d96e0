use Rattle.std.proofs.Common.{Ok, Err}
use Rattle.volume.proofs.Calling.{calls_told}
use Rattle.volume.proofs.volume.Volume.do_tell.Goals as goal

pub returns-in-Ok : goal.returns-in-Ok
returns-in-Ok g c = calls_told c.args.fd c.args.self.now (Ok c.in-Ok.told) c.requires.takes (rw c.in-Ok.is at c.tell_in.ensures)

pub returns-in-Err : goal.returns-in-Err
returns-in-Err g c = calls_told c.args.fd c.args.self.now (Err c.in-Err.why) c.requires.takes (rw c.in-Err.is at c.tell_in.ensures)
