use Rattle.file_find.proofs.Scanning.{scanned_here, scanned_none}
use Rattle.file_find.proofs.marks.next_with.Goals as goal

pub returns-in-Some : goal.returns-in-Some
returns-in-Some c = scanned_here c.args.marks.now c.args.sought c.args.from c.args.end c.requires.ordered c.requires.room c.in-Some.step c.in-Some.ensures.0 c.in-Some.ensures.1

pub returns-in-None : goal.returns-in-None
returns-in-None c = scanned_none c.args.marks.now c.args.sought c.args.from c.args.end c.requires.ordered c.requires.room c.in-None.ensures
