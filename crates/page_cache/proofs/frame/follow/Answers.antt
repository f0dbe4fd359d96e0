use Rattle.page_cache.proofs.frame.follow.Goals as goal

pub returns-in-Program : goal.returns-in-Program
returns-in-Program c = rw c.in-Program.is c.program_copy.ensures

pub returns-in-Erase : goal.returns-in-Erase
returns-in-Erase c = rw c.in-Erase.is c.erase_copy.ensures
