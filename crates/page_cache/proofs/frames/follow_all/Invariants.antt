use Rattle.page_cache.specs.Frames.{Follows}
use Rattle.page_cache.proofs.Loops.{Followed}
use Rattle.page_cache.proofs.frames.follow_all.Given as goal

abbrev pub invariant-loop-page : goal.invariant-loop-page
invariant-loop-page l = Followed l.fn.g (Follows l.fn.g.page l.fn.at l.fn.event) l.fn.frames l.frames l.page
