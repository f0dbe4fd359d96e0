use Rattle.page_cache.specs.Frames.{IsFree}
use Rattle.page_cache.proofs.Loops.{Changed}
use Rattle.page_cache.proofs.frames.clear.Given as goal

abbrev pub invariant-loop-f : goal.invariant-loop-f
invariant-loop-f l = Changed l.fn.g IsFree l.fn.frames l.frames l.f
