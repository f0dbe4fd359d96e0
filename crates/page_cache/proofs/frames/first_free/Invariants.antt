use Rattle.std.proofs.Common.{ℕ, ◌<◌, ◌≤◌}
use Rattle.geometry.specs.Numbers.{page_count}
use Rattle.page_cache.specs.Frames.{page_in}
use Rattle.page_cache.proofs.frames.first_free.Given as goal

abbrev pub invariant-loop-f : goal.invariant-loop-f
invariant-loop-f l = (h : ℕ) → l.fn.from ≤ h → h < l.f → page_in l.fn.g l.fn.frames h < page_count l.fn.g
