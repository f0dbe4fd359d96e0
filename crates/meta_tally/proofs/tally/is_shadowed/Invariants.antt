-- The search from page q on gives the answer.
use Rattle.std.proofs.Common.{◌≡◌, ◌-◌}
use Rattle.std.specs.List.{range_with_len, list_any}
use Rattle.meta_tally.specs.Counted.{shadows}
use Rattle.meta_tally.proofs.tally.is_shadowed.Given as goal

abbrev pub invariant-loop-q : goal.invariant-loop-q
invariant-loop-q l = list_any (shadows l.g l.image l.name) (range_with_len l.q (l.end - l.q)) ≡ list_any (shadows l.g l.image l.name) (range_with_len l.from (l.end - l.from))
