-- As many as the turns so far.
use Rattle.std.proofs.Common.{◌≡◌, replicate, None}
use Rattle.plain_image.proofs.headers.no_headers.Given as goal

abbrev pub invariant-loop-i : goal.invariant-loop-i
invariant-loop-i l = l.heads.items ≡ replicate l._i None
