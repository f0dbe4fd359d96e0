-- No greater id has a header page.
use Rattle.std.proofs.Common.{◌≡◌, ◌<◌, ◌≤◌, ℕ, get_or, None}
use Rattle.plain_image.proofs.meaning.greatest.Given as goal

abbrev pub invariant-loop-id : goal.invariant-loop-id
invariant-loop-id l = (l.id ≤ 0x7FFF) × ((id : ℕ) → l.id < id → id < 0x8000 → get_or l.heads id None ≡ None)

abbrev pub decreases-loop-id : goal.decreases-loop-id
decreases-loop-id l = l.id
