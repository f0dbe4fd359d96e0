-- The search from `id` on gives the answer.
use Rattle.std.proofs.Common.{◌≡◌, ◌-◌, ℕ, not}
use Rattle.std.specs.List.{range_with_len, list_any}
use Rattle.image_model.specs.Live.{live_at}
use Rattle.image_model.specs.Tables.{has_of, is_before, counts}
use Rattle.plain_image.proofs.table.counts.Given as goal

abbrev pub invariant-loop-id : goal.invariant-loop-id
invariant-loop-id l =
    not (list_any (λ (j : ℕ). is_before (has_of l.g (live_at l.g l.image) j) l.p l.name) (range_with_len l.id (l.id-end - l.id)))
    ≡ counts (has_of l.g (live_at l.g l.image)) l.n l.p l.name
