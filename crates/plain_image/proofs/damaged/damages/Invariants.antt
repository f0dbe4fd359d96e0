-- The damages so far, and those of the ids to come.
use Rattle.std.proofs.Common.{◌≡◌, ◌-◌, ◌++◌, ℕ}
use Rattle.std.specs.List.{range_with_len, filter_map}
use Rattle.image_model.specs.Live.{live_at}
use Rattle.image_model.specs.Tables.{has_of, damage, damages}
use Rattle.plain_image.proofs.damaged.damages.Given as goal

abbrev pub invariant-loop-id : goal.invariant-loop-id
invariant-loop-id l =
    let has = has_of l.g (live_at l.g l.image) in
    l.damages.items ++ filter_map (λ (j : ℕ). damage has l.n j (has j)) (range_with_len l.id (l.id-end - l.id)) ≡ damages has l.n
