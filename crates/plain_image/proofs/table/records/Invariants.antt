-- The records so far, and those of the ids to come.
use Rattle.std.proofs.Common.{◌≡◌, ◌-◌, ◌++◌, ℕ, map}
use Rattle.std.specs.List.{range_with_len, filter_map}
use Rattle.image_model.specs.Live.{live_at}
use Rattle.image_model.specs.Tables.{has_of, counted, records}
use Rattle.plain_image.specs.Seen.{file}
use Rattle.plain_image.proofs.table.records.Given as goal

abbrev pub invariant-loop-id : goal.invariant-loop-id
invariant-loop-id l =
    let has = has_of l.g (live_at l.g l.image) in
    map file l.records.items ++ filter_map (λ (j : ℕ). counted has l.n (has j)) (range_with_len l.id (l.id-end - l.id)) ≡ records has l.n
