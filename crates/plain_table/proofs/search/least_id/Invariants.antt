-- The search from `id` on gives the answer.
use Rattle.std.proofs.Common.{◌≡◌, ◌-◌, ℕ, map, not}
use Rattle.std.specs.Prelude.{find, unwrap_or}
use Rattle.std.specs.List.{range_with_len}
use Rattle.table_model.specs.Table.{has_id, least_id}
use Rattle.plain_table.specs.Seen.{file}
use Rattle.plain_table.proofs.search.least_id.Given as goal

abbrev pub invariant-loop-id : goal.invariant-loop-id
invariant-loop-id l = unwrap_or (find (λ (j : ℕ). not (has_id j (map file l.files))) (range_with_len l.id (l.id-end - l.id))) 0 ≡ least_id (map file l.files)
