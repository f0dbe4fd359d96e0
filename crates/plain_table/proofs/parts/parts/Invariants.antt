-- The steps so far, and those of the numbers from `i` on.
use Rattle.std.proofs.Common.{◌≡◌, ℕ, ◌+◌, ◌-◌, ◌++◌, map, length}
use Rattle.std.specs.Prelude.{filter, ◌==◌, ◌||◌, ◌%◌}
use Rattle.std.specs.List.{range_with_len}
use Rattle.geometry.specs.Numbers.{body}
use Rattle.table_model.specs.Steps.{written_up_to, file_steps}
use Rattle.plain_table.specs.Seen.{file, files_of}
use Rattle.plain_table.proofs.parts.parts.Given as goal

abbrev pub invariant-loop-i : goal.invariant-loop-i
invariant-loop-i l =
    map files_of l.steps.items
    ++ map (written_up_to l.at l.bytes (file l.f) (map file l.files))
    (filter (λ (e : ℕ). (e % body l.g == 0) || (e == length (file l.f).bytes) || (e == l.at + length l.bytes)) (range_with_len (l.at + 1 + l.i) (l.i-end - l.i)))
    ≡ file_steps l.g l.at l.bytes (file l.f) (map file l.files)
