-- The search from `p` on gives the answer.
use Rattle.std.proofs.Common.{◌≡◌, ◌+◌, ◌-◌, ◌*◌, ℕ}
use Rattle.std.specs.List.{range_with_len, list_all}
use Rattle.geometry.specs.Numbers.{per_block, lookups, entries}
use Rattle.image_model.specs.Tidy.{is_free_entry}
use Rattle.plain_image.proofs.blocks.is_free_block.Given as goal

abbrev pub invariant-loop-p : goal.invariant-loop-p
invariant-loop-p l =
    let test = λ (j : ℕ). is_free_entry l.g l.image j in
    list_all test (range_with_len l.p (l.p-end - l.p)) ≡ list_all test (range_with_len (l.block * per_block l.g + lookups l.g) (entries l.g))
