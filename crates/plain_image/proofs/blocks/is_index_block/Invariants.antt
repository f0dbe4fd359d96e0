-- The search from `p` on gives the answer.
use Rattle.std.proofs.Common.{◌≡◌, ◌+◌, ◌-◌, ◌*◌, ℕ}
use Rattle.std.specs.List.{range_with_len, list_any}
use Rattle.geometry.specs.Numbers.{per_block, lookups, entries}
use Rattle.image_model.specs.Live.{live_at}
use Rattle.image_model.specs.Kinds.{is_index_page}
use Rattle.plain_image.proofs.blocks.is_index_block.Given as goal

abbrev pub invariant-loop-p : goal.invariant-loop-p
invariant-loop-p l =
    let test = λ (j : ℕ). is_index_page (live_at l.g l.image j) in
    list_any test (range_with_len l.p (l.p-end - l.p)) ≡ list_any test (range_with_len (l.block * per_block l.g + lookups l.g) (entries l.g))
