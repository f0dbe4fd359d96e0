-- The search from page `i` of the block on gives the answer.
use Rattle.std.proofs.Common.{◌≡◌, ◌+◌, ◌-◌, ◌*◌, ℕ}
use Rattle.std.specs.Prelude.{find}
use Rattle.std.specs.List.{range_with_len}
use Rattle.geometry.specs.Numbers.{per_block}
use Rattle.image_model.specs.Live.{live_at, own}
use Rattle.image_model.specs.Files.{is_index}
use Rattle.meta_tally.proofs.wholes.index_in.Given as goal

abbrev pub invariant-loop-i : goal.invariant-loop-i
invariant-loop-i l =
    find (λ (p : ℕ). is_index (own (live_at l.g l.image) l.id p) l.span) (range_with_len (l.block * per_block l.g + l.i) (l.block * per_block l.g + per_block l.g - (l.block * per_block l.g + l.i)))
    ≡ find (λ (p : ℕ). is_index (own (live_at l.g l.image) l.id p) l.span) (range_with_len (l.block * per_block l.g) (per_block l.g))
