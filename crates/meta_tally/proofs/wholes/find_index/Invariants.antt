-- The search from that block on gives the answer.
use Rattle.std.proofs.Common.{◌≡◌, ◌-◌, ◌*◌, ℕ}
use Rattle.std.specs.Prelude.{find}
use Rattle.std.specs.List.{range_with_len}
use Rattle.geometry.specs.Numbers.{per_block}
use Rattle.image_model.specs.Live.{live_at, own}
use Rattle.image_model.specs.Files.{is_index, index_page}
use Rattle.meta_tally.proofs.wholes.find_index.Given as goal

abbrev pub invariant-loop-block : goal.invariant-loop-block
invariant-loop-block l =
    find (λ (p : ℕ). is_index (own (live_at l.g l.image) l.id p) l.span) (range_with_len (l.block * per_block l.g) (l.g.blocks * per_block l.g - l.block * per_block l.g))
    ≡ index_page l.g (own (live_at l.g l.image) l.id) l.span
