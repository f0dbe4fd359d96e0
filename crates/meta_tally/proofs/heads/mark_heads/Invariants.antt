-- The pages below p are marked, and their ids noted and counted.
use Rattle.std.proofs.Common.{◌≡◌, ◌<◌, ℕ, slice_index}
use Rattle.std.specs.Prelude.{is_some}
use Rattle.geometry.specs.Numbers.{page_count}
use Rattle.image_model.specs.Live.{live_at}
use Rattle.plain_image.specs.Counted.{Counts}
use Rattle.meta_tally.specs.Heads.{Seen, head_at}
use Rattle.meta_tally.specs.Names.{mark_at}
use Rattle.meta_tally.proofs.heads.mark_heads.Given as goal

abbrev pub invariant-loop-p : goal.invariant-loop-p
invariant-loop-p l = record {
  seen : Seen (live_at l.g l.image) l.p l.ids;
  marked : ((q : ℕ) → q < l.p → slice_index l.marks q ≡ mark_at l.g l.image q);
  count : Counts (λ (q : ℕ). is_some (head_at l.g l.image q)) l.count l.p (page_count l.g);
}
