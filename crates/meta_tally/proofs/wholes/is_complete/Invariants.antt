-- What is known is right, and the search from `span` on gives the answer.
use Rattle.std.proofs.Common.{◌≡◌, ◌-◌, ℕ}
use Rattle.std.specs.Prelude.{find, is_none}
use Rattle.std.specs.List.{range_with_len}
use Rattle.image_model.specs.Live.{live_at, own}
use Rattle.image_model.specs.Files.{data_page, first_missing}
use Rattle.meta_tally.specs.Wholes.{IsKnown}
use Rattle.meta_tally.proofs.wholes.is_complete.Given as goal

abbrev pub invariant-loop-span : goal.invariant-loop-span
invariant-loop-span l = record {
  known : IsKnown l.g (own (live_at l.g l.image) l.id) l.known;
  found :
      find (λ (s : ℕ). is_none (data_page l.g (own (live_at l.g l.image) l.id) l.head s)) (range_with_len l.span (l.span-end - l.span))
      ≡ first_missing l.g (own (live_at l.g l.image) l.id) l.head;
}
