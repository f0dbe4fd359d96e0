-- The search from `span` on gives the answer.
use Rattle.std.proofs.Common.{◌≡◌, ◌-◌, ℕ}
use Rattle.std.specs.Prelude.{find, is_none}
use Rattle.std.specs.List.{range_with_len}
use Rattle.image_model.specs.Live.{live_at as the_live_at, own as the_own}
use Rattle.image_model.specs.Files.{data_page as the_data_page, first_missing as the_first_missing}
use Rattle.plain_image.proofs.files.first_missing.Given as goal

abbrev pub invariant-loop-span : goal.invariant-loop-span
invariant-loop-span l =
    find (λ (q : ℕ). is_none (the_data_page l.g (the_own (the_live_at l.g l.image) l.id) l.head q)) (range_with_len l.span (l.span-end - l.span))
    ≡ the_first_missing l.g (the_own (the_live_at l.g l.image) l.id) l.head
