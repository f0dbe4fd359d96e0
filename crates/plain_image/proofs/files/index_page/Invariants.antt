-- The search from `p` on gives the answer.
use Rattle.std.proofs.Common.{◌≡◌, ◌-◌, ℕ}
use Rattle.std.specs.Prelude.{find}
use Rattle.std.specs.List.{range_with_len}
use Rattle.image_model.specs.Live.{live_at as the_live_at, own as the_own}
use Rattle.image_model.specs.Files.{index_page as the_index_page, is_index}
use Rattle.plain_image.proofs.files.index_page.Given as goal

abbrev pub invariant-loop-p : goal.invariant-loop-p
invariant-loop-p l =
    find (λ (q : ℕ). is_index (the_own (the_live_at l.g l.image) l.id q) l.span) (range_with_len l.p (l.p-end - l.p))
    ≡ the_index_page l.g (the_own (the_live_at l.g l.image) l.id) l.span
