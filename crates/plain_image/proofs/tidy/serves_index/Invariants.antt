-- The search from `span` on gives the answer.
use Rattle.std.proofs.Common.{◌≡◌, ◌-◌, ℕ}
use Rattle.std.specs.List.{range_with_len, list_any}
use Rattle.image_model.specs.Live.{live_at, own}
use Rattle.image_model.specs.Files.{index_page}
use Rattle.image_model.specs.Tidy.{is_number}
use Rattle.plain_image.proofs.tidy.serves_index.Given as goal

abbrev pub invariant-loop-span : goal.invariant-loop-span
invariant-loop-span l =
    let named = λ (j : ℕ). is_number (index_page l.g (own (live_at l.g l.image) l.id) j) l.p in
    list_any named (range_with_len l.span (l.n - l.span)) ≡ list_any named (range_with_len 0 l.n)
