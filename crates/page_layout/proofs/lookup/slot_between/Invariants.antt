-- No slot below `i` lies between.
use Rattle.std.proofs.Common.{◌≡◌, ℕ, ◌*◌, ◌<◌, ◌≤◌, false}
use Rattle.nor_core.specs.Flash.{word_at}
use Rattle.page_layout.specs.Layout.{is_between}
use Rattle.page_layout.proofs.lookup.slot_between.Given as goal

abbrev pub invariant-loop-i : goal.invariant-loop-i
invariant-loop-i l = (k : ℕ) → l.from ≤ k → k < l.i → is_between l.low l.high (word_at l.bytes (2 * k)) ≡ false
