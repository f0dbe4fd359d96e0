-- The search from `at` on gives the answer.
use Rattle.std.proofs.Common.{◌≡◌, ◌-◌, ◌≤◌, ℕ, take}
use Rattle.std.specs.Prelude.{find, is_some, option_and_then}
use Rattle.std.specs.List.{range_with_len}
use Rattle.flash_view.specs.Same.{OnlyLooks}
use Rattle.file_find.specs.Marks.{MarkedBelow, holder_at, holder_below}
use Rattle.file_find.proofs.marks.holder_below.Given as goal

abbrev pub invariant-pages : goal.invariant-pages
invariant-pages g l = record {
  most : l.at ≤ l.end;
  looks : OnlyLooks l.fn.v l.v;
  built : take l.fn.v.geometry.page l.v.work.now ≡ take l.fn.v.geometry.page l.fn.v.work.now;
  told :
      (let image = g.N.NorState.bytes l.fn.v.nor.now in
      let at = holder_at l.fn.v.geometry image l.name in
      g.N.NorState.tells l.fn.v.nor.now →
      MarkedBelow l.fn.v.geometry image l.marks l.end →
      option_and_then at (find (λ (q : ℕ). is_some (at q)) (range_with_len l.at (l.end - l.at))) ≡ holder_below l.fn.v.geometry image l.name l.end);
}

abbrev pub decreases-pages : goal.decreases-pages
decreases-pages g l = l.end - l.at
