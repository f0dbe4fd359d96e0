-- No page from `from` on and below `at` is a header page with that name.
use Rattle.std.proofs.Common.{◌≡◌, ◌-◌, ◌<◌, ◌≤◌, ℕ}
use Rattle.std.specs.Prelude.{None}
use Rattle.geometry.specs.Numbers.{page_count}
use Rattle.image_model.specs.Live.{live_at}
use Rattle.flash_view.specs.Found.{named_at}
use Rattle.flash_view.specs.Same.{OnlyLooks}
use Rattle.flash_view.proofs.view.View.named_between.Given as goal

abbrev pub invariant-pages : goal.invariant-pages
invariant-pages g l = record {
  looks : OnlyLooks l.fn.self l.self;
  work : l.self.work.now ≡ l.fn.self.work.now;
  low : l.from ≤ l.at;
  told : (g.N.NorState.tells l.fn.self.nor.now → (q : ℕ) → l.from ≤ q → q < l.at → named_at (live_at l.fn.self.geometry (g.N.NorState.bytes l.fn.self.nor.now) q) l.name ≡ None);
}

abbrev pub decreases-pages : goal.decreases-pages
decreases-pages g l = page_count l.fn.self.geometry - l.at
