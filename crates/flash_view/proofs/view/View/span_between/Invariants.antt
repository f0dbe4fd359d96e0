-- No page from `from` on and below `at` is an index page of the object and the span.
use Rattle.std.proofs.Common.{◌≡◌, ◌-◌, ◌<◌, ◌≤◌, ℕ, false}
use Rattle.geometry.specs.Numbers.{page_count}
use Rattle.image_model.specs.Live.{live_at, own}
use Rattle.image_model.specs.Files.{is_index}
use Rattle.flash_view.specs.Same.{OnlyLooks}
use Rattle.flash_view.proofs.view.View.span_between.Given as goal

abbrev pub invariant-pages : goal.invariant-pages
invariant-pages g l = record {
  looks : OnlyLooks l.fn.self l.self;
  work : l.self.work.now ≡ l.fn.self.work.now;
  low : l.from ≤ l.at;
  told : (g.N.NorState.tells l.fn.self.nor.now → (q : ℕ) → l.from ≤ q → q < l.at → is_index (own (live_at l.fn.self.geometry (g.N.NorState.bytes l.fn.self.nor.now)) l.id q) l.span ≡ false);
}

abbrev pub decreases-pages : goal.decreases-pages
decreases-pages g l = page_count l.fn.self.geometry - l.at
