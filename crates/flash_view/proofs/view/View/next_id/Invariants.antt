-- The least id of the pages below `at`.
use Rattle.std.proofs.Common.{◌≡◌, ◌-◌, ◌*◌, ◌≤◌, ℕ}
use Rattle.std.specs.Prelude.{take}
use Rattle.geometry.specs.Numbers.{page_count}
use Rattle.image_model.specs.Live.{live_at}
use Rattle.flash_view.specs.Found.{headed}
use Rattle.flash_view.specs.Same.{OnlyLooks}
use Rattle.flash_view.proofs.Least.{LeastBelow}
use Rattle.flash_view.proofs.view.View.next_id.Given as goal

abbrev pub invariant-pages : goal.invariant-pages
invariant-pages g l = record {
  looks : OnlyLooks l.fn.self l.self;
  kept : take (2 * l.fn.self.geometry.page) l.self.work.now ≡ take (2 * l.fn.self.geometry.page) l.fn.self.work.now;
  most : l.at ≤ page_count l.fn.self.geometry;
  told :
      (let image = g.N.NorState.bytes l.fn.self.nor.now in
      g.N.NorState.tells l.fn.self.nor.now →
      LeastBelow (λ (q : ℕ). headed (live_at l.fn.self.geometry image q)) l.after l.at l.least);
}

abbrev pub decreases-pages : goal.decreases-pages
decreases-pages g l = page_count l.fn.self.geometry - l.at
