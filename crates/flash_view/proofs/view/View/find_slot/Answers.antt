use Rattle.std.proofs.Common.{ℕ, ◌≡◌, ◌<◌, ◌+◌, ◌*◌, ◌/◌, ◌∙◌, refl, arith}
use Rattle.std.specs.Prelude.{None, min}
use Rattle.geometry.specs.declared.geometry.Geometry.{Geometry}
use Rattle.geometry.specs.Numbers.{entries}
use Rattle.flash_view.specs.Walk.{FirstSlot}
use Rattle.flash_view.proofs.Looking.{looks_then}
use Rattle.flash_view.proofs.SlotHeld.{in_lookup}
use Rattle.flash_view.proofs.Walking.{slots_on, page_after}
use Rattle.flash_view.proofs.view.View.find_slot.Goals as goal

-- an entry lies before the end of its lookup page
at_lookup : (geo : Geometry) (k at : ℕ) → k ≡ 2 * at / geo.page → at < (k + 1) * (geo.page / 2)
at_lookup geo k at is = let w = in_lookup geo (geo.page / 2) k at refl is in omega (arith, w.high)

pub pages-smaller : goal.pages-smaller
pages-smaller g c =
    let w = in_lookup c.args.self.now.geometry (c.page.result / 2) c.lookup_of-k.result c.pages.at (omega (arith, c.page.ensures)) c.lookup_of-k.ensures.lookup in
    omega (arith, w.high, c.pages-test.true, c.entries.ensures.count)

pub pages-preserved : goal.pages-preserved
pages-preserved g c =
    let was = c.pages.invariant in
    let looked = c.in_ok-found.ensures in
    let so_far = was.pages c.lookup_of-k.result (at_lookup c.args.self.now.geometry c.lookup_of-k.result c.pages.at c.lookup_of-k.ensures.lookup) in
    let w = in_lookup c.args.self.now.geometry (c.page.result / 2) c.lookup_of-k.result c.pages.at (omega (arith, c.page.ensures)) c.lookup_of-k.ensures.lookup in
    record {
      looks = looks_then was.looks looked.looks;
      work = looked.work ∙ was.work;
      from = omega (arith, was.from, w.high);
      few = omega (arith, so_far, looked.once, c.lookup_of-k.ensures.below);
      pages = λ k before. omega (arith, so_far, looked.once, page_after (c.page.result / 2) (c.args.self.now.geometry.page / 2) c.lookup_of-k.result k (omega (arith, c.page.ensures)) before);
      told = λ tells.
          let view = c.args.self.now in
          let image = g.N.NorState.bytes view.nor.now in
          let none : FirstSlot view.geometry image c.args.block c.pages.at (min (entries view.geometry) ((c.lookup_of-k.result + 1) * (view.geometry.page / 2))) c.args.low c.args.high None =
          rw (was.looks.same.geometry, was.looks.reads.bytes, c.in_default.is) at (looked.told (was.looks.reads.told tells)) in
          slots_on view.geometry image c.args.low c.args.high (c.page.result / 2) c.lookup_of-k.result c.args.block c.args.from c.pages.at (entries view.geometry) (omega (arith, c.page.ensures)) (was.told tells) none;
    }

pub returns-in_err-found-clause-few : goal.returns-in_err-found-clause-few
returns-in_err-found-clause-few g c =
    let so_far = c.pages.invariant.pages c.lookup_of-k.result (at_lookup c.args.self.now.geometry c.lookup_of-k.result c.pages.at c.lookup_of-k.ensures.lookup) in
    omega (arith, so_far, c.in_err-found.ensures.once, c.lookup_of-k.ensures.below)

pub returns-in-Some-clause-few : goal.returns-in-Some-clause-few
returns-in-Some-clause-few g c =
    let so_far = c.pages.invariant.pages c.lookup_of-k.result (at_lookup c.args.self.now.geometry c.lookup_of-k.result c.pages.at c.lookup_of-k.ensures.lookup) in
    omega (arith, so_far, c.in_ok-found.ensures.once, c.lookup_of-k.ensures.below)
