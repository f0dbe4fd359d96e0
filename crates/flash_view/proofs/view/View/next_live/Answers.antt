use Rattle.std.proofs.Common.{◌≡◌, ◌+◌, ◌-◌, ◌*◌, ◌/◌, ◌%◌, ◌<◌, ◌≤◌, refl, sym, ◌∙◌, ap, arith}
use Rattle.std.specs.Prelude.{Some, None}
use Rattle.std.specs.Option.{option_map}
use Rattle.std.proofs.Math.Nat.{mod-lt, mul-le-mul_right}
use Rattle.page_layout.specs.Layout.{header_at}
use Rattle.geometry.specs.Numbers.{page_count, per_block, lookups}
use Rattle.image_model.specs.Places.{entry_of}
use Rattle.image_model.specs.Live.{live_at}
use Rattle.flash_view.specs.Walk.{IsNextSlot, ArePassed}
use Rattle.flash_view.proofs.Looking.{looks_none, looks_then}
use Rattle.flash_view.proofs.SlotHeld.{some_pages}
use Rattle.flash_view.proofs.Walking.{walk_start, walk_block, walk_dead, walk_live, unseen_live, entry_is, walk_from, found_block}
use Rattle.flash_view.proofs.view.View.next_live.Goals as goal

pub walk-init : goal.walk-init
walk-init g c =
    let view = c.args.self.now in
    let some : 0 < per_block view.geometry = omega (arith, some_pages view.geometry) in
    let block : c.args.from / c.per_block.result ≡ c.args.from / per_block view.geometry = ap (λ n. c.args.from / n) (c.per_block.ensures.count) in
    let place : c.args.from % c.per_block-2.result ≡ c.args.from % per_block view.geometry = ap (λ n. c.args.from % n) (c.per_block-2.ensures.count) in
    let slot : c.saturating_sub-slot.result ≡ c.args.from % per_block view.geometry - lookups view.geometry = omega (arith, c.saturating_sub-slot.ensures, place, c.lookups.ensures.count) in
    record {
      looks = looks_none view;
      work = refl;
      slot = omega (arith, slot, mod-lt c.args.from some, some_pages view.geometry);
      from = walk_from view.geometry (g.N.NorState.bytes view.nor.now) c.args.low c.args.high c.args.from _ _ block slot;
      told = λ tells. walk_start view.geometry (g.N.NorState.bytes view.nor.now) c.args.low c.args.high c.args.from _ _ block slot;
    }

pub entry_page-page-requires-clause-entry : goal.entry_page-page-requires-clause-entry
entry_page-page-requires-clause-entry g c =
    let inside = rw (c.in-Some.is, c.walk.invariant.looks.same.geometry) at c.in_ok-i.ensures.inside in
    omega (arith, inside)

pub live_by-requires-clause-block : goal.live_by-requires-clause-block
live_by-requires-clause-block g c =
    let inside = rw (c.in-Some.is, c.walk.invariant.looks.same.geometry) at c.in_ok-i.ensures.inside in
    let place : c.entry_page-page.result ≡ c.walk.block * per_block c.args.self.now.geometry + lookups c.args.self.now.geometry + c.in-Some.i = c.entry_page-page.ensures.place in
    rw (c.in_ok-i.ensures.looks.same.geometry, c.walk.invariant.looks.same.geometry) (found_block c.args.self.now.geometry c.walk.block c.in-Some.i c.entry_page-page.result inside.1 place)

pub returns-in-Some-2-clause-looks : goal.returns-in-Some-2-clause-looks
returns-in-Some-2-clause-looks g c = looks_then (looks_then c.walk.invariant.looks c.in_ok-i.ensures.looks) c.in_ok-head-in-Some.ensures.looks

pub returns-in-Some-2-clause-inside : goal.returns-in-Some-2-clause-inside
returns-in-Some-2-clause-inside g c =
    let inside = rw (c.in-Some.is, c.walk.invariant.looks.same.geometry) at c.in_ok-i.ensures.inside in
    let place : c.entry_page-page.result ≡ c.walk.block * per_block c.args.self.now.geometry + lookups c.args.self.now.geometry + c.in-Some.i = c.entry_page-page.ensures.place in
    (omega (arith, place, inside.0, c.walk.invariant.from), c.entry_page-page.ensures.entry)

pub walk-smaller-in-Some : goal.walk-smaller-in-Some
walk-smaller-in-Some g c =
    let inside = rw (c.in-Some.is, c.walk.invariant.looks.same.geometry) at c.in_ok-i.ensures.inside in
    let next : c.walk.block + 1 ≤ c.args.self.now.geometry.blocks = omega (arith, c.walk-test.true, c.blocks-in-walk.ensures) in
    omega (arith, inside, some_pages c.args.self.now.geometry, mul-le-mul_right (per_block c.args.self.now.geometry) next)

pub walk-smaller : goal.walk-smaller
walk-smaller g c =
    let next : c.walk.block + 1 ≤ c.args.self.now.geometry.blocks = omega (arith, c.walk-test.true, c.blocks-in-walk.ensures) in
    omega (arith, c.walk.invariant.slot, some_pages c.args.self.now.geometry, mul-le-mul_right (per_block c.args.self.now.geometry) next)

pub walk-preserved : goal.walk-preserved
walk-preserved g c =
    let was = c.walk.invariant in
    let looked = c.in_ok-i.ensures in
    record {
      looks = looks_then was.looks looked.looks;
      work = looked.work ∙ was.work;
      slot = omega arith;
      from = omega (arith, was.from, was.slot, some_pages c.args.self.now.geometry);
      told = λ tells.
          let view = c.args.self.now in
          let image = g.N.NorState.bytes view.nor.now in
          let none : ArePassed view.geometry image c.walk.block c.walk.slot c.args.low c.args.high = rw (was.looks.same.geometry, was.looks.reads.bytes, c.in-None.is) at (looked.told (was.looks.reads.told tells)) in
          λ q after before. walk_block view.geometry image c.args.low c.args.high c.args.from c.walk.block c.walk.slot (was.told tells) none q after (omega (arith, before));
    }

pub walk-preserved-in-Some : goal.walk-preserved-in-Some
walk-preserved-in-Some g c =
    let was = c.walk.invariant in
    let found = c.in_ok-i.ensures in
    let looked = c.in_ok-head-in-Some.ensures in
    let inside = rw (c.in-Some.is, was.looks.same.geometry) at found.inside in
    record {
      looks = looks_then (looks_then was.looks found.looks) looked.looks;
      work = looked.work ∙ found.work ∙ was.work;
      slot = omega (arith, inside);
      from = omega (arith, was.from, inside);
      told = λ tells.
          let view = c.args.self.now in
          let image = g.N.NorState.bytes view.nor.now in
          let is : IsNextSlot view.geometry image c.walk.block c.walk.slot c.args.low c.args.high c.in-Some.i c.in-Some.entry = rw (was.looks.same.geometry, was.looks.reads.bytes, c.in-Some.is) at (found.told (was.looks.reads.told tells)) in
          let place : c.entry_page-page.result ≡ c.walk.block * per_block view.geometry + lookups view.geometry + c.in-Some.i = c.entry_page-page.ensures.place in
          let entry : c.in-Some.entry ≡ entry_of view.geometry image c.entry_page-page.result = is.number ∙ sym (entry_is view.geometry image c.walk.block c.in-Some.i inside.1) ∙ sym (ap (entry_of view.geometry image) place) in
          let tells_on = found.looks.reads.told (was.looks.reads.told tells) in
          let none : None ≡ option_map header_at (live_at view.geometry image c.entry_page-page.result) =
          sym c.in_default.is ∙ (rw (found.looks.same.geometry, was.looks.same.geometry, found.looks.reads.bytes, was.looks.reads.bytes) at (looked.told tells_on)) entry in
          walk_dead view.geometry image c.args.low c.args.high c.args.from c.walk.block c.walk.slot c.in-Some.i c.in-Some.entry c.entry_page-page.result inside.1 place (was.told tells) is (unseen_live view.geometry image c.entry_page-page.result none);
    }

pub returns-in-Some-2-clause-told : goal.returns-in-Some-2-clause-told
returns-in-Some-2-clause-told g c = λ tells.
    let was = c.walk.invariant in
    let found = c.in_ok-i.ensures in
    let looked = c.in_ok-head-in-Some.ensures in
    let view = c.args.self.now in
    let image = g.N.NorState.bytes view.nor.now in
    let inside = rw (c.in-Some.is, was.looks.same.geometry) at found.inside in
    let is : IsNextSlot view.geometry image c.walk.block c.walk.slot c.args.low c.args.high c.in-Some.i c.in-Some.entry = rw (was.looks.same.geometry, was.looks.reads.bytes, c.in-Some.is) at (found.told (was.looks.reads.told tells)) in
    let place : c.entry_page-page.result ≡ c.walk.block * per_block view.geometry + lookups view.geometry + c.in-Some.i = c.entry_page-page.ensures.place in
    let entry : c.in-Some.entry ≡ entry_of view.geometry image c.entry_page-page.result = is.number ∙ sym (entry_is view.geometry image c.walk.block c.in-Some.i inside.1) ∙ sym (ap (entry_of view.geometry image) place) in
    let tells_on = found.looks.reads.told (was.looks.reads.told tells) in
    let some : Some c.in-Some-2.head ≡ option_map header_at (live_at view.geometry image c.entry_page-page.result) =
    sym c.in-Some-2.is ∙ (rw (found.looks.same.geometry, was.looks.same.geometry, found.looks.reads.bytes, was.looks.reads.bytes) at (looked.told tells_on)) entry in
    walk_live view.geometry image c.args.low c.args.high c.args.from c.walk.block c.walk.slot c.in-Some.i c.in-Some.entry c.entry_page-page.result c.in-Some-2.head inside.1 place (was.told tells) is some

pub returns-clause-told : goal.returns-clause-told
unfolding page_count
returns-clause-told g c = λ tells q after before.
    let view = c.args.self.now in
    let all : view.geometry.blocks ≤ c.walk.block = omega (arith, c.walk-test.false, c.blocks-in-walk.ensures) in
    c.walk.invariant.told tells q after (omega (arith, before, mul-le-mul_right (per_block view.geometry) all))
