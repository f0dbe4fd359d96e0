use Rattle.std.proofs.Common.{◌≡◌, ◌+◌, ◌*◌, ◌/◌, arith}
use Rattle.geometry.proofs.Bounds.{few_in_block}
use Rattle.geometry.specs.Numbers.{entries, per_block}
use Rattle.image_model.specs.Places.{page_of}
use Rattle.flash_view.proofs.SlotHeld.{in_lookup}
use Rattle.flash_view.proofs.Walking.{found_in, none_in}
use Rattle.flash_view.proofs.view.View.slot_brought.Goals as goal

pub overflow_mul-start : goal.overflow_mul-start
overflow_mul-start g c =
    let w = in_lookup c.args.self.now.geometry (c.page-slots.result / 2) c.args.k c.args.at (omega (arith, c.page-slots.ensures)) c.requires.lookup in
    omega (arith, w.low, c.ranges.at.fits)

pub overflow_add-start : goal.overflow_add-start
overflow_add-start g c =
    let w = in_lookup c.args.self.now.geometry (c.page-slots.result / 2) c.args.k c.args.at (omega (arith, c.page-slots.ensures)) c.requires.lookup in
    omega (arith, w.low, c.requires.place, c.page-slots.ensures, few_in_block c.args.self.now.geometry, c.args.self.now.geometry.valid.page_most)

pub overflow_sub-from : goal.overflow_sub-from
overflow_sub-from g c = (in_lookup c.args.self.now.geometry (c.page-slots.result / 2) c.args.k c.args.at (omega (arith, c.page-slots.ensures)) c.requires.lookup).low

pub overflow_sub-to : goal.overflow_sub-to
overflow_sub-to g c =
    let w = in_lookup c.args.self.now.geometry (c.page-slots.result / 2) c.args.k c.args.at (omega (arith, c.page-slots.ensures)) c.requires.lookup in
    omega (arith, w.low, c.requires.place, c.min-end.ensures, c.entries.ensures.count)

pub returns-in-Some-clause-inside : goal.returns-in-Some-clause-inside
returns-in-Some-clause-inside g c =
    let w = in_lookup c.args.self.now.geometry (c.page-slots.result / 2) c.args.k c.args.at (omega (arith, c.page-slots.ensures)) c.requires.lookup in
    (omega (arith, w.low, c.in-Some.ensures.found), omega (arith, c.in-Some.ensures.found, c.min-end.ensures, c.entries.ensures.count))

pub returns-in-Some-clause-told : goal.returns-in-Some-clause-told
returns-in-Some-clause-told g c = λ tells.
    let view = c.args.self.now in
    let image = g.N.NorState.bytes view.nor.now in
    let looks = c.in_ok-f.ensures.looks in
    let half : c.page-slots.result / 2 ≡ view.geometry.page / 2 = omega (arith, c.page-slots.ensures) in
    let w = in_lookup view.geometry (c.page-slots.result / 2) c.args.k c.args.at half c.requires.lookup in
    let is : c.brought.result.now ≡ page_of view.geometry image (c.args.block * per_block view.geometry + c.args.k) = rw (looks.same.geometry, looks.reads.bytes, c.lookup_page-page.ensures.page) at (c.brought.ensures.bytes (looks.reads.told tells)) in
    found_in view.geometry image c.args.low c.args.high (c.page-slots.result / 2) c.args.block c.args.k c.args.at c.min-end.result c.in-Some.i c.in-Some.entry c.brought.result.now half is c.brought.ensures.small (omega (arith, c.min-end.ensures)) w.low c.in-Some.ensures.found c.in-Some.ensures.passed

pub returns-in-None-clause-told : goal.returns-in-None-clause-told
returns-in-None-clause-told g c = λ tells.
    let view = c.args.self.now in
    let image = g.N.NorState.bytes view.nor.now in
    let looks = c.in_ok-f.ensures.looks in
    let half : c.page-slots.result / 2 ≡ view.geometry.page / 2 = omega (arith, c.page-slots.ensures) in
    let w = in_lookup view.geometry (c.page-slots.result / 2) c.args.k c.args.at half c.requires.lookup in
    let is : c.brought.result.now ≡ page_of view.geometry image (c.args.block * per_block view.geometry + c.args.k) = rw (looks.same.geometry, looks.reads.bytes, c.lookup_page-page.ensures.page) at (c.brought.ensures.bytes (looks.reads.told tells)) in
    none_in view.geometry image c.args.low c.args.high (c.page-slots.result / 2) c.args.block c.args.k c.args.at c.min-end.result (entries view.geometry) c.brought.result.now half is c.brought.ensures.small (omega (arith, c.min-end.ensures, c.entries.ensures.count)) w.low c.in-None.ensures.passed
