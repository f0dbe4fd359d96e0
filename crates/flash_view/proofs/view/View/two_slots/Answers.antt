use Rattle.std.proofs.Common.{◌≡◌, ◌+◌, ◌-◌, ◌*◌, ◌/◌, ap, ◌∙◌, arith}
use Rattle.nor_core.specs.Flash.{word_at}
use Rattle.image_model.specs.Places.{page_of}
use Rattle.geometry.specs.Numbers.{per_block}
use Rattle.flash_view.proofs.SlotHeld.{in_place, lookup_below, slot_read}
use Rattle.flash_view.proofs.view.View.two_slots.Goals as goal

pub read_word-first-requires : goal.read_word-first-requires
read_word-first-requires g c =
    let view = c.args.self.now in
    let zero : 0 ≡ 2 * c.args.i / view.geometry.page = omega (arith, lookup_below view.geometry c.args.i c.requires.first, c.lookups.ensures, c.if-lookups-ne1.false) in
    rw (c.brought-bytes.ensures.len, c.in_ok-f.ensures.looks.same.geometry) (omega (arith, (in_place view.geometry c.args.block 0 c.args.i zero).fits))

pub read_word-second-requires : goal.read_word-second-requires
read_word-second-requires g c =
    let view = c.args.self.now in
    let zero : 0 ≡ 2 * c.args.j / view.geometry.page = omega (arith, lookup_below view.geometry c.args.j c.requires.second, c.lookups.ensures, c.if-lookups-ne1.false) in
    rw (c.brought-bytes.ensures.len, c.in_ok-f.ensures.looks.same.geometry) (omega (arith, (in_place view.geometry c.args.block 0 c.args.j zero).fits))

pub returns-clause-first : goal.returns-clause-first
returns-clause-first g c = λ tells.
    let view = c.args.self.now in
    let image = g.N.NorState.bytes view.nor.now in
    let looks = c.in_ok-f.ensures.looks in
    let zero : 0 ≡ 2 * c.args.i / view.geometry.page = omega (arith, lookup_below view.geometry c.args.i c.requires.first, c.lookups.ensures, c.if-lookups-ne1.false) in
    let held : c.brought-bytes.result.now ≡ page_of view.geometry image (c.args.block * per_block view.geometry + 0) = rw (looks.same.geometry, looks.reads.bytes, c.lookup_page-page.ensures.page) at (c.brought-bytes.ensures.bytes (looks.reads.told tells)) in
    let flat : 2 * c.args.i ≡ 2 * c.args.i - 0 * view.geometry.page = omega arith in
    rw (c.read_word-first.ensures) (ap (word_at c.brought-bytes.result.now) flat ∙ slot_read view.geometry image c.brought-bytes.result.now c.args.block 0 c.args.i zero held)

pub returns-clause-second : goal.returns-clause-second
returns-clause-second g c = λ tells.
    let view = c.args.self.now in
    let image = g.N.NorState.bytes view.nor.now in
    let looks = c.in_ok-f.ensures.looks in
    let zero : 0 ≡ 2 * c.args.j / view.geometry.page = omega (arith, lookup_below view.geometry c.args.j c.requires.second, c.lookups.ensures, c.if-lookups-ne1.false) in
    let held : c.brought-bytes.result.now ≡ page_of view.geometry image (c.args.block * per_block view.geometry + 0) = rw (looks.same.geometry, looks.reads.bytes, c.lookup_page-page.ensures.page) at (c.brought-bytes.ensures.bytes (looks.reads.told tells)) in
    let flat : 2 * c.args.j ≡ 2 * c.args.j - 0 * view.geometry.page = omega arith in
    rw (c.read_word-second.ensures) (ap (word_at c.brought-bytes.result.now) flat ∙ slot_read view.geometry image c.brought-bytes.result.now c.args.block 0 c.args.j zero held)
