use Rattle.std.proofs.Common.{◌≡◌, ◌+◌, ◌*◌, ◌-◌, ◌≤◌, ◌∙◌, refl, subst, ℕ}
use Rattle.geometry.specs.Numbers.{per_block}
use Rattle.image_model.specs.Places.{page_of}
use Rattle.flash_view.specs.Places.{IsWordAt}
use Rattle.flash_view.proofs.SlotHeld.{in_place, slot_read, slot_small}
use Rattle.flash_view.proofs.view.View.slot.Goals as goal

pub peek_word-requires-clause-inside : goal.peek_word-requires-clause-inside
peek_word-requires-clause-inside g c =
    let view = c.args.self.now in
    let w = in_place view.geometry c.args.block c.lookup_of-k.result c.args.i c.lookup_of-k.ensures.lookup in
    let fits : 2 * c.args.i - c.lookup_of-k.result * c.page.result + 2 ≤ view.geometry.page = rw c.page.ensures w.fits in
    fits

pub returns-then-has_few-clause-told : goal.returns-then-has_few-clause-told
returns-then-has_few-clause-told g c = λ tells.
    let view = c.args.self.now in
    let image = g.N.NorState.bytes view.nor.now in
    let k = c.lookup_of-k.result in
    (rw (c.page.ensures, c.lookup_page-page.ensures.page, slot_read view.geometry image (page_of view.geometry image (c.args.block * per_block view.geometry + k)) c.args.block k c.args.i c.lookup_of-k.ensures.lookup refl)
    at (c.peek_word.ensures.told tells))

pub returns-then-has_few-clause-bytes : goal.returns-then-has_few-clause-bytes
returns-then-has_few-clause-bytes g c = λ tells.
    let view = c.args.self.now in
    let k = c.lookup_of-k.result in
    (rw (c.page.ensures, c.lookup_page-page.ensures.page, (in_place view.geometry c.args.block k c.args.i c.lookup_of-k.ensures.lookup).at) at (c.peek_word.ensures.bytes tells))

pub read_word-requires : goal.read_word-requires
read_word-requires g c =
    let view = c.args.self.now in
    let w = in_place view.geometry c.args.block c.lookup_of-k.result c.args.i c.lookup_of-k.ensures.lookup in
    let fits : 2 * c.args.i - c.lookup_of-k.result * c.page.result + 2 ≤ view.geometry.page = rw c.page.ensures w.fits in
    rw (c.brought.ensures.len, c.in_ok-f.ensures.looks.same.geometry) fits

pub returns-clause-told : goal.returns-clause-told
returns-clause-told g c = λ tells.
    let view = c.args.self.now in
    let image = g.N.NorState.bytes view.nor.now in
    let looks = c.in_ok-f.ensures.looks in
    let held : c.brought.result.now ≡ page_of view.geometry image (c.args.block * per_block view.geometry + c.lookup_of-k.result) = rw (looks.same.geometry, looks.reads.bytes, c.lookup_page-page.ensures.page) at (c.brought.ensures.bytes (looks.reads.told tells)) in
    rw (c.read_word.ensures, c.page.ensures) (slot_read view.geometry image c.brought.result.now c.args.block c.lookup_of-k.result c.args.i c.lookup_of-k.ensures.lookup held)

pub returns-clause-bytes : goal.returns-clause-bytes
returns-clause-bytes g c = λ tells.
    let view = c.args.self.now in
    let image = g.N.NorState.bytes view.nor.now in
    let looks = c.in_ok-f.ensures.looks in
    let held : c.brought.result.now ≡ page_of view.geometry image (c.args.block * per_block view.geometry + c.lookup_of-k.result) = rw (looks.same.geometry, looks.reads.bytes, c.lookup_page-page.ensures.page) at (c.brought.ensures.bytes (looks.reads.told tells)) in
    slot_small view.geometry image c.brought.result.now c.args.block c.lookup_of-k.result c.args.i c.lookup_of-k.ensures.lookup held c.brought.ensures.small
