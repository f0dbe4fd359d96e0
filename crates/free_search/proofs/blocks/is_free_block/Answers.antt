use Rattle.std.proofs.Common.{◌≡◌, true, false, refl}
use Rattle.image_model.specs.Places.{has_magic}
use Rattle.image_model.specs.Tidy.{is_free_block}
use Rattle.flash_view.specs.Walk.{NextSlot}
use Rattle.flash_view.proofs.Looking.{looks_none, looks_then}
use Rattle.flash_view.proofs.Telling.{looked}
use Rattle.free_search.proofs.Rowed.{row_free}
use Rattle.free_search.proofs.Slots.{free_by}
use Rattle.free_search.proofs.blocks.is_free_block.Goals as goal

pub returns-in-Some-clause-looks : goal.returns-in-Some-clause-looks
returns-in-Some-clause-looks g c = looked (looks_none c.args.v.now) (λ tells frees.
    rw (c.from.ensures, c.entries.ensures.count) (row_free c.args.v.now.geometry c.args.v.now.nor.now c.args.v.now.rows.now c.args.block c.in-Some.counts c.requires c.in-Some.ensures.row c.in-Some.ensures.stands tells))

pub returns-then-not-branch-clause-looks : goal.returns-then-not-branch-clause-looks
unfolding is_free_block
returns-then-not-branch-clause-looks g c = looked c.in_ok-has_magic.ensures.looks (λ tells frees.
    let magic : has_magic c.args.v.now.geometry (g.N.NorState.bytes c.args.v.now.nor.now) c.args.block ≡ false = cc (c.in_ok-has_magic.ensures.told tells, c.if-not-branch.true) in
    rw magic refl)

pub returns-clause-looks : goal.returns-clause-looks
returns-clause-looks g c = looked (looks_then c.in_ok-has_magic.ensures.looks c.in_ok-find_slot.ensures.looks) (λ tells frees.
    let m = c.in_ok-has_magic.ensures in
    let n = c.in_ok-find_slot.ensures in
    let geometry = c.args.v.now.geometry in
    let image = g.N.NorState.bytes c.args.v.now.nor.now in
    let magic : has_magic geometry image c.args.block ≡ true = cc (m.told tells, c.if-not-branch.false) in
    let found : NextSlot geometry image c.args.block 0 0 0xFFFE c.in_ok-find_slot.field-0 = rw (m.looks.same.geometry, m.looks.reads.bytes) at (n.told (m.looks.reads.told tells)) in
    free_by geometry image c.args.block frees c.requires magic c.in_ok-find_slot.field-0 c.is_none.result found (rw m.looks.same.geometry at n.inside) c.is_none.ensures)
