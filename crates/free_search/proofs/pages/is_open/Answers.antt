use Rattle.std.proofs.Common.{◌≡◌, true, false}
use Rattle.geometry.specs.Numbers.{per_block, lookups, entries}
use Rattle.image_model.specs.Places.{has_magic}
use Rattle.flash_view.specs.Walk.{NextSlot}
use Rattle.flash_view.proofs.Looking.{looks_none, looks_then}
use Rattle.flash_view.proofs.Telling.{looked}
use Rattle.flash_view.specs.Counts.{AreCounts}
use Rattle.free_search.proofs.FreePages.{opens, shut, shut_full}
use Rattle.free_search.proofs.Rowed.{row_open}
use Rattle.free_search.proofs.pages.is_open.Goals as goal

pub returns-in-Some-clause-looks : goal.returns-in-Some-clause-looks
returns-in-Some-clause-looks g c = looked (looks_none c.args.v.now) (λ tells frees.
    rw (c.takes.ensures, c.entries-entries.ensures.count) (row_open c.args.v.now.geometry c.args.v.now.nor.now c.args.v.now.rows.now c.args.block c.in-Some.counts c.requires c.in-Some.ensures.row c.in-Some.ensures.stands tells c.args.kind))

pub returns-then-not-branch-clause-looks : goal.returns-then-not-branch-clause-looks
returns-then-not-branch-clause-looks g c = looked c.in_ok-has_magic.ensures.looks (λ tells frees.
    let geometry = c.args.v.now.geometry in
    let image = g.N.NorState.bytes c.args.v.now.nor.now in
    let none : has_magic geometry image c.args.block ≡ false = cc (c.in_ok-has_magic.ensures.told tells, c.if-not-branch.true) in
    shut geometry image c.args.block c.args.kind frees c.requires none)

pub returns-then-is_none-clause-looks : goal.returns-then-is_none-clause-looks
returns-then-is_none-clause-looks g c = looked (looks_then c.in_ok-has_magic.ensures.looks c.in_ok-find_slot.ensures.looks) (λ tells frees.
    let m = c.in_ok-has_magic.ensures.looks in
    let geometry = c.args.v.now.geometry in
    let image = g.N.NorState.bytes c.args.v.now.nor.now in
    let next : NextSlot geometry image c.args.block 0 0xFFFF 0xFFFF c.in_ok-find_slot.field-0 = rw (m.same.geometry, m.reads.bytes) at (c.in_ok-find_slot.ensures.told (m.reads.told tells)) in
    shut_full geometry image c.args.block c.args.kind c.in_ok-find_slot.field-0 c.is_none.result next c.is_none.ensures c.if-is_none.true)

pub returns-clause-looks : goal.returns-clause-looks
unfolding per_block lookups entries
returns-clause-looks g c = looked (looks_then (looks_then c.in_ok-has_magic.ensures.looks c.in_ok-find_slot.ensures.looks) c.in_ok-counts.ensures.looks.only) (λ tells frees.
    let m = c.in_ok-has_magic.ensures in
    let two = looks_then m.looks c.in_ok-find_slot.ensures.looks in
    let n = c.in_ok-counts.ensures in
    let geometry = c.args.v.now.geometry in
    let image = g.N.NorState.bytes c.args.v.now.nor.now in
    let magic : has_magic geometry image c.args.block ≡ true = cc (m.told tells, c.if-not-branch.false) in
    let counts : AreCounts geometry image c.args.block c.in_ok-counts.field-0 = rw (two.same.geometry, two.reads.bytes) at (n.looks.told (two.reads.told tells)) in
    rw (c.takes-2.ensures, c.entries-entries.ensures.count) (opens geometry image c.args.block c.args.kind c.in_ok-counts.field-0 frees c.requires magic counts))
