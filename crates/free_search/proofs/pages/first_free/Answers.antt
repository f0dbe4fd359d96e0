use Rattle.std.proofs.Common.{◌<◌, ◌≤◌, Option, ℕ, subst}
use Rattle.geometry.specs.Numbers.{entries}
use Rattle.flash_view.specs.Walk.{IsNextSlot, NextSlot}
use Rattle.flash_view.proofs.Heads.{entry_page_told}
use Rattle.flash_view.proofs.Looking.{looks_then}
use Rattle.flash_view.proofs.Telling.{looked}
use Rattle.free_search.proofs.Slots.{first_none, first_some}
use Rattle.free_search.proofs.pages.first_free.Goals as goal

pub returns-in_default-clause-looks : goal.returns-in_default-clause-looks
returns-in_default-clause-looks g c = looked c.in_ok-i.ensures.looks (λ tells frees.
    let geometry = c.args.v.now.geometry in
    let image = g.N.NorState.bytes c.args.v.now.nor.now in
    first_none geometry image c.args.block (subst (λ (o : Option (ℕ × ℕ)). NextSlot geometry image c.args.block 0 0xFFFF 0xFFFF o) c.in_default.is (c.in_ok-i.ensures.told tells)))

pub returns-clause-looks : goal.returns-clause-looks
returns-clause-looks g c = looked (looks_then c.in_ok-i.ensures.looks c.in_ok-entry.ensures.looks) (λ tells frees.
    let geometry = c.args.v.now.geometry in
    let image = g.N.NorState.bytes c.args.v.now.nor.now in
    let looked = c.in_ok-i.ensures.looks in
    let inside : (0 ≤ c.in-Some.i) × (c.in-Some.i < entries geometry) = rw c.in-Some.is at c.in_ok-i.ensures.inside in
    let next : IsNextSlot geometry image c.args.block 0 0xFFFF 0xFFFF c.in-Some.i c.in-Some.field-0-1 = rw c.in-Some.is at (c.in_ok-i.ensures.told tells) in
    let page = rw looked.same.geometry at c.entry_page-page.ensures in
    first_some geometry image c.args.block c.in-Some.i c.in-Some.field-0-1 c.entry_page-page.result frees (entry_page_told geometry c.entry_page-page.result page.entry) inside.1 next page.place)
