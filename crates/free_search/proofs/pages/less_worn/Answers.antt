use Rattle.std.proofs.Common.{rules}
use Rattle.flash_view.proofs.Looking.{looks_then}
use Rattle.flash_view.proofs.Telling.{looked}
use Rattle.free_search.proofs.pages.less_worn.Goals as goal

pub returns-in-Some-clause-looks : goal.returns-in-Some-clause-looks
returns-in-Some-clause-looks g c =
    let first = c.in_ok-is_free_block.ensures.looks in
    let second = c.in_ok-erases.ensures.looks in
    looked (looks_then first.only second.only) (λ tells frees.
    let free = first.told tells frees in
    let worn = rw (first.only.same.geometry, first.only.reads.bytes) at (second.told (first.only.reads.told tells)) in
    search rules)

pub returns-in_default-clause-looks : goal.returns-in_default-clause-looks
returns-in_default-clause-looks g c =
    let first = c.in_ok-is_free_block.ensures.looks in
    let second = c.in_ok-erases.ensures.looks in
    looked (looks_then first.only second.only) (λ tells frees.
    let free = first.told tells frees in
    let worn = rw (first.only.same.geometry, first.only.reads.bytes) at (second.told (first.only.reads.told tells)) in
    search rules)
