use Rattle.std.proofs.Common.{arith, ◌∙◌, rules}
use Rattle.flash_view.proofs.Looking.{looks_then}
use Rattle.flash_view.proofs.Telling.{looked}
use Rattle.free_search.specs.Ids.{bits_at}
use Rattle.free_search.proofs.Scanning.{scan_end}
use Rattle.free_search.proofs.naming.name_or_id.Goals as goal

pub returns-clause-looks : goal.returns-clause-looks
returns-clause-looks g c = looked c.loop-block.invariant.looks (λ tells.
    let was = c.loop-block.invariant in
    let geometry = c.args.v.now.geometry in
    let all = rw was.looks.same.geometry at c.least_unnoted.ensures.first in
    let end = scan_end geometry (g.N.NorState.bytes c.args.v.now.nor.now) (bits_at geometry c.loop-block.v.work.now) c.args.name.now c.loop-block.block (omega (arith, c.loop-block-test.false, c.loop-block.auto.block-end, was.end)) (was.told tells) in
    (end.0, all ∙ end.1))

pub returns-then-branch-clause-looks : goal.returns-then-branch-clause-looks
returns-then-branch-clause-looks g c =
    let was = c.loop-block.invariant in
    let s = c.in_ok-scan_block.ensures in
    looked (looks_then was.looks s.looks.only) (λ tells.
    let told = (rw (was.looks.same.geometry, was.looks.reads.bytes) at (s.looks.told (was.looks.reads.told tells))) (was.told tells) in
    search rules)
