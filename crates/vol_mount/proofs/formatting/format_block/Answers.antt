use Rattle.std.proofs.Common.{refl, arith}
use Rattle.geometry.specs.Numbers.{lookups}
use Rattle.page_put.proofs.Freshening.{lies}
use Rattle.vol_mount.proofs.Blanks.{block_done}
use Rattle.vol_mount.proofs.Inside.{inside_then, inside_slot}
use Rattle.vol_mount.proofs.formatting.format_block.Goals as goal

pub returns-clause-done : goal.returns-clause-done
unfolding lookups
returns-clause-done g c = λ tells.
    let erased = c.in_ok-erase_block.ensures in
    let counted = c.in_ok-program.ensures in
    let told = erased.changes.cuts.told tells in
    block_done c.args.g.now c.args.block _ _ _ c.program-2.result (g.N.NorState.bytes c.args.nor.now) (g.N.NorState.bytes c.erase_block.new.nor) (g.N.NorState.bytes c.program.new.self) (g.N.NorState.bytes c.program-2.new.self)
    (cc (c.block.ensures, c.count_offset.ensures.place)) (cc (c.block.ensures, c.magic_offset.ensures.place)) (cc (c.to_le_bytes.ensures, c.magic_of.ensures.magic)) (erased.done tells) (counted.done told) (c.program-2.ensures.done (counted.changes.cuts.told told))

pub returns-in_err-program-clause-changes : goal.returns-in_err-program-clause-changes
unfolding lookups
returns-in_err-program-clause-changes g c =
    let in_block = lies c.args.g.now in
    inside_then _ c.erase_block.ensures.changes
    (inside_slot c.args.g.now c.args.block _ c.count_offset.result _ _ c.requires.block c.block.ensures refl (omega (arith, c.count_offset.ensures.place, in_block.some, in_block.pages, in_block.inside)) c.program.ensures.changes)

pub returns-clause-changes : goal.returns-clause-changes
unfolding lookups
returns-clause-changes g c =
    let in_block = lies c.args.g.now in
    inside_then _
    (inside_then _ c.erase_block.ensures.changes
    (inside_slot c.args.g.now c.args.block _ c.count_offset.result _ _ c.requires.block c.block.ensures refl (omega (arith, c.count_offset.ensures.place, in_block.some, in_block.pages, in_block.inside)) c.program.ensures.changes))
    (inside_slot c.args.g.now c.args.block _ c.magic_offset.result _ _ c.requires.block c.block.ensures refl (omega (arith, c.magic_offset.ensures.place, in_block.some, in_block.pages, in_block.inside)) c.program-2.ensures.changes)

pub returns-in_err-program-clause-few : goal.returns-in_err-program-clause-few
returns-in_err-program-clause-few g c = omega (arith, c.erase_block.ensures.few, c.program.ensures.writes.writes)

pub returns-clause-few : goal.returns-clause-few
returns-clause-few g c = omega (arith, c.erase_block.ensures.few, c.program.ensures.writes.writes, c.program-2.ensures.writes.writes)
