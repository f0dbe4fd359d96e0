use Rattle.std.proofs.Common.{inl, arith}
use Rattle.nor_core.proofs.Cuts.{wider}
use Rattle.flash_view.proofs.Stepped.{view_image}
use Rattle.page_put.proofs.Freshening.{cut_freshens}
use Rattle.page_put.proofs.Erasures.{marks_then, marked_then, fresh_done}
use Rattle.page_put.proofs.fresh.program_fresh.Goals as goal

pub returns-clause-order : goal.returns-clause-order
returns-clause-order g c =
    let erased = c.in_ok-erase_block.ensures in
    marks_then c.args.v.now.geometry c.erase_block.new.v.geometry c.args.block c.args.count erased.same.geometry erased.done erased.changes c.mark_block.ensures.changes

pub returns-clause-changes : goal.returns-clause-changes
returns-clause-changes g c =
    let view = c.args.v.now in
    let erased = c.in_ok-erase_block.ensures in
    wider (marks_then view.geometry c.erase_block.new.v.geometry c.args.block c.args.count erased.same.geometry erased.done erased.changes c.mark_block.ensures.changes)
    (λ tells image cut. cut_freshens view.geometry c.args.block c.args.count (g.N.NorState.bytes view.nor.now) image c.requires.block c.requires.count (view_image view (g.met.N.Nor.sized _) tells) cut)

pub returns-clause-bytes : goal.returns-clause-bytes
returns-clause-bytes g c = λ tells.
    let erased = c.in_ok-erase_block.ensures in
    marked_then c.args.v.now.geometry c.erase_block.new.v.geometry c.args.block c.args.count erased.same.geometry c.mark_block.result _ _ _ (erased.done tells) (c.mark_block.ensures.done (erased.changes.cuts.told tells))

pub returns-clause-done : goal.returns-clause-done
returns-clause-done g c = λ tells.
    let view = c.args.v.now in
    let erased = c.in_ok-erase_block.ensures in
    fresh_done view.geometry c.args.block c.args.count c.mark_block.result (g.N.NorState.bytes view.nor.now) (g.N.NorState.bytes c.mark_block.new.v.nor.now) c.requires.block c.requires.count (view_image view (g.met.N.Nor.sized _) tells)
    (marked_then view.geometry c.erase_block.new.v.geometry c.args.block c.args.count erased.same.geometry c.mark_block.result _ _ _ (erased.done tells) (c.mark_block.ensures.done (erased.changes.cuts.told tells)))

pub returns-in_err-erase_block-clause-order : goal.returns-in_err-erase_block-clause-order
returns-in_err-erase_block-clause-order g c = wider c.in_err-erase_block.ensures.changes (λ tells image erasing. inl erasing)

pub returns-in_err-erase_block-clause-changes : goal.returns-in_err-erase_block-clause-changes
returns-in_err-erase_block-clause-changes g c =
    let view = c.args.v.now in
    wider c.erase_block.ensures.changes
    (λ tells image erasing. cut_freshens view.geometry c.args.block c.args.count (g.N.NorState.bytes view.nor.now) image c.requires.block c.requires.count (view_image view (g.met.N.Nor.sized _) tells) (inl erasing))

pub returns-in_err-erase_block-clause-few : goal.returns-in_err-erase_block-clause-few
returns-in_err-erase_block-clause-few g c = omega (arith, c.erase_block.ensures.few)

pub returns-clause-few : goal.returns-clause-few
returns-clause-few g c = omega (arith, c.erase_block.ensures.few, c.mark_block.ensures.few)
