use Rattle.std.proofs.Common.{arith}
use Rattle.flash_view.proofs.Heads.{entry_page_told}
use Rattle.flash_view.proofs.Stepped.{looked, look_faults, after_look, fault_passes, done_as, view_image}
use Rattle.room_laws.proofs.Sorted.{tidy_tells_free}
use Rattle.block_gc.proofs.IndexOut.{turn_stays, index_found, index_moves, block_low}
use Rattle.block_gc.proofs.emptying.move_index_out.Goals as goal

pub returns-in_err-to-clause-step : goal.returns-in_err-to-clause-step
returns-in_err-to-clause-step g c = let seen = c.in_err-to.ensures in look_faults seen.looks.only seen.looks.cause c.from_residual.ensures.0 c.from_residual.ensures.1 (λ tells need. turn_stays _ _ _ _ (view_image c.args.v.now (g.met.N.Nor.sized _) tells) need.can)

pub returns-in_default-clause-step : goal.returns-in_default-clause-step
returns-in_default-clause-step g c =
    let seen = c.in_ok-to.ensures in
    let geometry = c.args.v.now.geometry in
    let page = entry_page_told geometry c.args.page c.requires.page in
    looked seen.looks.only (λ e. absurd (cc)) c.no_place.ensures (λ tells need.
    let image = view_image c.args.v.now (g.met.N.Nor.sized _) tells in (
      turn_stays _ _ _ _ image need.can,
      absurd (index_found geometry _ c.args.block image need.can (block_low geometry c.args.block c.args.page page c.requires.at) c.args.page page c.requires.at need.index (rw c.in_default.is at (seen.looks.told tells (tidy_tells_free _ _ need.can.tidy)))),
    ))

pub returns-in_err-move_index-clause-step : goal.returns-in_err-move_index-clause-step
returns-in_err-move_index-clause-step g c =
    let seen = c.in_ok-to.ensures in
    let page = entry_page_told c.args.v.now.geometry c.args.page c.requires.page in
    fault_passes (after_look seen.looks.only c.in_err-move_index.ensures.step
    (λ tells need. index_moves _ _ _ (view_image c.args.v.now (g.met.N.Nor.sized _) tells) need.can (block_low _ c.args.block c.args.page page c.requires.at) _ page c.requires.at need.index _ (rw c.in-Some.is at (seen.looks.told tells (tidy_tells_free _ _ need.can.tidy)))))
    c.from_residual-in_err-move_index.ensures.0 c.from_residual-in_err-move_index.ensures.1

pub returns-clause-step : goal.returns-clause-step
returns-clause-step g c =
    let seen = c.in_ok-to.ensures in
    let page = entry_page_told c.args.v.now.geometry c.args.page c.requires.page in
    done_as (after_look seen.looks.only c.in_ok-move_index.ensures.step
    (λ tells need. index_moves _ _ _ (view_image c.args.v.now (g.met.N.Nor.sized _) tells) need.can (block_low _ c.args.block c.args.page page c.requires.at) _ page c.requires.at need.index _ (rw c.in-Some.is at (seen.looks.told tells (tidy_tells_free _ _ need.can.tidy)))))

pub returns-in_err-to-clause-few : goal.returns-in_err-to-clause-few
returns-in_err-to-clause-few g c = omega (arith, c.in_err-to.ensures.looks.only.reads.writes)

pub returns-in_default-clause-few : goal.returns-in_default-clause-few
returns-in_default-clause-few g c = omega (arith, c.in_ok-to.ensures.looks.only.reads.writes)

pub returns-in_err-move_index-clause-few : goal.returns-in_err-move_index-clause-few
returns-in_err-move_index-clause-few g c = omega (arith, c.in_ok-to.ensures.looks.only.reads.writes, c.in_err-move_index.ensures.few)

pub returns-clause-few : goal.returns-clause-few
returns-clause-few g c = omega (arith, c.in_ok-to.ensures.looks.only.reads.writes, c.in_ok-move_index.ensures.few)
