use Rattle.std.proofs.Common.{arith}
use Rattle.std.proofs.lemmas.Result.{IfOk-from_err}
use Rattle.flash_view.proofs.Stepped.{looked, look_faults, after_look, view_image}
use Rattle.block_gc.proofs.IndexOut.{turn_stays, block_low}
use Rattle.block_gc.proofs.EntryTurns.{turn_passes, index_turn, batch_turn}
use Rattle.flash_view.specs.Steps.{Stepped, stopped}
use Rattle.flash_view.proofs.Heads.{entry_page_told}
use Rattle.block_gc.specs.Programs.{SixEach}
use Rattle.block_gc.proofs.Programs.{if_ok, falling, index_falls}
use Rattle.block_gc.proofs.emptying.empty_entry.Goals as goal

pub returns-in_err-live_kind-clause-step : goal.returns-in_err-live_kind-clause-step
returns-in_err-live_kind-clause-step g c = let seen = c.in_err-live_kind.ensures in look_faults seen.looks seen.cause c.from_residual.ensures.0 c.from_residual.ensures.1 (λ tells can. turn_stays _ _ _ _ (view_image c.args.v.now (g.met.N.Nor.sized _) tells) can)

pub returns-in-None-clause-step : goal.returns-in-None-clause-step
returns-in-None-clause-step g c =
    let seen = c.in_ok-live_kind.ensures in
    looked seen.looks (λ e. absurd (cc)) tt (λ tells can.
    let image = view_image c.args.v.now (g.met.N.Nor.sized _) tells in
    (turn_stays _ _ _ _ image can, turn_passes _ _ _ c.args.most _ image (rw c.in-None.is at (seen.told tells)) can))

pub returns-in-Some-Index-clause-step : goal.returns-in-Some-Index-clause-step
returns-in-Some-Index-clause-step g c =
    let seen = c.in_ok-live_kind.ensures in
    after_look seen.looks c.move_index_out.ensures.step (λ tells can. index_turn _ _ _ _ _ c.requires.most (rw (c.in-Some-Index.is, c.in-Some-Index.field-0-is) at (seen.told tells)) can)

pub returns-in-Some-Data-clause-step : goal.returns-in-Some-Data-clause-step
returns-in-Some-Data-clause-step g c =
    let seen = c.in_ok-live_kind.ensures in
    after_look seen.looks c.move_batch.ensures.step (λ tells can. batch_turn _ _ _ _ _ (rw (c.in-Some-Data.is, c.in-Some-Data.field-0-is) at (seen.told tells)) can)

pub returns-in_err-live_kind-clause-few : goal.returns-in_err-live_kind-clause-few
returns-in_err-live_kind-clause-few g c = λ tells can none. IfOk-from_err _ _ c.from_residual.ensures.0

pub returns-in-None-clause-few : goal.returns-in-None-clause-few
returns-in-None-clause-few g c = λ tells can none. let looks = c.in_ok-live_kind.ensures.looks in rw (looks.reads.bytes, looks.reads.writes) (omega arith)

pub returns-in-Some-Index-clause-few : goal.returns-in-Some-Index-clause-few
returns-in-Some-Index-clause-few g c = λ tells can none.
    let a = c.args in
    let geometry = a.v.now.geometry in
    let seen = c.in_ok-live_kind.ensures in
    let index = rw (c.in-Some-Index.is, c.in-Some-Index.field-0-is) at (seen.told tells) in
    let low = block_low geometry a.block a.page (entry_page_told geometry a.page c.requires.page) c.requires.at in
    let falls : Stepped stopped a.v.now c.move_index_out.new.v c.move_index_out.result (falling a.block a.most a.page) = after_look seen.looks c.move_index_out.ensures.step (λ tells need. index_falls _ _ a.block a.most a.page need) in
    if_ok c.move_index_out.result stopped.fault _
    (SixEach geometry a.block a.most (g.N.NorState.bytes a.v.now.nor.now) (g.N.NorState.bytes c.move_index_out.new.v.nor.now) (g.N.NorState.device_writes a.v.now.nor.now) (g.N.NorState.device_writes c.move_index_out.new.v.nor.now))
    (falls.ends tells (low, can, c.requires.at, index)) (λ less. omega (arith, less, seen.looks.reads.writes, c.move_index_out.ensures.few))

pub returns-in-Some-Data-clause-few : goal.returns-in-Some-Data-clause-few
returns-in-Some-Data-clause-few g c = λ tells can none.
    let seen = c.in_ok-live_kind.ensures in
    let is_data = rw (c.in-Some-Data.is, c.in-Some-Data.field-0-is) at (seen.told tells) in
    let few = rw (seen.looks.same.geometry, seen.looks.reads.bytes, seen.looks.reads.writes) at (c.move_batch.ensures.few (seen.looks.reads.told tells)) in
    few (record { can = can; is_data = is_data }) none
