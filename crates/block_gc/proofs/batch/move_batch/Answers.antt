use Rattle.flash_view.proofs.Stepped.{looked, look_faults, after_look, view_image}
use Rattle.std.proofs.lemmas.Result.{IfOk-from_err}
use Rattle.block_gc.proofs.BatchEnds.{batch_found, found_is}
use Rattle.block_gc.proofs.IndexOut.{turn_stays}
use Rattle.block_gc.proofs.batch.move_batch.Goals as goal

pub returns-in_err-index-clause-step : goal.returns-in_err-index-clause-step
returns-in_err-index-clause-step g c = let seen = c.in_err-index.ensures in look_faults seen.looks seen.cause c.from_residual.ensures.0 c.from_residual.ensures.1 (λ tells need. turn_stays _ _ _ _ (view_image c.args.v.now (g.met.N.Nor.sized _) tells) need.can)

pub returns-in_default-clause-step : goal.returns-in_default-clause-step
returns-in_default-clause-step g c =
    let seen = c.in_ok-index.ensures in
    looked seen.looks (λ e. absurd (cc)) tt (λ tells need.
    (turn_stays _ _ _ _ (view_image c.args.v.now (g.met.N.Nor.sized _) tells) need.can, absurd (rw c.in_default.is at (seen.told tells need.can.tidy need.is_data))))

pub returns-clause-step : goal.returns-clause-step
returns-clause-step g c =
    let a = c.args in
    let seen = c.in_ok-index.ensures in
    after_look seen.looks (c.move_from.ensures.step c.in-Some.tag.span)
    (λ tells need. batch_found _ _ a.block a.most a.page c.in-Some.index c.index_span.result c.in-Some.tag (view_image a.v.now (g.met.N.Nor.sized _) tells) c.requires.at c.requires.most need
    (found_is _ _ _ _ _ _ c.in-Some.is (seen.told tells need.can.tidy need.is_data)) (rw seen.looks.same.geometry at c.index_span.ensures))

pub returns-in_err-index-clause-few : goal.returns-in_err-index-clause-few
returns-in_err-index-clause-few g c = λ tells can none. IfOk-from_err _ _ c.from_residual.ensures.0

pub returns-in_default-clause-few : goal.returns-in_default-clause-few
returns-in_default-clause-few g c = λ tells can none. absurd (rw c.in_default.is at (c.in_ok-index.ensures.told tells can.can.tidy can.is_data))

pub returns-clause-few : goal.returns-clause-few
returns-clause-few g c = λ tells can none.
    let a = c.args in
    let seen = c.in_ok-index.ensures in
    let found = batch_found _ _ a.block a.most a.page c.in-Some.index c.index_span.result c.in-Some.tag (view_image a.v.now (g.met.N.Nor.sized _) tells) c.requires.at c.requires.most can
    (found_is _ _ _ _ _ _ c.in-Some.is (seen.told tells can.can.tidy can.is_data)) (rw seen.looks.same.geometry at c.index_span.ensures) in
    let few = rw (seen.looks.same.geometry, seen.looks.reads.bytes, seen.looks.reads.writes) at (c.move_from.ensures.few c.in-Some.tag.span (seen.looks.reads.told tells)) in few found.needs none
