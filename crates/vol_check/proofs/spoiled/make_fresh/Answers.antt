use Rattle.std.proofs.Common.{sym, ◌∙◌}
use Rattle.flash_view.proofs.Looking.{looks_then}
use Rattle.flash_view.proofs.Stepped.{view_image}
use Rattle.vol_check.proofs.Freshening.{found_spoiled, none_spoiled, made_none, next_told, freshens_block, must_be_made}
use Rattle.vol_check.proofs.Working.{look_works, look_stops, works_on, works_as, stops}
use Rattle.vol_check.proofs.spoiled.make_fresh.Goals as goal

pub returns-in_err-block : goal.returns-in_err-block
returns-in_err-block g c = look_stops c.in_err-block.ensures.looks c.in_err-block.ensures.cause c.from_residual.ensures.0

pub returns-in_default : goal.returns-in_default
returns-in_default g c =
    let looked = c.in_ok-block.ensures in
    look_works looked.looks (λ tells magics need. made_none _ _ (none_spoiled _ _ (sym (looked.told tells) ∙ c.in_default.is)))

pub returns-in_err-count : goal.returns-in_err-count
returns-in_err-count g c = works_on c.in_ok-block.ensures.looks (look_stops c.in_err-count.ensures.looks.only c.in_err-count.ensures.looks.cause c.from_residual-in_err-count.ensures.0)

pub returns-in_err-fresh_block : goal.returns-in_err-fresh_block
returns-in_err-fresh_block g c =
    let looked = c.in_ok-block.ensures in
    let fresh = c.in_err-fresh_block.ensures in
    stops (freshens_block c.in_ok-count.count (looks_then looked.looks c.in_ok-count.ensures.looks.only) fresh.same fresh.wrote fresh.cause fresh.changes fresh.done fresh.counted (view_image c.args.v.now (g.met.N.Nor.sized _)) (next_told c.in_ok-count.count looked.looks c.in_ok-count.ensures.looks.told)) c.from_residual-in_err-fresh_block.ensures.0
    (λ tells magics need. must_be_made _ _ _ (found_spoiled _ _ _ (sym (looked.told tells) ∙ c.in-Some.is)))

pub returns : goal.returns
returns g c =
    let looked = c.in_ok-block.ensures in
    let fresh = c.in_ok-fresh_block.ensures in
    works_as (freshens_block c.in_ok-count.count (looks_then looked.looks c.in_ok-count.ensures.looks.only) fresh.same fresh.wrote fresh.cause fresh.changes fresh.done fresh.counted (view_image c.args.v.now (g.met.N.Nor.sized _)) (next_told c.in_ok-count.count looked.looks c.in_ok-count.ensures.looks.told))
    (λ tells magics need. must_be_made _ _ _ (found_spoiled _ _ _ (sym (looked.told tells) ∙ c.in-Some.is))) (λ tells magics need kept done. done)
