use Rattle.std.proofs.Common.{◌≡◌, ◌+◌, refl, arith, rules, Err}
use Rattle.nor_core.proofs.Cuts.{reads_none}
use Rattle.flash_view.proofs.Looking.{looks_none}
use Rattle.flash_view.proofs.Stepped.{looked, look_faults, after_look, stepped_then, passes}
use Rattle.block_gc.specs.Partings.{parting_to}
use Rattle.block_gc.proofs.PartedPages.{part_stays}
use Rattle.block_gc.proofs.PartTurns.{found_index, looking, failing, turns_start, turns_begin, turns_part, look_stops, turn_goes, turns_end, idle_on}
use Rattle.block_gc.proofs.parting.part_mixed.Goals as goal

pub pages-init : goal.pages-init
pages-init g c =
    let view = c.args.v.now in
    record { most = omega arith; step = looked {step = parting_to 0} (looks_none view) (λ e. absurd (cc)) tt (λ tells can. turns_start _ _ can); idle = λ tells t. reads_none view.nor.now }

pub returns-in_err-page-clause-step : goal.returns-in_err-page-clause-step
returns-in_err-page-clause-step g c =
    let seen = c.in_err-page.ensures in
    stepped_then c.pages.invariant.step (look_faults {step = failing} seen.looks seen.cause c.from_residual.ensures.0 c.from_residual.ensures.1 (λ tells need. part_stays _ _ need.0))
    (λ tells can. turns_part _ c.pages.at _ can) (λ tells can so_far. look_stops _ c.pages.at _ _ can so_far)

pub part_page-requires-clause-page : goal.part_page-requires-clause-page
part_page-requires-clause-page g c = let inside = rw c.in-Some.is at c.in_ok-page.ensures.inside in rw c.in_ok-page.ensures.looks.same.geometry inside.1

pub part_page-requires-clause-index : goal.part_page-requires-clause-index
part_page-requires-clause-index g c = λ tells.
    let found = c.in_ok-page.ensures in
    let next = rw c.in-Some.is at (found.told (found.looks.reads.told_before tells)) in
    rw (found.looks.same.geometry, found.looks.reads.bytes) (found_index _ _ _ _ _ next)

pub returns-in_err-part_page-clause-step : goal.returns-in_err-part_page-clause-step
returns-in_err-part_page-clause-step g c =
    let was = c.pages.invariant in
    let found = c.in_ok-page.ensures in
    let is : c.from_residual-in_err-part_page.result ≡ Err c.in_err-part_page.field-0.0 = search rules in
    passes
    (stepped_then was.step (after_look found.looks c.in_err-part_page.ensures.step (λ tells can. record { needs = can; cut = λ d cut. cut; done = λ d ok done. done })) (λ tells can. turns_begin _ c.pages.at (c.in-Some.page + 1) _ can)
    (λ tells can so_far. turn_goes _ c.pages.at c.in-Some.page (c.in-Some.page + 1) _ _ _ refl can (rw (c.in-Some.is, was.step.framed.same.geometry) at (found.told (was.step.cuts.cuts.told tells))) so_far))
    is (λ tells can. turns_part _ (c.in-Some.page + 1) _ can)

pub pages-smaller : goal.pages-smaller
pages-smaller g c =
    let inside = rw (c.in-Some.is, c.pages.invariant.step.framed.same.geometry) at c.in_ok-page.ensures.inside in
    omega (arith, inside.0, inside.1.below, c.from-at.ensures)

pub pages-preserved : goal.pages-preserved
pages-preserved g c =
    let was = c.pages.invariant in
    let found = c.in_ok-page.ensures in
    let inside = rw (c.in-Some.is, was.step.framed.same.geometry) at found.inside in
    let same = was.step.framed.same.geometry in
    record {
      most = omega (arith, inside.1.below, c.from-at.ensures);
      step = stepped_then was.step (after_look found.looks c.in_ok-part_page.ensures.step (λ tells can. record { needs = can; cut = λ d cut. cut; done = λ d ok done. done })) (λ tells can. turns_begin _ c.pages.at (c.from-at.result + 1) _ can)
          (λ tells can so_far. turn_goes _ c.pages.at c.in-Some.page (c.from-at.result + 1) _ _ _ (omega (arith, c.from-at.ensures)) can (rw (c.in-Some.is, same) at (found.told (was.step.cuts.cuts.told tells))) so_far);
      idle = idle_on c.args.v.now c.pages.v c.part_page.new.v same was.idle (idle_on c.pages.v c.next_live.new.self c.part_page.new.v found.looks.same.geometry (λ tells t. found.looks.reads) c.in_ok-part_page.ensures.idle);
    }

pub returns-clause-step : goal.returns-clause-step
returns-clause-step g c =
    let was = c.pages.invariant in
    let found = c.in_ok-page.ensures in
    stepped_then was.step (looked {step = looking} found.looks (λ e. absurd (cc)) tt (λ tells need. (part_stays _ _ need.0, refl))) (λ tells can. turns_part _ c.pages.at _ can)
    (λ tells can so_far. turns_end _ c.pages.at _ _ can (rw (c.in_default.is, was.step.framed.same.geometry) at (found.told (was.step.cuts.cuts.told tells))) so_far)

pub returns-in_err-page-clause-idle : goal.returns-in_err-page-clause-idle
returns-in_err-page-clause-idle g c = let was = c.pages.invariant in idle_on c.args.v.now c.pages.v c.next_live.new.self was.step.framed.same.geometry was.idle (λ tells t. c.in_err-page.ensures.looks.reads)

pub returns-in_err-part_page-clause-idle : goal.returns-in_err-part_page-clause-idle
returns-in_err-part_page-clause-idle g c =
    let was = c.pages.invariant in
    let found = c.in_ok-page.ensures in
    idle_on c.args.v.now c.pages.v c.part_page.new.v was.step.framed.same.geometry was.idle (idle_on c.pages.v c.next_live.new.self c.part_page.new.v found.looks.same.geometry (λ tells t. found.looks.reads) c.in_err-part_page.ensures.idle)

pub returns-clause-idle : goal.returns-clause-idle
returns-clause-idle g c = let was = c.pages.invariant in idle_on c.args.v.now c.pages.v c.next_live.new.self was.step.framed.same.geometry was.idle (λ tells t. c.in_ok-page.ensures.looks.reads)
