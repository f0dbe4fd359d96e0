use Rattle.std.proofs.Common.{◌/◌, ◌<◌, ◌∙◌, refl, sym, arith}
use Rattle.nor_core.proofs.Cuts.{unchanged}
use Rattle.flash_view.proofs.Looking.{same_none, same_then}
use Rattle.flash_view.proofs.Stepped.{view_image}
use Rattle.page_put.proofs.Freshening.{erasing_none, none_erased, some_units}
use Rattle.page_put.proofs.Erasures.{erasing_then, front_then, front_all}
use Rattle.page_put.proofs.fresh.erase_block.Goals as goal

pub loop-i-init : goal.loop-i-init
loop-i-init g c =
    let view = c.args.v.now in
    record {
      units = rw (c.block.ensures, c.phys.ensures) refl;
      below = omega arith;
      same = same_none view;
      rows = refl;
      wrote = λ some. absurd (omega (arith, some));
      changes = unchanged _ _ (λ tells. erasing_none view.geometry c.args.block _ c.requires.block (view_image view (g.met.N.Nor.sized _) tells));
      done = λ tells. sym (none_erased view.geometry c.args.block _ c.requires.block (view_image view (g.met.N.Nor.sized _) tells));
      few = omega arith;
    }

pub returns-in_err-erase_unit-clause-changes : goal.returns-in_err-erase_unit-clause-changes
returns-in_err-erase_unit-clause-changes g c =
    let was = c.loop-i.invariant in
    erasing_then c.args.v.now.geometry c.loop-i.v.geometry c.args.block c.loop-i.i was.same.geometry (omega (arith, was.units, c.loop-i-test.true)) was.done was.changes c.erase_unit.ensures.changes

pub loop-i-preserved : goal.loop-i-preserved
loop-i-preserved g c =
    let was = c.loop-i.invariant in
    let view = c.args.v.now in
    let low : c.loop-i.i < view.geometry.block / view.geometry.phys = omega (arith, was.units, c.loop-i-test.true) in
    record {
      units = was.units;
      below = omega (arith, c.loop-i-test.true);
      same = same_then was.same c.in_ok-erase_unit.ensures.same;
      rows = c.in_ok-erase_unit.ensures.rows ∙ was.rows;
      wrote = λ some. c.in_ok-erase_unit.ensures.wrote;
      changes = erasing_then view.geometry c.loop-i.v.geometry c.args.block c.loop-i.i was.same.geometry low was.done was.changes c.in_ok-erase_unit.ensures.changes;
      done = λ tells. front_then view.geometry c.loop-i.v.geometry c.args.block c.loop-i.i was.same.geometry low _ _ _ c.requires.block (view_image view (g.met.N.Nor.sized _) tells) (was.done tells)
          (c.in_ok-erase_unit.ensures.done (was.changes.cuts.told tells));
      few = omega (arith, was.few, c.in_ok-erase_unit.ensures.few);
    }

pub returns-clause-done : goal.returns-clause-done
returns-clause-done g c = λ tells.
    let was = c.loop-i.invariant in
    front_all c.args.v.now.geometry c.args.block c.loop-i.i _ _ (omega (arith, was.units, was.below, c.loop-i-test.false)) (was.done tells)

pub returns-clause-wrote : goal.returns-clause-wrote
returns-clause-wrote g c =
    let was = c.loop-i.invariant in
    was.wrote (omega (arith, was.units, was.below, c.loop-i-test.false, some_units c.args.v.now.geometry))

pub returns-in_err-erase_unit-clause-few : goal.returns-in_err-erase_unit-clause-few
returns-in_err-erase_unit-clause-few g c = omega (arith, c.loop-i.invariant.few, c.erase_unit.ensures.few, c.loop-i.invariant.units, c.loop-i-test.true)

pub returns-clause-few : goal.returns-clause-few
returns-clause-few g c = omega (arith, c.loop-i.invariant.few, c.loop-i.invariant.units, c.loop-i.invariant.below)
