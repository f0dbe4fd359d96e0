use Rattle.std.proofs.Common.{◌≡◌, [], refl, sym, subst, arith, List, take, ℕ, length}
use Rattle.flash_view.proofs.Looking.{looks_none, looks_then}
use Rattle.block_gc.specs.Batches.{Carried, AreNamed}
use Rattle.block_gc.proofs.BatchFinds.{names_begin, names_end}
use Rattle.block_gc.proofs.BatchRuns.{in_block}
use Rattle.block_gc.proofs.batch.name_all.Goals as goal

pub loop-page-init : goal.loop-page-init
loop-page-init g c = record {
  from = omega arith;
  end = refl;
  looks = looks_none c.args.v.now;
  told = λ tells was most cs has. names_begin _ was _ c.args.block most c.args.batch c.args.first c.args.run cs has _;
}

pub name_turn-requires-clause-page : goal.name_turn-requires-clause-page
name_turn-requires-clause-page g c =
    let so_far = c.loop-page.invariant in
    let here = in_block c.args.v.now.geometry c.args.block c.args.first c.loop-page.page c.requires.first c.requires.at so_far.from (omega (arith, so_far.end, c.loop-page-test.true, c.requires.end)) in
    rw so_far.looks.same.geometry here.0.below

pub loop-page-preserved : goal.loop-page-preserved
loop-page-preserved g c =
    let so_far = c.loop-page.invariant in
    let a = c.args in
    let here = in_block a.v.now.geometry a.block a.first c.loop-page.page c.requires.first c.requires.at so_far.from (omega (arith, so_far.end, c.loop-page-test.true, c.requires.end)) in
    record {
      from = omega (arith, so_far.from);
      end = so_far.end;
      looks = looks_then so_far.looks c.in_ok-near.ensures.looks;
      told = λ tells was most cs has.
          let turn = rw (so_far.looks.same.geometry, so_far.looks.reads.bytes) at (c.in_ok-near.ensures.told (so_far.looks.reads.told tells)) in
          turn was (take a.v.now.geometry.page a.v.now.work.now) most a.first a.run cs has (record { at = here.1; from = so_far.from; before = omega (arith, so_far.end, c.loop-page-test.true) }) (so_far.told tells was most cs has);
    }

pub returns-clause-told : goal.returns-clause-told
returns-clause-told g c = λ tells was most cs has.
    let so_far = c.loop-page.invariant in
    names_end _ was _ c.args.block most c.args.batch c.args.first c.args.run cs has c.loop-page.page _ _ (omega (arith, so_far.end, c.loop-page-test.false)) (so_far.told tells was most cs has)
