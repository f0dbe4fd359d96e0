use Rattle.std.proofs.Common.{◌≡◌, ◌+◌, ◌-◌, ◌/◌, refl, subst, arith}
use Rattle.flash_view.proofs.Looking.{looks_then}
use Rattle.flash_view.proofs.Telling.{looked, failed}
use Rattle.free_search.specs.Counted.{IsCountedTo}
use Rattle.free_search.proofs.Counting.{counted_start, counted_all}
use Rattle.free_search.proofs.Scanning.{part_below, part_after}
use Rattle.free_search.proofs.blocks.count_block.Goals as goal

pub parts-init : goal.parts-init
parts-init g c =
    let e = c.in_ok-erase_count.ensures in
    record {
      looks = looks_then e.looks c.in_ok-has.ensures.looks;
      most = omega arith;
      few = omega arith;
      told = λ tells. counted_start c.args.v.now.geometry (g.N.NorState.bytes c.args.v.now.nor.now) c.args.block _ refl refl refl refl (e.told tells);
    }

pub count_part-requires-clause-lookup : goal.count_part-requires-clause-lookup
count_part-requires-clause-lookup g c = rw (c.parts.invariant.looks.same.geometry, c.page-slots.ensures) (part_below c.args.v.now.geometry (g.N.NorState.bytes c.args.v.now.nor.now) c.parts.at (omega (arith, c.parts-test.true, c.entries.ensures.count)))

pub parts-preserved : goal.parts-preserved
parts-preserved g c =
    let was = c.parts.invariant in
    let e = c.in_ok-erase_count.ensures.looks in
    let m = c.in_ok-has.ensures in
    let p = c.in_ok-counts.ensures in
    let geometry = c.args.v.now.geometry in
    let image = g.N.NorState.bytes c.args.v.now.nor.now in
    let step : c.parts.at + (c.min-end.result - c.parts.at) ≡ c.min-end.result = omega (arith, part_after geometry image (c.page-slots.result / 2) c.parts.at (omega (arith, c.page-slots.ensures, geometry.valid.page_least)), c.min-end.ensures, c.min.ensures, c.entries-in-parts.ensures.count, c.entries.ensures.count, c.parts-test.true) in
    record {
      looks = looks_then was.looks p.looks.only;
      most = omega (arith, c.min-end.ensures, c.min.ensures, c.entries-in-parts.ensures.count);
      few = omega (arith, p.total, step);
      told = λ tells.
          let magic = rw (e.same.geometry, e.reads.bytes) at (m.told (e.reads.told tells)) in
          let part = (rw (was.looks.same.geometry, was.looks.reads.bytes) at (p.looks.told (was.looks.reads.told tells))) magic (was.told tells) in
          subst (λ n. IsCountedTo geometry image c.args.block n c.in_ok-counts.counts) step part;
    }

pub returns : goal.returns
returns g c = record {
  looks = looked c.parts.invariant.looks (λ tells.
      counted_all c.args.v.now.geometry (g.N.NorState.bytes c.args.v.now.nor.now) c.args.block c.parts.at c.parts.counts (omega (arith, c.parts-test.false, c.entries.ensures.count)) c.parts.invariant.most (c.parts.invariant.told tells));
}

pub returns-in_err-counts : goal.returns-in_err-counts
returns-in_err-counts g c =
    let part = c.in_err-counts.ensures.looks in
    record { looks = failed c.parts.invariant.looks part.only part.cause c.from_residual-in_err-counts.ensures.0 }
