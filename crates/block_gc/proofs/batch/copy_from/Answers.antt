use Rattle.std.proofs.Common.{◌≡◌, true, refl, sym, ◌∙◌, arith}
use Rattle.std.specs.Prelude.{None}
use Rattle.flash_view.specs.Walk.{IsNextLive, NextLive}
use Rattle.flash_view.proofs.Looking.{looks_none, looks_then}
use Rattle.block_gc.proofs.BatchFinds.{none_on, none_left, copy_found}
use Rattle.block_gc.proofs.batch.copy_from.Goals as goal

pub pages-init : goal.pages-init
pages-init g c = record { low = omega arith; looks = looks_none c.args.v.now; work = refl; told = λ tells p from to copy. absurd (omega (arith, from, to)) }

pub returns-clause-told : goal.returns-clause-told
returns-clause-told g c = λ tells.
    let was = c.pages.invariant in
    let view = c.args.v.now in
    let image = g.N.NorState.bytes view.nor.now in
    let last : NextLive view.geometry image c.pages.at c.args.id c.args.id None = rw (was.looks.same.geometry, was.looks.reads.bytes, c.in_default.is) at (c.in_ok-page.ensures.told (was.looks.reads.told tells)) in
    none_left view.geometry image c.args.id c.args.span c.args.block c.args.from c.pages.at last (was.told tells)

pub is_copy-requires : goal.is_copy-requires
is_copy-requires g c =
    let inside = rw c.in-Some.is at c.in_ok-page.ensures.inside in
    rw c.in_ok-page.ensures.looks.same.geometry inside.1.below

pub returns-then-is_copy-clause-told : goal.returns-then-is_copy-clause-told
returns-then-is_copy-clause-told g c = λ tells.
    let was = c.pages.invariant in
    let found = c.in_ok-page.ensures in
    let view = c.args.v.now in
    let image = g.N.NorState.bytes view.nor.now in
    let next : IsNextLive view.geometry image c.pages.at c.args.id c.args.id c.in-Some.page c.in-Some.head = rw (was.looks.same.geometry, was.looks.reads.bytes, c.in-Some.is) at (found.told (was.looks.reads.told tells)) in
    let inside = rw c.in-Some.is at found.inside in
    (omega (arith, was.low, inside.0), copy_found view.geometry image c.args.id c.args.span c.args.block c.pages.at c.in-Some.page c.in-Some.head c.requires.id next (rw (found.looks.same.geometry, was.looks.same.geometry) at (sym c.is_copy.ensures ∙ c.if-is_copy.true)))

pub pages-smaller : goal.pages-smaller
pages-smaller g c =
    let inside = rw (c.in-Some.is, c.pages.invariant.looks.same.geometry) at c.in_ok-page.ensures.inside in
    omega (arith, inside.0, inside.1.below, c.from-at.ensures)

pub pages-preserved : goal.pages-preserved
pages-preserved g c =
    let was = c.pages.invariant in
    let found = c.in_ok-page.ensures in
    record {
      low = let inside = rw c.in-Some.is at found.inside in omega (arith, was.low, inside.0, c.from-at.ensures);
      looks = looks_then was.looks found.looks;
      work = found.work ∙ was.work;
      told = λ tells.
          let view = c.args.v.now in
          let image = g.N.NorState.bytes view.nor.now in
          let next : IsNextLive view.geometry image c.pages.at c.args.id c.args.id c.in-Some.page c.in-Some.head = rw (was.looks.same.geometry, was.looks.reads.bytes, c.in-Some.is) at (found.told (was.looks.reads.told tells)) in
          rw c.from-at.ensures (none_on view.geometry image c.args.id c.args.span c.args.block c.args.from c.pages.at c.in-Some.page c.in-Some.head next (rw (found.looks.same.geometry, was.looks.same.geometry) at (sym c.is_copy.ensures ∙ c.if-is_copy.false)) (was.told tells));
    }
