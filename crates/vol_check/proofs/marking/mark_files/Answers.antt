use Rattle.std.proofs.Common.{None, arith}
use Rattle.flash_view.specs.Walk.{IsNextLive, NextLive}
use Rattle.flash_view.proofs.Looking.{looks_none, looks_then}
use Rattle.flash_view.proofs.Passed.{passed_head}
use Rattle.vol_check.proofs.MarkSteps.{first_next, first_skip, adds_none, headless_none}
use Rattle.vol_check.proofs.WantedPages.{listed_still}
use Rattle.vol_check.proofs.Walks.{found_index}
use Rattle.vol_check.proofs.marking.mark_files.Goals as goal

pub pages-init : goal.pages-init
pages-init g c = record { most = omega arith; looks = looks_none c.args.v.now; told = λ tells listed. adds_none _ (λ p of. absurd (omega (arith, of.below))) }

pub mark_headed-requires-clause-page : goal.mark_headed-requires-clause-page
mark_headed-requires-clause-page g c =
    let was = c.pages.invariant in
    let inside = rw (c.in-Some.is, was.looks.same.geometry) at c.in_ok-page.ensures.inside in
    rw (c.in_ok-page.ensures.looks.same.geometry, was.looks.same.geometry) inside.1.below

pub pages-smaller : goal.pages-smaller
pages-smaller g c =
    let inside = rw (c.in-Some.is, c.pages.invariant.looks.same.geometry) at c.in_ok-page.ensures.inside in
    omega (arith, inside.0, inside.1.below, c.from-at.ensures)

pub pages-preserved : goal.pages-preserved
pages-preserved g c =
    let was = c.pages.invariant in
    let found = c.in_ok-page.ensures in
    let inside = rw (c.in-Some.is, was.looks.same.geometry) at found.inside in
    let turn = c.in_ok-mark_headed.ensures in
    let looked = looks_then was.looks found.looks in
    record {
      most = omega (arith, inside.1.below, c.from-at.ensures);
      looks = looks_then looked turn.looks;
      told = λ tells listed.
          let geo = c.args.v.now.geometry in
          let image = g.N.NorState.bytes c.args.v.now.nor.now in
          let next : IsNextLive geo image c.pages.at 0x8000 0xFFFE c.in-Some.page c.in-Some.head = rw (was.looks.same.geometry, was.looks.reads.bytes, c.in-Some.is) at (found.told (was.looks.reads.told tells)) in
          let turned = rw (looked.same.geometry, looked.reads.bytes) at (turn.told (looked.reads.told tells)) in
          let to = first_skip (was.told tells listed) inside.0 (λ q p after before of. headless_none geo image q p (passed_head geo image q (next.passed q after before)) of) in
          rw c.from-at.ensures (first_next to (turned (listed_still geo image _ _ _ _ c.requires.least listed (was.told tells listed) c.in-Some.page inside.1.below) (found_index geo image c.pages.at c.in-Some.page c.in-Some.head next)));
    }

pub returns-clause-told : goal.returns-clause-told
returns-clause-told g c = λ tells listed.
    let was = c.pages.invariant in
    let geo = c.args.v.now.geometry in
    let image = g.N.NorState.bytes c.args.v.now.nor.now in
    let last : NextLive geo image c.pages.at 0x8000 0xFFFE None = rw (was.looks.same.geometry, was.looks.reads.bytes, c.in_default.is) at (c.in_ok-page.ensures.told (was.looks.reads.told tells)) in
    first_skip (was.told tells listed) was.most (λ q p after before of. headless_none geo image q p (passed_head geo image q (last q after before)) of)
