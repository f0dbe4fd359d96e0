use Rattle.std.proofs.Common.{sym, ◌∙◌, refl, arith}
use Rattle.std.specs.Prelude.{None}
use Rattle.geometry.specs.Numbers.{page_count}
use Rattle.image_model.specs.Live.{live_at}
use Rattle.flash_view.specs.Found.{headed}
use Rattle.flash_view.specs.Walk.{IsNextLive, NextLive}
use Rattle.flash_view.proofs.Least.{least_skip, least_more, least_all}
use Rattle.flash_view.proofs.Looking.{looks_none, looks_then}
use Rattle.flash_view.proofs.Passed.{passed_head, found_head}
use Rattle.flash_view.proofs.view.View.next_id.Goals as goal

pub pages-init : goal.pages-init
pages-init g c = record {
  looks = looks_none c.args.self.now;
  kept = refl;
  most = omega arith;
  told = λ tells. record { none = λ q id low is. absurd (omega arith) };
}

pub pages-smaller : goal.pages-smaller
pages-smaller g c =
    let inside = rw (c.in-Some.is, c.pages.invariant.looks.same.geometry) at c.in_ok-page.ensures.inside in
    omega (arith, inside.0, inside.1.below, c.from-at.ensures)

pub pages-preserved : goal.pages-preserved
pages-preserved g c =
    let was = c.pages.invariant in
    let found = c.in_ok-page.ensures in
    let inside = rw (c.in-Some.is, was.looks.same.geometry) at found.inside in
    record {
      looks = looks_then (looks_then was.looks found.looks) c.note_behind.ensures.looks;
      kept = rw (found.looks.same.geometry, was.looks.same.geometry, found.work) at (c.note_behind.ensures.kept) ∙ was.kept;
      most = omega (arith, inside.1.below, c.from-at.ensures);
      told = λ tells.
          let view = c.args.self.now in
          let image = g.N.NorState.bytes view.nor.now in
          let next : IsNextLive view.geometry image c.pages.at 0x8000 0xFFFE c.in-Some.page c.in-Some.head = rw (was.looks.same.geometry, was.looks.reads.bytes, c.in-Some.is) at (found.told (was.looks.reads.told tells)) in
          let to = least_skip (λ q. headed (live_at view.geometry image q)) c.args.after c.pages.at c.in-Some.page c.pages.least inside.0 (was.told tells) (λ q after before. passed_head view.geometry image q (next.passed q after before)) in
          let one = least_more (λ q. headed (live_at view.geometry image q)) c.args.after c.in-Some.page c.pages.least _ to (sym (found_head view.geometry image c.pages.at c.in-Some.page c.in-Some.head next)) in
          rw (c.lower-least.ensures, c.headed_id-found.ensures, c.from-at.ensures) one;
    }

pub returns-clause-told : goal.returns-clause-told
returns-clause-told g c = λ tells.
    let was = c.pages.invariant in
    let view = c.args.self.now in
    let image = g.N.NorState.bytes view.nor.now in
    let last : NextLive view.geometry image c.pages.at 0x8000 0xFFFE None = rw (was.looks.same.geometry, was.looks.reads.bytes, c.in_default.is) at (c.in_ok-page.ensures.told (was.looks.reads.told tells)) in
    least_all view.geometry image c.args.after (page_count view.geometry) c.pages.least refl
    (least_skip (λ q. headed (live_at view.geometry image q)) c.args.after c.pages.at (page_count view.geometry) c.pages.least was.most (was.told tells) (λ q after before. passed_head view.geometry image q (last q after before)))
