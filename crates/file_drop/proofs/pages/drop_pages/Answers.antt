use Rattle.std.proofs.Common.{◌≡◌, ℕ, ◌+◌, ◌*◌, ◌%◌, ◌==◌, ◌&&◌, ◌≤◌, Result, Some, None, false, refl, ◌∙◌, arith}
use Rattle.nor_core.specs.declared.device.Failed.{Failed}
use Rattle.flash_view.specs.Steps.{Stepped, failed}
use Rattle.flash_view.specs.Walk.{NextLive}
use Rattle.flash_view.proofs.Looking.{looks_none}
use Rattle.flash_view.proofs.Passed.{found_some}
use Rattle.flash_view.proofs.Stepped.{looked, look_fails, after_look, fails, stepped_then}
use Rattle.file_drop.specs.Drops.{HasLeft, is_past_header, dropping}
use Rattle.file_drop.proofs.Programs.{TwoEach, two_start, two_end, two_turn, entries_before, entry_met, entries_all}
use Rattle.file_drop.proofs.Passing.{Dropping, none_yet, passes_others, turns, all_passed, staying, faulty, fails_later, dropping_to}
use Rattle.file_drop.proofs.Seeing.{passed_not_left, left_by_header}
use Rattle.file_drop.proofs.pages.drop_pages.Given.{Over}
use Rattle.file_drop.proofs.pages.drop_pages.Goals as goal
use Rattle.file_drop.proofs.pages.drop_pages.Goals.{In-Some}

pub pages-init : goal.pages-init
pages-init g c = record {
  most = omega arith;
  few = λ tells o. two_start _ _ c.args.id c.args.kept _;
  entries = omega arith;
  step = looked (looks_none c.args.v.now) (λ e. absurd (cc)) tt (λ tells o. none_yet _ _ _ _ o);
}

pub returns-in_err-page-clause-step : goal.returns-in_err-page-clause-step
returns-in_err-page-clause-step g c =
    let seen = c.in_err-page.ensures in
    stepped_then {last = faulty} c.pages.invariant.step (look_fails seen.looks seen.cause c.from_residual.ensures.0 (λ tells o. refl)) (λ tells o. record { needs = o; cut = λ d kept. kept }) (λ tells o s. fails_later _ _ _ _ _ _ s)

pub drop_page-requires : goal.drop_page-requires
drop_page-requires g c = let inside = rw c.in-Some.is at c.in_ok-page.ensures.inside in rw c.in_ok-page.ensures.looks.same.geometry inside.1

-- the turn of the page that was found, after the pages before it
turn : (g : Over) (c : In-Some g) (r : Result (Unit {0}) Failed) (new : _) → Stepped failed c.next_live.new.self new r (dropping c.args.id c.args.kept c.in-Some.page c.in-Some.head) → Stepped failed c.args.v.now new r (dropping_to c.args.id c.args.kept (c.in-Some.page + 1))
turn g c r new drops =
    let was = c.pages.invariant in
    let found = c.in_ok-page.ensures in
    let geometry = c.args.v.now.geometry in
    let image = g.N.NorState.bytes c.pages.v.nor.now in
    stepped_then was.step (after_look found.looks drops (λ tells o. record { needs = o; cut = λ d k. k; done = λ d ok k. k })) (λ tells o. record { needs = o; cut = λ d kept. kept })
    (λ tells o s.
    let high = c.saturating_add-high.result in
    let next : NextLive geometry image c.pages.at c.args.id high (Some (c.in-Some.page, c.in-Some.head)) = rw (was.step.framed.same.geometry, c.in-Some.is) at (found.told (was.step.cuts.cuts.told tells)) in
    turns geometry _ image c.args.id c.args.kept c.in-Some.page c.in-Some.head (found_some geometry image c.pages.at c.args.id high c.in-Some.page c.in-Some.head next)
    (passes_others geometry _ image c.args.id c.args.kept c.pages.at c.in-Some.page (λ q from to. passed_not_left geometry image c.args.id high c.args.kept q c.saturating_add-high.ensures (next.passed q from to)) s))

-- what it took
spent : (g : Over) (c : In-Some g) (after : ℕ) → after ≤ g.N.NorState.device_writes c.next_live.new.self.nor.now + 2 →
    (((c.in-Some.head.id % 0x8000 == c.args.id) && is_past_header c.args.kept c.in-Some.head) ≡ false → after ≤ g.N.NorState.device_writes c.next_live.new.self.nor.now) →
    g.N.NorState.tells c.args.v.now.nor.now → HasLeft c.args.v.now.geometry c.args.id c.args.kept (g.N.NorState.bytes c.args.v.now.nor.now) →
    TwoEach c.args.v.now.geometry (g.N.NorState.bytes c.args.v.now.nor.now) c.args.id c.args.kept (c.in-Some.page + 1) (g.N.NorState.device_writes c.args.v.now.nor.now) after
spent g c after few spares tells o =
    let was = c.pages.invariant in
    let found = c.in_ok-page.ensures in
    let geometry = c.args.v.now.geometry in
    let image = g.N.NorState.bytes c.pages.v.nor.now in
    let high = c.saturating_add-high.result in
    let next : NextLive geometry image c.pages.at c.args.id high (Some (c.in-Some.page, c.in-Some.head)) = rw (was.step.framed.same.geometry, c.in-Some.is) at (found.told (was.step.cuts.cuts.told tells)) in
    let mine = left_by_header geometry image c.args.id c.args.kept c.in-Some.page c.in-Some.head (found_some geometry image c.pages.at c.args.id high c.in-Some.page c.in-Some.head next) in
    let done : Dropping geometry (g.N.NorState.bytes c.args.v.now.nor.now) image c.args.id c.args.kept c.pages.at = was.step.ends tells o in
    let inside = rw (c.in-Some.is, was.step.framed.same.geometry) at found.inside in
    two_turn geometry _ image c.args.id c.args.kept c.pages.at c.in-Some.page _ _ after inside.0 inside.1.below (done.others c.in-Some.page) (was.few tells o) (omega (arith, few, found.looks.reads.writes))
    (λ no. let same = spares (mine ∙ no) in omega (arith, same, found.looks.reads.writes))

entered : (g : Over) (c : In-Some g) (after : ℕ) → after ≤ g.N.NorState.device_writes c.next_live.new.self.nor.now + 2 → after ≤ g.N.NorState.device_writes c.args.v.now.nor.now + 2 * entries_before c.args.v.now.geometry (c.in-Some.page + 1)
entered g c after few =
    let was = c.pages.invariant in
    let found = c.in_ok-page.ensures in
    let inside = rw (c.in-Some.is, was.step.framed.same.geometry) at found.inside in
    omega (arith, few, found.looks.reads.writes, was.entries, entry_met c.args.v.now.geometry c.pages.at c.in-Some.page inside.0 inside.1)

pub returns-in_err-drop_page-clause-step : goal.returns-in_err-drop_page-clause-step
returns-in_err-drop_page-clause-step g c =
    fails (turn g (goal.at.returns-in_err-drop_page-clause-step g c).In-Some _ _ c.in_err-drop_page.ensures.step) c.from_residual-in_err-drop_page.ensures.0 (λ tells o. record { needs = o; cut = λ d kept. kept })

pub pages-smaller : goal.pages-smaller
pages-smaller g c =
    let inside = rw (c.in-Some.is, c.pages.invariant.step.framed.same.geometry) at c.in_ok-page.ensures.inside in
    omega (arith, inside.0, inside.1.below, c.from-at.ensures)

pub pages-preserved : goal.pages-preserved
pages-preserved g c =
    let was = c.pages.invariant in
    let inside = rw (c.in-Some.is, was.step.framed.same.geometry) at c.in_ok-page.ensures.inside in
    let at = (goal.at.pages-preserved g c).In-Some in
    record {
      most = omega (arith, inside.1.below, c.from-at.ensures);
      few = λ tells o. rw c.from-at.ensures (spent g at _ c.in_ok-drop_page.ensures.few c.in_ok-drop_page.ensures.spares tells o);
      entries = rw c.from-at.ensures (entered g at _ c.in_ok-drop_page.ensures.few);
      step = rw c.from-at.ensures (turn g at _ _ c.in_ok-drop_page.ensures.step);
    }

pub returns-clause-step : goal.returns-clause-step
returns-clause-step g c =
    let was = c.pages.invariant in
    let found = c.in_ok-page.ensures in
    let geometry = c.args.v.now.geometry in
    let image = g.N.NorState.bytes c.pages.v.nor.now in
    stepped_then {last = staying} was.step (looked found.looks (λ e. absurd (cc)) tt (λ tells o. (refl, refl))) (λ tells o. record { needs = o; cut = λ d kept. kept })
    (λ tells o s.
    let high = c.saturating_add-high.result in
    let none : NextLive geometry image c.pages.at c.args.id high None = rw (was.step.framed.same.geometry, c.in_default.is) at (found.told (was.step.cuts.cuts.told tells)) in
    all_passed geometry _ image c.args.id c.args.kept c.pages.at (λ q from to. passed_not_left geometry image c.args.id high c.args.kept q c.saturating_add-high.ensures (none q from to)) s)

pub returns-in_err-page-clause-few : goal.returns-in_err-page-clause-few
returns-in_err-page-clause-few g c = λ tells o. let was = two_end _ _ c.args.id c.args.kept c.pages.at _ _ (c.pages.invariant.few tells o) in omega (arith, was, c.in_err-page.ensures.looks.reads.writes)

pub returns-in_err-page-clause-most : goal.returns-in_err-page-clause-most
returns-in_err-page-clause-most g c = omega (arith, c.pages.invariant.entries, c.in_err-page.ensures.looks.reads.writes, entries_all c.args.v.now.geometry c.pages.at c.pages.invariant.most)

pub returns-in_err-drop_page-clause-few : goal.returns-in_err-drop_page-clause-few
returns-in_err-drop_page-clause-few g c = λ tells o.
    let at = (goal.at.returns-in_err-drop_page-clause-few g c).In-Some in
    two_end _ _ c.args.id c.args.kept (c.in-Some.page + 1) _ _ (spent g at _ c.in_err-drop_page.ensures.few c.in_err-drop_page.ensures.spares tells o)

pub returns-in_err-drop_page-clause-most : goal.returns-in_err-drop_page-clause-most
returns-in_err-drop_page-clause-most g c =
    let at = (goal.at.returns-in_err-drop_page-clause-most g c).In-Some in
    let inside = rw (c.in-Some.is, c.pages.invariant.step.framed.same.geometry) at c.in_ok-page.ensures.inside in
    let all = entries_all c.args.v.now.geometry (c.in-Some.page + 1) (omega (arith, inside.1.below)) in
    let now = entered g at _ c.in_err-drop_page.ensures.few in
    omega (arith, now, all)

pub returns-clause-few : goal.returns-clause-few
returns-clause-few g c = λ tells o. let was = two_end _ _ c.args.id c.args.kept c.pages.at _ _ (c.pages.invariant.few tells o) in omega (arith, was, c.in_ok-page.ensures.looks.reads.writes)

pub returns-clause-most : goal.returns-clause-most
returns-clause-most g c = omega (arith, c.pages.invariant.entries, c.in_ok-page.ensures.looks.reads.writes, entries_all c.args.v.now.geometry c.pages.at c.pages.invariant.most)
