use Rattle.std.proofs.Common.{◌≡◌, ◌+◌, ◌∙◌, None, Ok, Some, arith}
use Rattle.geometry.specs.Numbers.{page_count}
use Rattle.geometry.proofs.Bounds.{few_pages}
use Rattle.flash_view.specs.Walk.{NextLive}
use Rattle.flash_view.proofs.Passed.{passed_used}
use Rattle.vol_check.specs.Works.{Worked}
use Rattle.vol_check.proofs.Working.{look_works, look_stops, read_stops, works_seen, works_end, works_stop}
use Rattle.vol_check.proofs.Passing.{from_bool_is}
use Rattle.vol_check.proofs.Resting.{dead_served, standing_at, resting_start, resting_skip, resting_next, resting_marked, resting_end}
use Rattle.vol_check.proofs.Walks.{found_live}
use Rattle.vol_check.proofs.unwanted.cull_rest.Given.{Over}
use Rattle.vol_check.proofs.unwanted.cull_rest.Goals as goal
use Rattle.vol_check.proofs.unwanted.cull_rest.Goals.{In-Some}

pub returns-in_err-mark_wanted-clause-work : goal.returns-in_err-mark_wanted-clause-work
returns-in_err-mark_wanted-clause-work g c = look_stops c.in_err-mark_wanted.ensures.looks c.in_err-mark_wanted.ensures.cause c.from_residual.ensures.0

pub pages-init : goal.pages-init
pages-init g c =
    let seen = c.in_ok-mark_wanted.ensures in
    record { few = omega arith; most = omega arith; work = look_works seen.looks (λ tells magics settled. resting_start _ _ _ settled (seen.told tells settled)) }

pub returns-in_err-page-clause-work : goal.returns-in_err-page-clause-work
returns-in_err-page-clause-work g c = read_stops c.pages.invariant.work c.in_err-page.ensures.looks c.in_err-page.ensures.cause c.from_residual-in_err-page.ensures.0 (λ tells magics settled. record { needs = settled; idle = λ quiet. quiet })

-- up to the page that was found, which is live
stands : (g : Over) (c : In-Some g) → Worked {nor = g.N.NorState} c.args.v.now c.next_live.new.self (Ok c.pages.killed) (standing_at c.in-Some.page c.mark_wanted.new.marks)
stands g c =
    let found = c.in_ok-page.ensures in
    let inside = rw c.in-Some.is at found.inside in
    works_seen (λ geo image. NextLive geo image c.pages.at 1 0xFFFE (Some (c.in-Some.page, c.in-Some.field-0-1))) c.pages.invariant.work found.looks (λ tells. rw c.in-Some.is at (found.told tells)) (λ tells magics settled. record { needs = settled; idle = λ quiet. quiet })
    (λ tells magics settled next done. record { resting = resting_skip _ _ _ _ _ _ _ inside.0 (λ q after before. dead_served _ _ q (passed_used _ _ q (next.passed q after before))) done; live = found_live _ _ _ _ _ next })

pub cull_unmarked-requires : goal.cull_unmarked-requires
cull_unmarked-requires g c = let inside = rw c.in-Some.is at c.in_ok-page.ensures.inside in rw c.in_ok-page.ensures.looks.same.geometry inside.1

pub returns-in_err-cull_unmarked-clause-work : goal.returns-in_err-cull_unmarked-clause-work
returns-in_err-cull_unmarked-clause-work g c =
    let inside = rw (c.in-Some.is, c.pages.invariant.work.step.framed.same.geometry) at c.in_ok-page.ensures.inside in
    works_stop (stands g (goal.at.returns-in_err-cull_unmarked-clause-work g c).In-Some) c.in_err-cull_unmarked.ensures c.from_residual-in_err-cull_unmarked.ensures.0 (λ tells magics settled. record { needs = settled; idle = λ quiet. quiet })
    (λ tells magics settled before. record { needs = (before.resting.settled, rw c.from.ensures (before.resting.marked c.in-Some.page (omega arith) inside.1.below), before.live); idle = λ quiet. quiet c.in-Some.page })

pub pages-smaller : goal.pages-smaller
pages-smaller g c =
    let inside = rw (c.in-Some.is, c.pages.invariant.work.step.framed.same.geometry) at c.in_ok-page.ensures.inside in
    omega (arith, inside.0, inside.1.below, c.next_unmarked-at.ensures.low, c.next_unmarked-at.ensures.high)

pub pages-preserved : goal.pages-preserved
pages-preserved g c =
    let was = c.pages.invariant in
    let inside = rw (c.in-Some.is, was.work.step.framed.same.geometry) at c.in_ok-page.ensures.inside in
    let more = from_bool_is c.in_ok-cull_unmarked.field-0 in
    let behind = c.next_unmarked-at.ensures in
    let same : c.cull_unmarked.new.v.geometry ≡ c.args.v.now.geometry = c.in_ok-cull_unmarked.ensures.step.framed.same.geometry ∙ c.in_ok-page.ensures.looks.same.geometry ∙ was.work.step.framed.same.geometry in
    record {
      few = omega (arith, inside.0, more.1, was.few, c.from.ensures, behind.low);
      most = rw same at behind.high;
      work = works_end (stands g (goal.at.pages-preserved g c).In-Some) c.in_ok-cull_unmarked.ensures (λ tells magics settled. record { needs = settled; idle = λ quiet. quiet })
          (λ tells magics settled before. record { needs = (before.resting.settled, rw c.from.ensures (before.resting.marked c.in-Some.page (omega arith) inside.1.below), before.live); idle = λ quiet. quiet c.in-Some.page })
          (λ tells magics need before kept turn.
          resting_marked _ _ _ _ (c.in-Some.page + 1) _ _ (omega (arith, behind.low)) (rw same at behind.high) (λ q low high. behind.passed q (omega (arith, low)) high)
          (resting_next _ _ _ _ _ _ _ _ _ before.resting turn (omega (arith, more.0, c.from.ensures))));
    }

pub returns-clause-most : goal.returns-clause-most
returns-clause-most g c = let was = c.pages.invariant in omega (arith, was.few, was.most, few_pages c.args.v.now.geometry)

pub returns-clause-work : goal.returns-clause-work
returns-clause-work g c =
    let was = c.pages.invariant in
    let found = c.in_ok-page.ensures in
    works_seen (λ geo image. NextLive geo image c.pages.at 1 0xFFFE None) was.work found.looks (λ tells. rw c.in_default.is at (found.told tells)) (λ tells magics settled. record { needs = settled; idle = λ quiet. quiet })
    (λ tells magics need last all. resting_end _ _ _ _ _ _ (omega arith) (resting_skip _ _ _ _ _ (page_count c.args.v.now.geometry) _ was.most (λ q after before. dead_served _ _ q (passed_used _ _ q (last q after before))) all))
