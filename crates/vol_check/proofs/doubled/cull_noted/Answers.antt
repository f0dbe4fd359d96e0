use Rattle.std.proofs.Common.{None, Ok, Some, arith}
use Rattle.geometry.specs.Numbers.{page_count}
use Rattle.geometry.proofs.Bounds.{few_pages}
use Rattle.flash_view.specs.Walk.{NextLive}
use Rattle.flash_view.proofs.Looking.{looks_none}
use Rattle.flash_view.proofs.Passed.{passed_head}
use Rattle.vol_check.specs.Works.{Worked}
use Rattle.vol_check.proofs.Working.{look_works, works_seen, works_end, works_stop, read_stops}
use Rattle.vol_check.proofs.Passing.{from_bool_is}
use Rattle.vol_check.proofs.Noting.{notes_none, doubling_skip}
use Rattle.vol_check.proofs.Doubles.{facing_at, doubling_start, doubling_next, doubling_end}
use Rattle.vol_check.proofs.Walks.{found_index, passed_single}
use Rattle.vol_check.proofs.doubled.cull_noted.Given.{Over}
use Rattle.vol_check.proofs.doubled.cull_noted.Goals as goal
use Rattle.vol_check.proofs.doubled.cull_noted.Goals.{In-Some}

pub pages-init : goal.pages-init
pages-init g c = record { few = omega arith; most = omega arith; work = look_works (looks_none c.args.v.now) (λ tells magics need. doubling_start _ _ _ (notes_none _ _ c.args.bits.now c.requires.clear)) }

-- up to the index page that was found
faces : (g : Over) (c : In-Some g) → Worked {nor = g.N.NorState} c.args.v.now c.next_live.new.self (Ok c.pages.killed) (facing_at c.in-Some.page c.in-Some.head c.pages.bits)
faces g c =
    let found = c.in_ok-page.ensures in
    let inside = rw c.in-Some.is at found.inside in
    works_seen (λ geo image. NextLive geo image c.pages.at 0x8000 0xFFFE (Some (c.in-Some.page, c.in-Some.head))) c.pages.invariant.work found.looks (λ tells. rw c.in-Some.is at (found.told tells)) (λ tells magics need. record { needs = tt; idle = λ quiet. quiet })
    (λ tells magics need next done. record { doubling = doubling_skip _ _ _ _ _ _ _ inside.0 (λ q after before. passed_single _ _ q (next.passed q after before)) (λ q after before. passed_head _ _ q (next.passed q after before)) done; index = found_index _ _ _ _ _ next })

pub cull_doubled-requires-clause-page : goal.cull_doubled-requires-clause-page
cull_doubled-requires-clause-page g c = let inside = rw c.in-Some.is at c.in_ok-page.ensures.inside in rw c.in_ok-page.ensures.looks.same.geometry inside.1

pub returns-in_err-cull_doubled-clause-work : goal.returns-in_err-cull_doubled-clause-work
returns-in_err-cull_doubled-clause-work g c =
    works_stop (faces g (goal.at.returns-in_err-cull_doubled-clause-work g c).In-Some) c.in_err-cull_doubled.ensures c.from_residual-in_err-cull_doubled.ensures.0 (λ tells magics need. record { needs = tt; idle = λ quiet. quiet })
    (λ tells magics need was. record { needs = (was.doubling.noted, was.index); idle = λ quiet. quiet c.in-Some.page })

pub returns-in_err-page-clause-work : goal.returns-in_err-page-clause-work
returns-in_err-page-clause-work g c = read_stops c.pages.invariant.work c.in_err-page.ensures.looks c.in_err-page.ensures.cause c.from_residual.ensures.0 (λ tells magics need. record { needs = tt; idle = λ quiet. quiet })

pub pages-smaller : goal.pages-smaller
pages-smaller g c =
    let inside = rw (c.in-Some.is, c.pages.invariant.work.step.framed.same.geometry) at c.in_ok-page.ensures.inside in
    omega (arith, inside.0, inside.1.below, c.from-at.ensures)

pub pages-preserved : goal.pages-preserved
pages-preserved g c =
    let was = c.pages.invariant in
    let inside = rw (c.in-Some.is, was.work.step.framed.same.geometry) at c.in_ok-page.ensures.inside in
    let more = from_bool_is c.in_ok-cull_doubled.field-0 in
    record {
      few = omega (arith, inside.0, more.1, was.few, c.from.ensures, c.from-at.ensures);
      most = omega (arith, inside.1.below, c.from-at.ensures);
      work = works_end (faces g (goal.at.pages-preserved g c).In-Some) c.in_ok-cull_doubled.ensures (λ tells magics need. record { needs = tt; idle = λ quiet. quiet })
          (λ tells magics need before. record { needs = (before.doubling.noted, before.index); idle = λ quiet. quiet c.in-Some.page })
          (λ tells magics need before kept turn. rw c.from-at.ensures (doubling_next _ _ _ _ _ _ _ _ _ _ before.doubling turn (omega (arith, more.0, c.from.ensures))));
    }

pub returns-clause-most : goal.returns-clause-most
returns-clause-most g c = let was = c.pages.invariant in omega (arith, was.few, was.most, few_pages c.args.v.now.geometry)

pub returns-clause-work : goal.returns-clause-work
returns-clause-work g c =
    let was = c.pages.invariant in
    let found = c.in_ok-page.ensures in
    works_seen (λ geo image. NextLive geo image c.pages.at 0x8000 0xFFFE None) was.work found.looks (λ tells. rw c.in_default.is at (found.told tells)) (λ tells magics need. record { needs = tt; idle = λ quiet. quiet })
    (λ tells magics need last all. doubling_end _ _ _ _ _ _ (omega arith) (doubling_skip _ _ _ _ _ (page_count c.args.v.now.geometry) _ was.most (λ q after before. passed_single _ _ q (last q after before)) (λ q after before. passed_head _ _ q (last q after before)) all))
