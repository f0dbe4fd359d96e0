use Rattle.std.proofs.Common.{rules, ℕ, Option, Some, arith, subst}
use Rattle.file_find.specs.Marks.{NextHead}
use Rattle.vol_check.proofs.Heading.{heading_marks, heading_start, heading_next, heading_end, heading_goes}
use Rattle.vol_check.proofs.Passing.{from_bool_is}
use Rattle.vol_check.proofs.Working.{look_works, look_stops, works_as, works_end, works_stop, works_read, read_stops}
use Rattle.vol_check.proofs.damaged.cull_damaged.Given.{Over}
use Rattle.vol_check.proofs.damaged.cull_damaged.Goals as goal
use Rattle.vol_check.proofs.damaged.cull_damaged.Goals.{After-cull_head}

pub returns-in_err-survey-clause-work : goal.returns-in_err-survey-clause-work
returns-in_err-survey-clause-work g c = look_stops c.in_err-survey.ensures.looks c.in_err-survey.ensures.cause c.from_residual.ensures.0

pub ids-init : goal.ids-init
ids-init g c =
    let seen = c.in_ok-survey.ensures in
    record { few = omega arith; most = omega arith; work = look_works seen.looks (λ tells magics single. heading_start _ _ _ single (seen.told tells)) }

pub next_marked-requires-clause-marked : goal.next_marked-requires-clause-marked
next_marked-requires-clause-marked g c = heading_marks c.ids.invariant.work c.requires.magics c.requires.single

pub cull_head-requires-clause-marked : goal.cull_head-requires-clause-marked
cull_head-requires-clause-marked g c = λ tells.
    let seen = c.in_ok-id.ensures.looks in
    rw (seen.same.geometry, seen.reads.bytes) (heading_marks c.ids.invariant.work c.requires.magics c.requires.single (seen.reads.told_before tells))

-- the next id with a header page
next_head : (g : Over) (c : After-cull_head g) → g.N.NorState.tells c.args.v.now.nor.now → NextHead c.args.v.now.geometry (g.N.NorState.bytes c.next_marked.new.v.nor.now) c.ids.at (Some (c.in-Some.id, c.in-Some.header))
next_head g c = λ tells.
    let was = c.ids.invariant.work.step in
    let from = rw was.framed.same.geometry at (c.in_ok-id.ensures.told (was.cuts.cuts.told tells)) in
    rw c.in_ok-id.ensures.looks.reads.bytes (subst (λ (o : Option (ℕ × ℕ)). NextHead c.args.v.now.geometry (g.N.NorState.bytes c.ids.v.nor.now) c.ids.at o) c.in-Some.is from)

pub ids-preserved : goal.ids-preserved
ids-preserved g c =
    let was = c.ids.invariant in
    let above = rw c.in-Some.is at c.in_ok-id.ensures.above in
    let more = from_bool_is c.in_ok-cull_head.field-0 in
    let next = next_head g (goal.at.ids-preserved g c).After-cull_head in
    record {
      few = omega (arith, above, was.few, more.1, c.from.ensures);
      most = search rules;
      work = works_end (works_read was.work c.in_ok-id.ensures.looks) c.in_ok-cull_head.ensures (λ tells magics single. record { needs = single; idle = λ none. none })
          (λ tells magics single heading. let goes = heading_goes _ _ _ _ c.cull_head.new.marks _ _ _ _ heading (next tells) in record { needs = goes.needs; idle = goes.idle })
          (λ tells magics single heading kept turn. heading_next _ _ _ _ _ _ _ _ _ _ _ _ heading (next tells) turn (omega (arith, more.0, c.from.ensures)));
    }

pub returns-in_err-id-clause-work : goal.returns-in_err-id-clause-work
returns-in_err-id-clause-work g c =
    read_stops c.ids.invariant.work c.in_err-id.ensures.looks c.in_err-id.ensures.cause c.from_residual-in_err-id.ensures.0 (λ tells magics single. record { needs = single; idle = λ none. none })

pub returns-in_err-cull_head-clause-work : goal.returns-in_err-cull_head-clause-work
returns-in_err-cull_head-clause-work g c =
    let at = goal.at.returns-in_err-cull_head-clause-work g c in
    works_stop (works_read c.ids.invariant.work c.in_ok-id.ensures.looks) c.in_err-cull_head.ensures c.from_residual-in_err-cull_head.ensures.0 (λ tells magics single. record { needs = single; idle = λ none. none })
    (λ tells magics single heading. heading_goes _ _ _ _ _ _ _ _ _ heading (next_head g at.After-cull_head tells))

pub returns-clause-work : goal.returns-clause-work
returns-clause-work g c =
    let was = c.ids.invariant.work in
    let looks = c.in_ok-id.ensures.looks in
    works_as (works_read was looks) (λ tells magics single. record { needs = single; idle = λ none. none }) (λ tells magics single kept heading.
    let from = rw was.step.framed.same.geometry at (c.in_ok-id.ensures.told (was.step.cuts.cuts.told tells)) in
    heading_end _ _ _ _ _ _ heading (rw looks.reads.bytes (subst (λ (o : Option (ℕ × ℕ)). NextHead c.args.v.now.geometry (g.N.NorState.bytes c.ids.v.nor.now) c.ids.at o) c.in_default.is from)))
