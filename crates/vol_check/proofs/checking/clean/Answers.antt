use Rattle.std.proofs.Common.{Ok, refl, sym, subst}
use Rattle.geometry.specs.declared.geometry.Geometry.{Geometry}
use Rattle.image_model.specs.Tidy.{TellsFree}
use Rattle.vol_check.specs.Works.{Worked}
use Rattle.vol_check.proofs.Tidied.{tidy_clean}
use Rattle.vol_check.proofs.Composing.{readying, culling_all, ready_tells, checked}
use Rattle.vol_check.proofs.Working.{works_as, works_end, works_stop, works_read, works_counted, read_stops, counts_stop, stops, work_magics}
use Rattle.vol_check.proofs.checking.clean.Given.{Over}
use Rattle.vol_check.proofs.checking.clean.Goals as goal
use Rattle.vol_check.proofs.checking.clean.Goals.{In_ok-dead, In_ok-count_all, In_ok-culled}

pub returns-in_err-erased : goal.returns-in_err-erased
returns-in_err-erased g c = stops c.in_err-erased.ensures c.from_residual.ensures.0 (λ tells magics need. record { needs = tt; idle = λ tidy. tidy.magic })

pub returns-in_err-dead : goal.returns-in_err-dead
returns-in_err-dead g c =
    works_stop c.in_ok-erased.ensures c.in_err-dead.ensures.work c.from_residual-in_err-dead.ensures.0 (λ tells magics need. record { needs = tt; idle = λ tidy. tidy.magic }) (λ tells magics need made. record { needs = record { magics = made.magics; owned = λ is. made.own (need is) }; idle = λ tidy. tidy_clean _ _ tidy })

-- after the block without its magic and the dead entries
ready : (g : Over) (c : In_ok-dead g) → Worked {nor = g.N.NorState} c.args.v.now c.clean_entries.new.v (Ok (c.in_ok-erased.erased, c.in_ok-dead.dead)) (readying c.args.own)
ready g c =
    works_end c.in_ok-erased.ensures c.in_ok-dead.ensures.work (λ tells magics need. record { needs = tt; idle = λ tidy. tidy.magic }) (λ tells magics need made. record { needs = record { magics = made.magics; owned = λ is. made.own (need is) }; idle = λ tidy. tidy_clean _ _ tidy })
    (λ tells magics need made kept cleans. record { image = _; made = made; cleans = cleans })

pub count_all-requires : goal.count_all-requires
count_all-requires g c = record {
  clear = λ tells.
      let was = ready g (goal.at.count_all-requires g c).In_ok-dead in
      let before = was.step.cuts.cuts.told_before tells in
      subst (λ (k : Geometry). TellsFree k (g.N.NorState.bytes c.clean_entries.new.v.nor.now)) (sym was.step.framed.same.geometry) (ready_tells _ _ _ _ _ (was.step.ends before (c.requires.magics before, c.requires.owned before)));
}

pub returns-in_err-count_all : goal.returns-in_err-count_all
returns-in_err-count_all g c =
    counts_stop (ready g (goal.at.returns-in_err-count_all g c).In_ok-dead) c.in_err-count_all.ensures.counts c.in_err-count_all.ensures.cause c.from_residual-in_err-count_all.ensures.0 (λ tells magics need. record { needs = need; idle = λ tidy. tidy })

-- and the blocks were counted
counted : (g : Over) (c : In_ok-count_all g) → Worked {nor = g.N.NorState} c.args.v.now c.clean_entries.new.v (Ok (c.in_ok-erased.erased, c.in_ok-dead.dead)) (readying c.args.own) →
    Worked {nor = g.N.NorState} c.args.v.now c.count_all.new.v (Ok (c.in_ok-erased.erased, c.in_ok-dead.dead)) (readying c.args.own)
counted g c was = works_counted was c.in_ok-count_all.ensures.counts (λ stood. c.in_ok-count_all.ensures.stands (c.clean_entries.new.v.table stood).room)

pub cull_pages-requires-clause-magics : goal.cull_pages-requires-clause-magics
cull_pages-requires-clause-magics g c =
    let at = goal.at.cull_pages-requires-clause-magics g c in
    work_magics (counted g at.In_ok-count_all (ready g at.In_ok-dead)) c.requires.magics c.requires.owned

pub returns-in_err-culled : goal.returns-in_err-culled
returns-in_err-culled g c =
    let at = goal.at.returns-in_err-culled g c in
    works_stop (counted g at.In_ok-count_all (ready g at.In_ok-dead)) c.in_err-culled.ensures.work c.from_residual-in_err-culled.ensures.0 (λ tells magics need. record { needs = need; idle = λ tidy. tidy }) (λ tells magics need done. record { needs = tt; idle = λ tidy. tidy })

-- after the passes
culled : (g : Over) (c : In_ok-culled g) → Worked {nor = g.N.NorState} c.args.v.now c.count_all.new.v (Ok (c.in_ok-erased.erased, c.in_ok-dead.dead)) (readying c.args.own) →
    Worked {nor = g.N.NorState} c.args.v.now c.cull_pages.new.v (Ok (c.in_ok-erased.erased, c.in_ok-dead.dead, c.in_ok-culled.culled)) (culling_all c.args.own)
culled g c was =
    works_end was c.in_ok-culled.ensures.work (λ tells magics need. record { needs = need; idle = λ tidy. tidy }) (λ tells magics need done. record { needs = tt; idle = λ tidy. tidy })
    (λ tells magics need done kept culled. record { image = _; ready = done; passes = culled })

pub returns-in_err-free_blocks : goal.returns-in_err-free_blocks
returns-in_err-free_blocks g c =
    let at = goal.at.returns-in_err-free_blocks g c in
    read_stops (culled g at.In_ok-culled (counted g at.In_ok-count_all (ready g at.In_ok-dead))) c.in_err-free_blocks.ensures.looks.only c.in_err-free_blocks.ensures.looks.cause c.from_residual-in_err-free_blocks.ensures.0 (λ tells magics need. record { needs = need; idle = λ tidy. tidy })

pub returns : goal.returns
returns g c =
    let at = goal.at.returns g c in
    let was = culled g at.In_ok-culled (counted g at.In_ok-count_all (ready g at.In_ok-dead)) in
    let looks = c.free_blocks.ensures.looks.only in
    works_as (works_read was looks) (λ tells magics need. record { needs = need; idle = λ tidy. tidy })
    (λ tells magics need kept done. checked _ _ _ _ _ _ _ done.ready done.passes kept refl (rw (looks.reads.bytes) (rw was.step.framed.same.geometry at (c.in_ok-free_blocks.ensures.looks.told (was.step.cuts.cuts.told tells)))))
