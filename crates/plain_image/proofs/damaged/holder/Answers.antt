use Rattle.std.proofs.Common.{◌≡◌, ◌+◌, ◌∙◌, sym, subst, arith, ℕ}
use Rattle.std.proofs.lemmas.Grind.{common_steps}
use Rattle.geometry.specs.Numbers.{page_count}
use Rattle.image_model.specs.Live.{live_at}
use Rattle.image_model.specs.Tables.{has_of}
use Rattle.plain_image.specs.Leading.{Leads}
use Rattle.plain_image.proofs.Leading.{leads_yes, leads_no, leads_end, has_within}
use Rattle.plain_image.proofs.damaged.holder.Goals as goal
use Rattle.plain_image.proofs.damaged.holder.Goals.{in-Some, in_default}

pub loop-id-preserved : goal.loop-id-preserved
loop-id-preserved c =
    elim c.match-earlier.branch [
      | in-Some w ↦ rw (w.best-is, w.least-is) (leads_yes _ _ _ c.loop-id.id c.loop-id.best c.loop-id.least _ (omega arith) (sym c.earlier.ensures ∙ w.in-Some.is) c.loop-id.invariant)
      | in_default w ↦ rw (w.best-is, w.least-is) (leads_no _ _ _ c.loop-id.id c.loop-id.best c.loop-id.least (grind (arith, common_steps)) c.loop-id.invariant)
    ]

pub returns : goal.returns
returns c =
    let at : c.loop-id.id ≡ c.args.n + 1 = omega arith in
    leads_end (has_of c.args.g.now (live_at c.args.g.now c.args.image.now)) (page_count c.args.g.now) c.args.n c.args.name.now c.loop-id.best c.loop-id.least
    (has_within c.args.g.now (live_at c.args.g.now c.args.image.now))
    (subst (λ (id : ℕ). Leads (has_of c.args.g.now (live_at c.args.g.now c.args.image.now)) (page_count c.args.g.now) c.args.name.now id c.loop-id.best c.loop-id.least) at c.loop-id.invariant)
