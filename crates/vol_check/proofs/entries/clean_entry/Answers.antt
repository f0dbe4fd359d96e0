use Rattle.std.proofs.Common.{sym, ◌∙◌}
use Rattle.flash_view.proofs.Stepped.{view_image}
use Rattle.vol_check.proofs.Staged.{kills_entry, must_be_killed, cleans_nothing}
use Rattle.vol_check.proofs.Working.{look_works, look_stops, works_as, stops}
use Rattle.vol_check.proofs.entries.clean_entry.Goals as goal

pub returns-in_err-is_dead_entry : goal.returns-in_err-is_dead_entry
returns-in_err-is_dead_entry g c = look_stops c.in_err-is_dead_entry.ensures.looks c.in_err-is_dead_entry.ensures.cause c.from_residual.ensures.0

pub returns-then-not-branch : goal.returns-then-not-branch
returns-then-not-branch g c =
    let seen = c.in_ok-is_dead_entry.ensures in
    look_works seen.looks (λ tells magics need. cleans_nothing _ _ _ (view_image c.args.v.now (g.met.N.Nor.sized _) tells) magics (sym (seen.told tells need) ∙ c.if-not-branch.true))

pub returns-in_err-kill : goal.returns-in_err-kill
returns-in_err-kill g c =
    let seen = c.in_ok-is_dead_entry.ensures in
    let dead = c.in_err-kill.ensures in
    stops (kills_entry seen.looks dead.same dead.wrote dead.cause dead.changes dead.done dead.counted (view_image c.args.v.now (g.met.N.Nor.sized _)) (λ tells magics need. rw c.if-not-branch.false at (seen.byte tells))) c.from_residual-in_err-kill.ensures.0 (λ tells magics need. must_be_killed c.args.own _ _ _ (sym (seen.told tells need) ∙ c.if-not-branch.false))

pub returns : goal.returns
returns g c =
    let seen = c.in_ok-is_dead_entry.ensures in
    let dead = c.in_ok-kill.ensures in
    works_as (kills_entry seen.looks dead.same dead.wrote dead.cause dead.changes dead.done dead.counted (view_image c.args.v.now (g.met.N.Nor.sized _)) (λ tells magics need. rw c.if-not-branch.false at (seen.byte tells))) (λ tells magics need. must_be_killed c.args.own _ _ _ (sym (seen.told tells need) ∙ c.if-not-branch.false)) (λ tells magics need kept done. done)
