use Rattle.std.proofs.Common.{arith}
use Rattle.page_put.specs.Kills.{deleted, killed}
use Rattle.image_laws.proofs.TidySteps.{zeroed}
use Rattle.page_put.proofs.Killed.{kill_done}
use Rattle.page_put.proofs.killing.program_kill.Goals as goal

pub recount_dead-requires-clause-dead : goal.recount_dead-requires-clause-dead
recount_dead-requires-clause-dead g c = λ tells.
    let p = c.in_ok-program_dead.ensures in
    let mid = c.sort_before-before.new.v in
    let image = g.N.NorState.bytes mid.nor.now in
    rw (p.same.geometry, p.done (p.changes.cuts.told_before tells)) (zeroed mid.geometry (deleted mid.geometry c.args.page image) (killed mid.geometry c.args.page image) c.args.page (kill_done mid.geometry image c.args.page).clear)

pub returns-clause-counted : goal.returns-clause-counted
returns-clause-counted g c = λ tells stood.
    let b = c.in_ok-before.ensures in
    let p = c.in_ok-program_dead.ensures in
    c.recount_dead.ensures.stands (p.changes.cuts.told (b.looks.reads.told tells)) (b.some stood c.requires.page)

pub returns-in_err-program_dead-clause-few : goal.returns-in_err-program_dead-clause-few
returns-in_err-program_dead-clause-few g c = omega (arith, c.sort_before-before.ensures.looks.reads.writes, c.program_dead.ensures.few)

pub returns-in_err-before-clause-few : goal.returns-in_err-before-clause-few
returns-in_err-before-clause-few g c = omega (arith, c.sort_before-before.ensures.looks.reads.writes, c.program_dead.ensures.few)

pub returns-clause-few : goal.returns-clause-few
returns-clause-few g c = omega (arith, c.sort_before-before.ensures.looks.reads.writes, c.program_dead.ensures.few, c.recount_dead.ensures.counts.reads.writes)
