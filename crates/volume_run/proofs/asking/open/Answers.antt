use Rattle.std.proofs.Common.{refl, ap, rules}
use Rattle.table_model.specs.Ask.{Opens}
use Rattle.table_model.specs.Reply.{Tells, Refuses}
use Rattle.volume_run.specs.Ready.{opened}
use Rattle.volume_run.proofs.Answering.{answered}
use Rattle.volume_run.proofs.Stopping.{goes_unbroken, stops_apart, stops_by_fault}
use Rattle.volume_run.proofs.asking.open.Goals as goal

pub returns-in-Ok-clause-answered : goal.returns-in-Ok-clause-answered
returns-in-Ok-clause-answered g c = λ h s ready.
    let a = answered {old = c.args.volume.now} {new = c.open_file.new.self} {ask = Opens c.args.name.now c.args.flags} {reply = Tells c.in-Ok.fd} ready (search rules) refl in
    record { fd_is = ap opened a.reply_is; ready = a.ready }

pub returns-in-Some-clause-stops : goal.returns-in-Some-clause-stops
returns-in-Some-clause-stops g c = λ h s ready.
    stops_by_fault {old = c.args.volume.now} {new = c.open_file.new.self} {ask = Opens c.args.name.now c.args.flags} c.in-Err.why c.in-Some.stop (search rules) ready (search rules)

pub returns-in-None-clause-answered : goal.returns-in-None-clause-answered
returns-in-None-clause-answered g c = λ h s ready.
    let a = answered {old = c.args.volume.now} {new = c.open_file.new.self} {ask = Opens c.args.name.now c.args.flags} {reply = Refuses c.in-Err.why} ready (search rules) (goes_unbroken c.in-Err.why (search rules)) in
    record { fd_is = ap opened a.reply_is; ready = a.ready }

pub returns-in-Some-clause-apart : goal.returns-in-Some-clause-apart
returns-in-Some-clause-apart g c =
    stops_apart {old = c.args.volume.now} {new = c.open_file.new.self} {ask = Opens c.args.name.now c.args.flags} c.in-Err.why c.in-Some.stop (search rules) (search rules)
