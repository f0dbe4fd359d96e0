use Rattle.std.proofs.Common.{refl, rules, ap, inr}
use Rattle.table_model.specs.Ask.{Informs}
use Rattle.table_model.specs.Reply.{Counts, Refuses}
use Rattle.volume_run.proofs.Answering.{answered}
use Rattle.volume_run.proofs.Stopping.{goes_unbroken, stops_apart, stops_by_fault}
use Rattle.volume_make.specs.declared.put_err.PutErr.TheVariants.{Stopped, Refused}
use Rattle.volume_make.proofs.Making.{tells_info, never_untold}
use Rattle.volume_make.proofs.files.tell_info.Goals as goal

pub returns-in-Ok-clause-told : goal.returns-in-Ok-clause-told
returns-in-Ok-clause-told g c =
    tells_info c.in-Ok.info refl (λ h s ready. answered {old = c.args.volume.now} {new = c.info.new.self} {ask = Informs} {reply = Counts c.in-Ok.info} ready (search rules) refl)

pub returns-in-Some-clause-stops : goal.returns-in-Some-clause-stops
returns-in-Some-clause-stops g c = λ h s ready.
    inr (ap Stopped (stops_by_fault {old = c.args.volume.now} {new = c.info.new.self} {ask = Informs} c.in-Err.why c.in-Some.stop (search rules) ready (search rules)))

pub returns-in-None-clause-stops : goal.returns-in-None-clause-stops
returns-in-None-clause-stops g c =
    never_untold c.in-Err.why Refused (λ h s ready. answered {old = c.args.volume.now} {new = c.info.new.self} {ask = Informs} {reply = Refuses c.in-Err.why} ready (search rules) (goes_unbroken c.in-Err.why (search rules)))

pub returns-in-Some-clause-apart : goal.returns-in-Some-clause-apart
returns-in-Some-clause-apart g c =
    stops_apart {old = c.args.volume.now} {new = c.info.new.self} {ask = Informs} c.in-Err.why c.in-Some.stop (search rules) (search rules)
