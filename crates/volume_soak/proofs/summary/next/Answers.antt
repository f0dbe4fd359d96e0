use Rattle.std.proofs.Common.{refl, rules, None}
use Rattle.table_model.specs.Ask.{NextAbove}
use Rattle.file_calls.specs.Replies.{shown_or_end}
use Rattle.volume_run.proofs.Stopping.{goes_unbroken, stops_apart, stops_by_fault}
use Rattle.volume_soak.proofs.Counting.{shown_whole, finds, never_refused}
use Rattle.volume_soak.proofs.summary.next.Goals as goal

pub returns-in-Some-clause-stops : goal.returns-in-Some-clause-stops
returns-in-Some-clause-stops g c = λ h s ready.
    stops_by_fault {old = c.args.volume.now} {new = c.next.new.self} {ask = NextAbove c.args.after} c.in-Err.why c.in-Some.stop (search rules) ready (search rules)

pub returns-in-None-clause-found : goal.returns-in-None-clause-found
returns-in-None-clause-found g c = never_refused {old = c.args.volume.now} {new = c.next.new.self} c.args.after c.in-Err.why None (search rules) (goes_unbroken c.in-Err.why (search rules))

pub returns-in-Ok-clause-found : goal.returns-in-Ok-clause-found
returns-in-Ok-clause-found g c =
    finds {old = c.args.volume.now} {new = c.next.new.self} {reply = shown_or_end c.in-Ok.found} c.args.after c.in-Ok.found (search rules) (shown_whole c.in-Ok.found) refl

pub returns-in-Some-clause-apart : goal.returns-in-Some-clause-apart
returns-in-Some-clause-apart g c =
    stops_apart {old = c.args.volume.now} {new = c.next.new.self} {ask = NextAbove c.args.after} c.in-Err.why c.in-Some.stop (search rules) (search rules)
