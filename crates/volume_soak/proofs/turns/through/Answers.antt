use Rattle.std.proofs.Common.{ℕ, Option, subst}
use Rattle.volume_run.specs.Ready.{IsOpenedFrom}
use Rattle.volume_soak.specs.Asks.{asks_of}
use Rattle.volume_soak.proofs.Turning.{ends_through, stops_through, did_refused}
use Rattle.volume_soak.proofs.turns.through.Goals as goal

pub returns-in-Some-clause-did : goal.returns-in-Some-clause-did
returns-in-Some-clause-did g c =
    let opens = subst (λ (o : Option ℕ). IsOpenedFrom c.args.volume.now c.args.name.now c.args.flags c.open.new.volume o) c.in-Some.is c.in_ok-fd.ensures.answered in
    ends_through c.finish.new.volume c.args.name.now c.args.flags (asks_of c.args.task) c.in-Some.fd c.finish.result opens c.finish.ensures.did

pub returns-in-Some-clause-stops : goal.returns-in-Some-clause-stops
returns-in-Some-clause-stops g c = stops_through c.finish.result c.in_ok-fd.ensures.answered c.finish.ensures.stops

pub returns-in-None-clause-did : goal.returns-in-None-clause-did
returns-in-None-clause-did g c =
    did_refused c.args.name.now c.args.flags (asks_of c.args.task) (subst (λ (o : Option ℕ). IsOpenedFrom c.args.volume.now c.args.name.now c.args.flags c.open.new.volume o) c.in-None.is c.in_ok-fd.ensures.answered)
