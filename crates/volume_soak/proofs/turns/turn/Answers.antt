use Rattle.volume_soak.specs.declared.draws.Kind.TheVariants.{Adds, Makes, Drops, Looks}
use Rattle.volume_soak.proofs.Turning.{ends_turn}
use Rattle.volume_soak.proofs.turns.turn.Goals as goal

pub returns-in-Adds-clause-did : goal.returns-in-Adds-clause-did
returns-in-Adds-clause-did g c = ends_turn c.args.volume.now c.through.new.volume c.args.draw Adds c.through.result c.in-Adds.is c.through.ensures.did

pub returns-in-Makes-clause-did : goal.returns-in-Makes-clause-did
returns-in-Makes-clause-did g c = ends_turn c.args.volume.now c.through-in-Makes.new.volume c.args.draw Makes c.through-in-Makes.result c.in-Makes.is c.through-in-Makes.ensures.did

pub returns-in-Drops-clause-did : goal.returns-in-Drops-clause-did
returns-in-Drops-clause-did g c = ends_turn c.args.volume.now c.remove.new.volume c.args.draw Drops c.remove.result c.in-Drops.is c.remove.ensures.did

pub returns-in-Looks-clause-did : goal.returns-in-Looks-clause-did
returns-in-Looks-clause-did g c = ends_turn c.args.volume.now c.through-in-Looks.new.volume c.args.draw Looks c.through-in-Looks.result c.in-Looks.is c.through-in-Looks.ensures.did
