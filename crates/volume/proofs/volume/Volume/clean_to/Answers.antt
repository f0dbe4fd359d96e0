use Rattle.std.proofs.Common.{◌≡◌, false, rules}
use Rattle.volume.specs.Stages.{takes_calls}
use Rattle.volume.proofs.Cleanings.{cleans_closed}
use Rattle.volume.proofs.volume.Volume.clean_to.Goals as goal

pub returns-then-ne : goal.returns-then-ne
returns-then-ne g c = let shut : takes_calls c.args.self.now ≡ false = search rules in cleans_closed c.args.aim c.args.self.now shut
