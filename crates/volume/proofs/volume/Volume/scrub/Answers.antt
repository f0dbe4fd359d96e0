use Rattle.std.proofs.Common.{◌≡◌, false, rules}
use Rattle.volume.specs.Stages.{takes_calls}
use Rattle.volume.proofs.Scrubbings.{scrubs_closed}
use Rattle.volume.proofs.volume.Volume.scrub.Goals as goal

pub returns-then-ne : goal.returns-then-ne
returns-then-ne g c = let shut : takes_calls c.args.self.now ≡ false = search rules in scrubs_closed c.args.limit c.args.self.now shut
