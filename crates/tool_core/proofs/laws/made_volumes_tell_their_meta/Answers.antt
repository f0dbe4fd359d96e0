use Rattle.tool_core.proofs.Telling.{made_tells}
use Rattle.tool_core.proofs.laws.made_volumes_tell_their_meta.Goals as goal

pub returns : goal.returns
returns c = made_tells
