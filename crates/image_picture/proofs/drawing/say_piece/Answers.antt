use Rattle.image_picture.proofs.Speaking.{said_whole, said_front}
use Rattle.image_picture.proofs.drawing.say_piece.Goals as goal

pub returns-clause-drawn : goal.returns-clause-drawn
returns-clause-drawn g c = said_whole c.say.result c.say.ensures.says c.say.ensures.cuts c.say.ensures.done

pub returns-clause-stopped : goal.returns-clause-stopped
returns-clause-stopped g c = said_front c.say.result c.say.ensures.says c.say.ensures.cuts c.say.ensures.cause
