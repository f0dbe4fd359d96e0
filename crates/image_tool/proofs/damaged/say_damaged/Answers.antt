use Rattle.image_tool.proofs.Speaking.{front_one, on_err}
use Rattle.image_tool.proofs.damaged.say_damaged.Goals as goal

pub returns-clause-front : goal.returns-clause-front
returns-clause-front g c = let here = front_one c.say.ensures.says in on_err c.say.result (rw c.put_damaged-end.ensures.put.written at here)
