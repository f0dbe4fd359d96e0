use Rattle.image_tool.proofs.Speaking.{front_one, on_err}
use Rattle.detect_tool.proofs.saying.say_found.Goals as goal

pub returns-clause-front : goal.returns-clause-front
returns-clause-front g c = let here = front_one c.say.ensures.says in on_err c.say.result (rw c.put_found-end.ensures.put.written at here)
