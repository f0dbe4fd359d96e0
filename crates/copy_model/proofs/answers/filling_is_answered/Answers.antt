use Rattle.copy_model.proofs.Answering.{opens-working, puts-piece, closes-first, gives-up, marks, clears, places}
use Rattle.copy_model.proofs.answers.filling_is_answered.Goals as goal

pub returns-clause-opens : goal.returns-clause-opens
returns-clause-opens c = opens-working

pub returns-clause-puts : goal.returns-clause-puts
returns-clause-puts c = puts-piece

pub returns-clause-closes : goal.returns-clause-closes
returns-clause-closes c = closes-first

pub returns-clause-gives_up : goal.returns-clause-gives_up
returns-clause-gives_up c = gives-up

pub returns-clause-marks : goal.returns-clause-marks
returns-clause-marks c = marks

pub returns-clause-clears : goal.returns-clause-clears
returns-clause-clears c = clears

pub returns-clause-places : goal.returns-clause-places
returns-clause-places c = places
