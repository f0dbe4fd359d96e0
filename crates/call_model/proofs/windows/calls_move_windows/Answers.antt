use Rattle.call_model.proofs.After.{leaves-window, tell-stays, refused-settles, other-settles, write-goes_on, write-begins}
use Rattle.call_model.proofs.windows.calls_move_windows.Goals as goal

pub returns-clause-leaves : goal.returns-clause-leaves
returns-clause-leaves c = leaves-window

pub returns-clause-tells : goal.returns-clause-tells
returns-clause-tells c = tell-stays

pub returns-clause-refused : goal.returns-clause-refused
returns-clause-refused c = refused-settles

pub returns-clause-other : goal.returns-clause-other
returns-clause-other c = other-settles

pub returns-clause-goes_on : goal.returns-clause-goes_on
returns-clause-goes_on c = write-goes_on

pub returns-clause-begins : goal.returns-clause-begins
returns-clause-begins c = write-begins
