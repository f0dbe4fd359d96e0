use Rattle.free_search.proofs.HadBy.{tidy_but_is_clear, put_had}
use Rattle.free_search.proofs.pages.pages_stay_had.Goals as goal

pub returns-clause-clear : goal.returns-clause-clear
returns-clause-clear c = λ g. tidy_but_is_clear g

pub returns-clause-put : goal.returns-clause-put
returns-clause-put c = λ g. put_had g
