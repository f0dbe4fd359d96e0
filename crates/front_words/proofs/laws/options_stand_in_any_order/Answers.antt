use Rattle.front_words.proofs.Orders.{any_order, names_any_order, values_any_order}
use Rattle.front_words.proofs.laws.options_stand_in_any_order.Goals as goal

pub returns-clause-asked : goal.returns-clause-asked
returns-clause-asked c = any_order

pub returns-clause-named : goal.returns-clause-named
returns-clause-named c = names_any_order

pub returns-clause-given : goal.returns-clause-given
returns-clause-given c = values_any_order
