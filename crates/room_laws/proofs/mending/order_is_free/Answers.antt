use Rattle.room_laws.proofs.Orders.{to_front, mending_rearranged, cleaned_mends}
use Rattle.room_laws.proofs.mending.order_is_free.Goals as goal

pub returns-clause-front : goal.returns-clause-front
returns-clause-front c = to_front

pub returns-clause-mending : goal.returns-clause-mending
returns-clause-mending c = mending_rearranged

pub returns-clause-cleaned : goal.returns-clause-cleaned
returns-clause-cleaned c = cleaned_mends
