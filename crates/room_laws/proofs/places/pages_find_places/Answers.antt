use Rattle.room_laws.proofs.HavePlaces.{had_finds_index, had_finds_data, had_puts_index, had_puts_data, had_kills, had_less}
use Rattle.room_laws.proofs.places.pages_find_places.Goals as goal

pub returns-clause-index : goal.returns-clause-index
returns-clause-index c = had_finds_index

pub returns-clause-pages : goal.returns-clause-pages
returns-clause-pages c = had_finds_data

pub returns-clause-put_index : goal.returns-clause-put_index
returns-clause-put_index c = had_puts_index

pub returns-clause-put_data : goal.returns-clause-put_data
returns-clause-put_data c = had_puts_data

pub returns-clause-kill : goal.returns-clause-kill
returns-clause-kill c = had_kills

pub returns-clause-less : goal.returns-clause-less
returns-clause-less c = had_less
