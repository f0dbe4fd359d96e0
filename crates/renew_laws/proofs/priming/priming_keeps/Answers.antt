use Rattle.renew_laws.proofs.PrimeBeside.{prime-starts, prime-data, prime-index}
use Rattle.renew_laws.proofs.PrimePlaces.{primed-places}
use Rattle.renew_laws.proofs.PrimeInPlace.{prime-fill, prime-name}
use Rattle.renew_laws.proofs.priming.priming_keeps.Goals as goal

pub returns-clause-starts : goal.returns-clause-starts
returns-clause-starts c = prime-starts

pub returns-clause-places : goal.returns-clause-places
returns-clause-places c = primed-places

pub returns-clause-data_page : goal.returns-clause-data_page
returns-clause-data_page c = prime-data

pub returns-clause-index_page : goal.returns-clause-index_page
returns-clause-index_page c = prime-index

pub returns-clause-fill : goal.returns-clause-fill
returns-clause-fill c = prime-fill

pub returns-clause-name : goal.returns-clause-name
returns-clause-name c = prime-name
