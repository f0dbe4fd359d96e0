use Rattle.listed_laws.proofs.Listings.{listed, listed_whole}
use Rattle.listed_laws.proofs.listing.found_volumes_are_listed.Goals as goal

pub returns-clause-listed : goal.returns-clause-listed
returns-clause-listed c = listed

pub returns-clause-told : goal.returns-clause-told
returns-clause-told c = listed_whole
