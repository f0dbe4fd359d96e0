use Rattle.listed_laws.proofs.Listings.{one_place_one_length}
use Rattle.listed_laws.proofs.listing.one_place_has_one_length.Goals as goal

pub returns : goal.returns
returns c = one_place_one_length
