use Rattle.room_laws.proofs.ImageMends.{clean_mends, mended_has_reserve}
use Rattle.room_laws.proofs.mending.images_mend.Goals as goal

pub returns-clause-clean : goal.returns-clause-clean
returns-clause-clean c = clean_mends

pub returns-clause-stopped : goal.returns-clause-stopped
returns-clause-stopped c = mended_has_reserve
