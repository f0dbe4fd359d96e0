use Rattle.room_laws.proofs.Recovering.{mended_recovers}
use Rattle.room_laws.proofs.recovery.mended_images_recover.Goals as goal

pub returns : goal.returns
returns c = mended_recovers
