use Rattle.image_laws.proofs.Copying.{put-copying, kill-copying, copying-fits}
use Rattle.image_laws.proofs.sharing.copying_fits.Goals as goal

pub returns-clause-put : goal.returns-clause-put
returns-clause-put c = put-copying

pub returns-clause-kill : goal.returns-clause-kill
returns-clause-kill c = kill-copying

pub returns-clause-fits : goal.returns-clause-fits
returns-clause-fits c = copying-fits
