-- The header pages of the pages from `p` on are noted.
use Rattle.image_model.specs.Live.{live_at}
use Rattle.plain_image.specs.Headed.{HeadsFrom}
use Rattle.plain_image.proofs.headers.header_pages.Given as goal

abbrev pub invariant-loop-p : goal.invariant-loop-p
invariant-loop-p l = HeadsFrom l.g (live_at l.g l.image) l.p l.heads.items

abbrev pub decreases-loop-p : goal.decreases-loop-p
decreases-loop-p l = l.p
