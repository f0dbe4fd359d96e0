-- The ids so far.
use Rattle.image_model.specs.Live.{live_at}
use Rattle.plain_image.specs.Leading.{AreFiles}
use Rattle.plain_image.proofs.wholes.file_pages.Given as goal

abbrev pub invariant-loop-id : goal.invariant-loop-id
invariant-loop-id l = AreFiles l.g (live_at l.g l.image) l.id l.files.items
