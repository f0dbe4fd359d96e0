-- The names of the ids so far are noted.
use Rattle.image_model.specs.Live.{live_at}
use Rattle.image_model.specs.Tables.{has_of}
use Rattle.plain_image.specs.Marked.{AreMarked}
use Rattle.plain_image.proofs.marks.name_marks.Given as goal

abbrev pub invariant-loop-id : goal.invariant-loop-id
invariant-loop-id l = AreMarked (has_of l.g (live_at l.g l.image)) l.id l.marks.items
