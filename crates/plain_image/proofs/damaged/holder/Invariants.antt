-- The first of the ids so far with the least header page.
use Rattle.geometry.specs.Numbers.{page_count}
use Rattle.image_model.specs.Live.{live_at}
use Rattle.image_model.specs.Tables.{has_of}
use Rattle.plain_image.specs.Leading.{Leads}
use Rattle.plain_image.proofs.damaged.holder.Given as goal

abbrev pub invariant-loop-id : goal.invariant-loop-id
invariant-loop-id l = Leads (has_of l.g (live_at l.g l.image)) (page_count l.g) l.name l.id l.best l.least
