use Rattle.page_cache.proofs.Held.{holds_by}
use Rattle.page_cache.proofs.through.hold_page.Goals as goal

pub returns-in-Ok-clause-holds : goal.returns-in-Ok-clause-holds
returns-in-Ok-clause-holds g c = holds_by c.args.g.now c.bring.new.frames _ c.args.page c.in-Ok.ensures.below c.in-Ok.ensures.number
