use Rattle.std.proofs.Common.{◌∙◌}
use Rattle.page_cache.proofs.Held.{some_holds}
use Rattle.page_cache.proofs.cached.Cached.holds.Goals as goal

pub returns : goal.returns
returns g c = c.is_some.ensures ∙ some_holds c.args.self.now.geometry c.args.self.now.frames.now c.args.page c.find.result c.find.ensures.found c.find.ensures.missing
