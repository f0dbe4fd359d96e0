use Rattle.page_cache.proofs.Held.{not_held}
use Rattle.page_cache.proofs.through.bring.Goals as goal

pub returns-in-None-clause-hit : goal.returns-in-None-clause-hit
returns-in-None-clause-hit g c holds =
    let none = not_held c.args.g.now c.args.frames.now c.args.page (c.find.ensures.missing c.in-None.is) in
    absurd (cc)
