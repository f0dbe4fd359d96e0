use Rattle.page_cache.proofs.Held.{not_held}
use Rattle.page_cache.proofs.frames.holder.Goals as goal

pub returns-in-None-clause-below : goal.returns-in-None-clause-below
returns-in-None-clause-below c =
    let none = not_held c.args.g.now c.args.frames.now c.args.page (c.find.ensures.missing c.in-None.is) in
    let is = c.requires.holds in
    absurd (cc)

pub returns-in-None-clause-page : goal.returns-in-None-clause-page
returns-in-None-clause-page c =
    let none = not_held c.args.g.now c.args.frames.now c.args.page (c.find.ensures.missing c.in-None.is) in
    let is = c.requires.holds in
    absurd (cc)
