use Rattle.std.proofs.Common.{refl}
use Rattle.meta_tally.proofs.Tallies.{noted_nothing, tally_nothing, unmarked_alike}
use Rattle.meta_tally.proofs.tally.count_page.Goals as goal

pub returns-in-None-clause-noted : goal.returns-in-None-clause-noted
returns-in-None-clause-noted c = noted_nothing c.args.g.now c.args.image.now c.args.p c.args.names.now (c.in-None.ensures.none refl) c.requires.noted

pub returns-in-None-clause-tallied : goal.returns-in-None-clause-tallied
returns-in-None-clause-tallied c =
    tally_nothing c.args.g.now c.args.image.now c.args.p c.args.whole.now c.requires.page (unmarked_alike c.args.g.now c.args.image.now c.args.p (c.in-None.ensures.none refl)) c.requires.tallied
