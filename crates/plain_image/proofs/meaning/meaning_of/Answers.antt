use Rattle.std.proofs.Common.{◌∙◌, sym, subst}
use Rattle.image_model.specs.Live.{live_at}
use Rattle.plain_image.specs.Headed.{IsHeads}
use Rattle.plain_image.proofs.Greatest.{table_top, damaged_top}
use Rattle.plain_image.proofs.meaning.meaning_of.Goals as goal

pub returns-clause-table : goal.returns-clause-table
returns-clause-table c =
    let heads : IsHeads c.args.g.now (live_at c.args.g.now c.args.image.now) c.as_slice-2.result.now = subst (IsHeads c.args.g.now (live_at c.args.g.now c.args.image.now)) (sym c.as_slice-2.ensures.value) c.in_ok-heads.ensures in
    c.in_ok-records.ensures ∙ table_top c.args.g.now c.args.image.now c.as_slice-2.result.now c.greatest-top.result heads c.greatest-top.ensures.low c.greatest-top.ensures.above

pub returns-clause-damaged : goal.returns-clause-damaged
returns-clause-damaged c =
    let heads : IsHeads c.args.g.now (live_at c.args.g.now c.args.image.now) c.as_slice-2.result.now = subst (IsHeads c.args.g.now (live_at c.args.g.now c.args.image.now)) (sym c.as_slice-2.ensures.value) c.in_ok-heads.ensures in
    c.in_ok-damages.ensures ∙ damaged_top c.args.g.now c.args.image.now c.as_slice-2.result.now c.greatest-top.result heads c.greatest-top.ensures.low c.greatest-top.ensures.above
