use Rattle.flash_view.proofs.Spans.{told_along}
use Rattle.file_find.proofs.Holders.{cause_broken, cause_doubled, cause_other}
use Rattle.file_find.proofs.marks.damage.Goals as goal

pub returns-then-mark-eq-BROKEN-clause-told : goal.returns-then-mark-eq-BROKEN-clause-told
returns-then-mark-eq-BROKEN-clause-told g c = λ tells.
    let view = c.args.v.now in
    let image = g.N.NorState.bytes view.nor.now in
    told_along _ _ _ (c.judge.ensures.told tells)
    (cause_broken view.geometry image c.args.id c.args.header _ (c.requires.first tells) ((c.requires.marked tells).each c.args.header c.requires.header) c.if-mark-eq-BROKEN.true)

pub returns-then-mark-eq-DOUBLED-clause-told : goal.returns-then-mark-eq-DOUBLED-clause-told
returns-then-mark-eq-DOUBLED-clause-told g c = λ tells.
    let view = c.args.v.now in
    let image = g.N.NorState.bytes view.nor.now in
    told_along _ _ _ (c.same_name.ensures.told tells)
    (cause_doubled view.geometry image c.args.id c.args.header _ (c.requires.first tells) ((c.requires.marked tells).each c.args.header c.requires.header) c.if-mark-eq-DOUBLED.true)

pub returns-clause-told : goal.returns-clause-told
returns-clause-told g c = λ tells.
    let view = c.args.v.now in
    let image = g.N.NorState.bytes view.nor.now in
    cause_other view.geometry image c.args.id c.args.header _ (c.requires.first tells) ((c.requires.marked tells).each c.args.header c.requires.header) c.if-mark-eq-BROKEN.false c.if-mark-eq-DOUBLED.false
