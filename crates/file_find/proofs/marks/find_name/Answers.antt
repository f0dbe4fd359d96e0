use Rattle.flash_view.proofs.Spans.{told_along}
use Rattle.file_find.specs.Marks.{MarkedBelow}
use Rattle.file_find.proofs.Noting.{marked_all, holder_volume}
use Rattle.file_find.proofs.marks.find_name.Goals as goal

pub returns-clause-told : goal.returns-clause-told
returns-clause-told g c = λ tells.
    let view = c.args.v.now in
    let image = g.N.NorState.bytes view.nor.now in
    let marked : MarkedBelow view.geometry image c.args.marks.now c.pages-pages.result = rw c.pages-pages.ensures.count (marked_all view.geometry image c.args.marks.now (c.requires.marked tells)) in
    told_along _ _ _ (c.holder_below.ensures.told tells marked) (holder_volume view.geometry image c.args.name.now c.pages-pages.result c.pages-pages.ensures.count)
