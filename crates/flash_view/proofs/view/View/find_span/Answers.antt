use Rattle.std.proofs.Common.{arith}
use Rattle.image_model.specs.Live.{live_at, own}
use Rattle.flash_view.proofs.Spans.{told_along}
use Rattle.flash_view.proofs.Near.{between_all}
use Rattle.flash_view.proofs.view.View.find_span.Goals as goal

pub returns-clause-told : goal.returns-clause-told
returns-clause-told g c = λ tells.
    let view = c.args.self.now in
    let image = g.N.NorState.bytes view.nor.now in
    told_along _ _ _ (c.span_between.ensures.told tells (omega (arith, c.pages-pages.ensures.count))) (between_all view.geometry (own (live_at view.geometry image) c.args.id) c.args.span c.pages-pages.result c.pages-pages.ensures.count)
