use Rattle.std.proofs.Common.{◌≡◌, ◌∙◌, sym, arith, min, None}
use Rattle.geometry.specs.Numbers.{page_count}
use Rattle.image_model.specs.Places.{IsImage}
use Rattle.image_model.specs.Live.{live_at, own}
use Rattle.flash_view.specs.Found.{index_between}
use Rattle.flash_view.proofs.Spans.{told_along}
use Rattle.flash_view.proofs.Near.{near_first, near_below}
use Rattle.flash_view.proofs.OneIndex.{near_tidy}
use Rattle.flash_view.proofs.view.View.find_near.Goals as goal

pub returns-in-Some-clause-any : goal.returns-in-Some-clause-any
returns-in-Some-clause-any g c = λ tells.
    let view = c.args.self.now in
    let image = g.N.NorState.bytes view.nor.now in
    let from : c.min-from.result ≡ min c.args.near (page_count view.geometry) = omega (arith, c.min-from.ensures, c.from.ensures, c.pages-pages.ensures.count) in
    let found = rw c.pages-pages.ensures.count at (c.in_ok-page.ensures.told tells (omega (arith, c.pages-pages.ensures.count))) in
    near_first view.geometry (own (live_at view.geometry image) c.args.id) c.args.span c.args.near c.min-from.result c.in-Some.page from (sym c.in-Some.is ∙ found)

pub returns-in-None-clause-any : goal.returns-in-None-clause-any
returns-in-None-clause-any g c = λ tells.
    let view = c.args.self.now in
    let image = g.N.NorState.bytes view.nor.now in
    let first = c.in_ok-page.ensures in
    let from : c.min-from.result ≡ min c.args.near (page_count view.geometry) = omega (arith, c.min-from.ensures, c.from.ensures, c.pages-pages.ensures.count) in
    let none : None ≡ index_between (own (live_at view.geometry image) c.args.id) c.args.span c.min-from.result (page_count view.geometry) = rw c.pages-pages.ensures.count at (sym c.in-None.is ∙ first.told tells (omega (arith, c.pages-pages.ensures.count))) in
    let rest = rw (first.looks.same.geometry, first.looks.reads.bytes) at (c.span_between-in-None.ensures.told (first.looks.reads.told tells)) in
    told_along _ _ _ (rest (omega (arith, from))) (near_below view.geometry (own (live_at view.geometry image) c.args.id) c.args.span c.args.near c.min-from.result from none)

pub returns-in-Some-clause-told : goal.returns-in-Some-clause-told
returns-in-Some-clause-told g c = λ tells tidy.
    let view = c.args.self.now in
    let image = g.N.NorState.bytes view.nor.now in
    let size = g.met.N.Nor.sized view.nor.now tells in
    let whole : IsImage view.geometry image = record { len = omega (arith, size, view.volume) } in
    returns-in-Some-clause-any g c tells ∙ near_tidy view.geometry image whole tidy c.args.id c.args.span c.args.near

pub returns-in-None-clause-told : goal.returns-in-None-clause-told
returns-in-None-clause-told g c = λ tells tidy.
    let view = c.args.self.now in
    let image = g.N.NorState.bytes view.nor.now in
    let size = g.met.N.Nor.sized view.nor.now tells in
    let whole : IsImage view.geometry image = record { len = omega (arith, size, view.volume) } in
    told_along _ _ _ (returns-in-None-clause-any g c tells) (near_tidy view.geometry image whole tidy c.args.id c.args.span c.args.near)
