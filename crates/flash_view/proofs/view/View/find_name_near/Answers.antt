use Rattle.std.proofs.Common.{◌≡◌, ◌∙◌, ℕ, ap, sym, arith, min, None}
use Rattle.std.specs.Option.{option_map}
use Rattle.geometry.specs.Numbers.{page_count}
use Rattle.image_model.specs.Places.{IsImage}
use Rattle.flash_view.specs.Found.{named_between}
use Rattle.flash_view.proofs.Spans.{told_along, told_made}
use Rattle.flash_view.proofs.Near.{named_near_first, named_near_below}
use Rattle.flash_view.proofs.OneName.{named_tidy}
use Rattle.flash_view.proofs.view.View.find_name_near.Goals as goal

pub returns-in-Some-clause-any : goal.returns-in-Some-clause-any
returns-in-Some-clause-any g c = λ tells.
    let view = c.args.self.now in
    let image = g.N.NorState.bytes view.nor.now in
    let from : c.min-from.result ≡ min c.args.near (page_count view.geometry) = omega (arith, c.min-from.ensures, c.from.ensures, c.pages-pages.ensures.count) in
    let found = rw c.pages-pages.ensures.count at (c.in_ok-found.ensures.told tells (omega (arith, c.pages-pages.ensures.count))) in
    named_near_first view.geometry image c.args.name.now c.args.near c.min-from.result c.in-Some.found from (sym c.in-Some.is ∙ found)

pub returns-in-None-clause-any : goal.returns-in-None-clause-any
returns-in-None-clause-any g c = λ tells.
    let view = c.args.self.now in
    let image = g.N.NorState.bytes view.nor.now in
    let first = c.in_ok-found.ensures in
    let from : c.min-from.result ≡ min c.args.near (page_count view.geometry) = omega (arith, c.min-from.ensures, c.from.ensures, c.pages-pages.ensures.count) in
    let none : None ≡ named_between view.geometry image c.args.name.now c.min-from.result (page_count view.geometry) = rw c.pages-pages.ensures.count at (sym c.in-None.is ∙ first.told tells (omega (arith, c.pages-pages.ensures.count))) in
    let rest = rw (first.looks.same.geometry, first.looks.reads.bytes) at (c.named_between-in-None.ensures.told (first.looks.reads.told tells)) in
    told_along _ _ _ (rest (omega (arith, from))) (named_near_below view.geometry image c.args.name.now c.args.near c.min-from.result from none)

pub returns-in-Some-clause-told : goal.returns-in-Some-clause-told
returns-in-Some-clause-told g c = λ tells tidy.
    let view = c.args.self.now in
    let image = g.N.NorState.bytes view.nor.now in
    let size = g.met.N.Nor.sized view.nor.now tells in
    let whole : IsImage view.geometry image = record { len = omega (arith, size, view.volume) } in
    ap (option_map (λ (f : ℕ × ℕ). f.0)) (returns-in-Some-clause-any g c tells) ∙ named_tidy view.geometry image whole tidy c.args.name.now c.args.near

pub returns-in-None-clause-told : goal.returns-in-None-clause-told
returns-in-None-clause-told g c = λ tells tidy.
    let view = c.args.self.now in
    let image = g.N.NorState.bytes view.nor.now in
    let size = g.met.N.Nor.sized view.nor.now tells in
    let whole : IsImage view.geometry image = record { len = omega (arith, size, view.volume) } in
    told_made (option_map (λ (f : ℕ × ℕ). f.0)) _ _ _ (returns-in-None-clause-any g c tells) (named_tidy view.geometry image whole tidy c.args.name.now c.args.near)
