use Rattle.std.proofs.Common.{◌∙◌, ℕ, ap, sym, arith}
use Rattle.std.specs.Option.{option_map}
use Rattle.flash_view.proofs.Near.{named_all}
use Rattle.flash_view.proofs.view.View.find_header_name.Goals as goal

pub returns-in-Some-clause-told : goal.returns-in-Some-clause-told
returns-in-Some-clause-told g c = λ tells.
    let view = c.args.self.now in
    let image = g.N.NorState.bytes view.nor.now in
    ap (option_map (λ (f : ℕ × ℕ). f.0)) (sym c.in-Some.is ∙ c.in_ok-id.ensures.told tells (omega (arith, c.pages-pages.ensures.count)))
    ∙ named_all view.geometry image c.args.name.now c.pages-pages.result c.pages-pages.ensures.count

pub returns-in-None-clause-told : goal.returns-in-None-clause-told
returns-in-None-clause-told g c = λ tells.
    let view = c.args.self.now in
    let image = g.N.NorState.bytes view.nor.now in
    ap (option_map (λ (f : ℕ × ℕ). f.0)) (sym c.in-None.is ∙ c.in_ok-id.ensures.told tells (omega (arith, c.pages-pages.ensures.count)))
    ∙ named_all view.geometry image c.args.name.now c.pages-pages.result c.pages-pages.ensures.count
