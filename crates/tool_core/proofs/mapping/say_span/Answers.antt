use Rattle.std.proofs.Common.{◌≡◌, ◌∙◌, sym, rules, Err}
use Rattle.tool_core.specs.Mapping.{page_line}
use Rattle.tool_core.proofs.MapSays.{untold_span, ended_span, said_span, broken_span}
use Rattle.tool_core.proofs.mapping.say_span.Goals as goal

pub returns-in-None-clause-says : goal.returns-in-None-clause-says
returns-in-None-clause-says g c = λ id count pages. untold_span c.args.volume.now c.args.span c.requires pages (sym c.map_page.ensures.number ∙ c.in-None.is)

pub returns-then-page-clause-says : goal.returns-then-page-clause-says
returns-then-page-clause-says g c = λ id count pages. ended_span c.args.volume.now c.args.span c.in-Some.page pages (sym c.map_page.ensures.number ∙ c.in-Some.is) c.if-page.true

pub returns-clause-says : goal.returns-clause-says
returns-clause-says g c = λ id count pages.
    let page = c.in-Some.page in
    let line : c.as_slice.result.now ≡ page_line c.args.span page = c.as_slice.ensures.value ∙ c.span_line.ensures in
    said_span c.args.span page c.requires pages (sym c.map_page.ensures.number ∙ c.in-Some.is) c.if-page.false line c.say.ensures.says c.say.ensures.cuts c.in_ok-say.ensures.done c.say.ensures.same.geometry c.say.ensures.map

pub returns-in_err-say-clause-says : goal.returns-in_err-say-clause-says
returns-in_err-say-clause-says g c =
    let is : c.from_residual.result ≡ Err c.in_err-say.field-0.0 = search rules in
    rw is (λ id count pages.
    let page = c.in-Some.page in
    let line : c.as_slice.result.now ≡ page_line c.args.span page = c.as_slice.ensures.value ∙ c.span_line.ensures in
    broken_span c.args.span page _ c.requires pages (sym c.map_page.ensures.number ∙ c.in-Some.is) c.if-page.false line c.say.ensures.says c.say.ensures.cuts)
