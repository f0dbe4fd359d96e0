use Rattle.std.proofs.Common.{◌≡◌, rules, Err, arith}
use Rattle.std.specs.Prelude.{length}
use Rattle.table_model.specs.Files.{written}
use Rattle.flash_view.proofs.Stepped.{passes, stepped_then}
use Rattle.file_write.specs.Appends.{indexing_data}
use Rattle.file_write.proofs.AfterIndex.{index_starts, index_goes, index_begins, indexed_ends, further_some}
use Rattle.file_write.proofs.further.append_first.Goals as goal

pub add_index-requires-clause-some : goal.add_index-requires-clause-some
add_index-requires-clause-some g c = rw c.index_span-further.ensures (further_some c.args.v.now.geometry c.args.span c.requires.far)

pub returns-in_err-page-clause-step : goal.returns-in_err-page-clause-step
returns-in_err-page-clause-step g c = λ f.
    let is : c.from_residual.result ≡ Err c.in_err-page.field-0.0 = search rules in
    passes c.in_err-page.ensures.step is (λ tells can. let b = index_starts c.args.v.now.geometry _ c.args.id c.args.found.header c.args.found.size c.args.span c.index_span-further.result 0 c.args.end c.args.from.now f can c.requires.span c.requires.whole c.requires.far c.requires.first c.index_span-further.ensures c.requires.end.0 in record { needs = b.needs; cut = b.cut })

pub returns-in_err-add_index-clause-step : goal.returns-in_err-add_index-clause-step
returns-in_err-add_index-clause-step g c = λ f.
    let p = c.in_ok-page.page in
    let is : c.from_residual-in_err-add_index.result ≡ Err c.in_err-add_index.field-0.0 = search rules in
    passes
    (stepped_then {whole = indexing_data c.args.id c.args.found.header c.args.found.size c.args.span c.index_span-further.result p c.args.from.now f} c.in_ok-page.ensures.step c.in_err-add_index.ensures.step
    (λ tells can. index_starts c.args.v.now.geometry _ c.args.id c.args.found.header c.args.found.size c.args.span c.index_span-further.result p c.args.end c.args.from.now f can c.requires.span c.requires.whole c.requires.far c.requires.first c.index_span-further.ensures c.requires.end.0)
    (λ tells can added. index_goes c.args.v.now.geometry _ c.args.id c.args.found.header c.args.found.size c.args.span c.index_span-further.result p c.args.end c.args.from.now f can c.requires.span c.requires.whole c.requires.far c.requires.first c.index_span-further.ensures c.requires.end.0 _ added))
    is
    (λ tells can. index_begins c.args.v.now.geometry _ c.args.id c.args.found.header c.args.found.size c.args.span c.index_span-further.result p c.args.end c.args.from.now f can c.requires.span c.requires.whole c.requires.far c.requires.first c.index_span-further.ensures c.requires.end.0)

pub returns-clause-step : goal.returns-clause-step
returns-clause-step g c = λ f.
    let p = c.in_ok-page.page in
    stepped_then
    (stepped_then {whole = indexing_data c.args.id c.args.found.header c.args.found.size c.args.span c.index_span-further.result p c.args.from.now f} c.in_ok-page.ensures.step c.in_ok-add_index.ensures.step
    (λ tells can. index_starts c.args.v.now.geometry _ c.args.id c.args.found.header c.args.found.size c.args.span c.index_span-further.result p c.args.end c.args.from.now f can c.requires.span c.requires.whole c.requires.far c.requires.first c.index_span-further.ensures c.requires.end.0)
    (λ tells can added. index_goes c.args.v.now.geometry _ c.args.id c.args.found.header c.args.found.size c.args.span c.index_span-further.result p c.args.end c.args.from.now f can c.requires.span c.requires.whole c.requires.far c.requires.first c.index_span-further.ensures c.requires.end.0 _ added))
    (c.renew_from.ensures.step (written (length f.bytes) c.args.from.now f))
    (λ tells can. index_begins c.args.v.now.geometry _ c.args.id c.args.found.header c.args.found.size c.args.span c.index_span-further.result p c.args.end c.args.from.now f can c.requires.span c.requires.whole c.requires.far c.requires.first c.index_span-further.ensures c.requires.end.0)
    (λ tells can done. indexed_ends c.args.v.now.geometry _ c.args.id c.args.found.header c.args.found.size c.args.span c.index_span-further.result p c.args.end c.args.from.now f can c.requires.span c.requires.whole c.requires.far c.requires.first c.index_span-further.ensures c.requires.end.0 _ _ done)

pub returns-in_err-page-clause-few : goal.returns-in_err-page-clause-few
returns-in_err-page-clause-few g c = omega (arith, c.in_err-page.ensures.few)

pub returns-in_err-add_index-clause-few : goal.returns-in_err-add_index-clause-few
returns-in_err-add_index-clause-few g c = omega (arith, c.in_ok-page.ensures.few, c.in_err-add_index.ensures.few)

pub returns-clause-few : goal.returns-clause-few
returns-clause-few g c = omega (arith, c.in_ok-page.ensures.few, c.in_ok-add_index.ensures.few, c.renew_from.ensures.few)
