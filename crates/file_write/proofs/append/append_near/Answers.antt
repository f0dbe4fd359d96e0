use Rattle.std.proofs.Common.{◌≡◌, ℕ, ◌<◌, ◌≤◌, ◌+◌, ◌/◌, refl, sym, ◌∙◌, subst, ap, [], ◌∷◌, rules, Err, arith}
use Rattle.std.proofs.lemmas.List.{length-take-le}
use Rattle.std.specs.Prelude.{length}
use Rattle.geometry.specs.Numbers.{head_slots, body}
use Rattle.table_model.specs.Files.{written}
use Rattle.flash_view.proofs.Stepped.{passes, stepped_then}
use Rattle.file_write.specs.Batches.{laying}
use Rattle.file_write.proofs.Sizes.{near_few}
use Rattle.file_write.proofs.LaidEnds.{laid_ends}
use Rattle.file_write.proofs.append.append_near.Goals as goal

pub slice_bounds-room-end : goal.slice_bounds-room-end
slice_bounds-room-end g c = let few = near_few c.args.v.now.geometry c.args.span (length c.args.from.now) c.requires.near c.requires.fits in omega (arith, few.0, c.data_pages-count.ensures.pages)

pub slice_bounds-pages-end : goal.slice_bounds-pages-end
slice_bounds-pages-end g c =
    let few = near_few c.args.v.now.geometry c.args.span (length c.args.from.now) c.requires.near c.requires.fits in
    sym (length-take-le c.data_pages-count.result _ (omega (arith, few.0, c.data_pages-count.ensures.pages)))

pub add_pages-requires-clause-count : goal.add_pages-requires-clause-count
add_pages-requires-clause-count g c =
    let few = near_few c.args.v.now.geometry c.args.span (length c.args.from.now) c.requires.near c.requires.fits in
    length-take-le c.data_pages-count.result _ (omega (arith, few.0, c.data_pages-count.ensures.pages)) ∙ c.data_pages-count.ensures.pages

pub renew_from-requires-clause-header : goal.renew_from-requires-clause-header
renew_from-requires-clause-header g c = rw c.in_ok-add_pages.ensures.same c.requires.header

pub returns-in_err-add_pages-clause-step : goal.returns-in_err-add_pages-clause-step
returns-in_err-add_pages-clause-step g c = λ f.
    let is : c.from_residual.result ≡ Err c.in_err-add_pages.field-0.0 = search rules in
    passes (c.in_err-add_pages.ensures.step c.args.found.header c.args.found.size f (sym c.requires.span)) is (λ tells can. record { needs = can; cut = λ x cut. cut })

pub returns-in_err-add_pages-clause-few : goal.returns-in_err-add_pages-clause-few
returns-in_err-add_pages-clause-few g c =
    let few = near_few c.args.v.now.geometry c.args.span (length c.args.from.now) c.requires.near c.requires.fits in
    let all = length-take-le {A = ℕ} c.data_pages-count.result (0 ∷ 0 ∷ 0 ∷ 0 ∷ 0 ∷ 0 ∷ 0 ∷ 0 ∷ 0 ∷ 0 ∷ 0 ∷ 0 ∷ 0 ∷ 0 ∷ 0 ∷ 0 ∷ []) (omega (arith, few.0, c.data_pages-count.ensures.pages)) ∙ c.data_pages-count.ensures.pages in
    omega (arith, all, c.in_err-add_pages.ensures.few)

pub returns-clause-few : goal.returns-clause-few
returns-clause-few g c =
    let few = near_few c.args.v.now.geometry c.args.span (length c.args.from.now) c.requires.near c.requires.fits in
    let all = length-take-le {A = ℕ} c.data_pages-count.result (0 ∷ 0 ∷ 0 ∷ 0 ∷ 0 ∷ 0 ∷ 0 ∷ 0 ∷ 0 ∷ 0 ∷ 0 ∷ 0 ∷ 0 ∷ 0 ∷ 0 ∷ 0 ∷ []) (omega (arith, few.0, c.data_pages-count.ensures.pages)) ∙ c.data_pages-count.ensures.pages in
    omega (arith, all, c.in_ok-add_pages.ensures.few, c.renew_from.ensures.few)

pub returns-clause-step : goal.returns-clause-step
returns-clause-step g c = λ f.
    let few = near_few c.args.v.now.geometry c.args.span (length c.args.from.now) c.requires.near c.requires.fits in
    let taken = length-take-le c.data_pages-count.result (0 ∷ 0 ∷ 0 ∷ 0 ∷ 0 ∷ 0 ∷ 0 ∷ 0 ∷ 0 ∷ 0 ∷ 0 ∷ 0 ∷ 0 ∷ 0 ∷ 0 ∷ 0 ∷ []) (omega (arith, few.0, c.data_pages-count.ensures.pages)) in
    let all = taken ∙ c.data_pages-count.ensures.pages in
    stepped_then (c.in_ok-add_pages.ensures.step c.args.found.header c.args.found.size f (sym c.requires.span)) (c.renew_from.ensures.step (written (length f.bytes) c.args.from.now f))
    (λ tells can. record { needs = can; cut = λ x cut. cut })
    (λ tells can laid. laid_ends _ _ _ c.args.id c.args.found.header c.args.found.size c.args.from.now f _ _ laid all c.in_ok-add_pages.ensures.size c.requires.whole (omega (arith, few.1, all, c.requires.span)) c.args.end c.requires.end.0)
