use Rattle.std.proofs.Common.{◌≡◌, rules, Err, arith}
use Rattle.flash_view.proofs.Stepped.{passes, stepped_then, fault_as, done_as, view_image}
use Rattle.file_drop.specs.Truncates.{shortened}
use Rattle.page_renew.specs.declared.edits.Edit.TheVariants.{Cut}
use Rattle.page_renew.specs.Renewals.{EditDone}
use Rattle.file_drop.proofs.Truncates.{no_file, renews_first, then_drops, none_more}
use Rattle.file_drop.proofs.truncate.truncate_step.Goals as goal

pub returns-in_err-renew_header-clause-step : goal.returns-in_err-renew_header-clause-step
returns-in_err-renew_header-clause-step g c = λ f.
    let is : c.from_residual.result ≡ Err c.in_err-renew_header.field-0.0 = search rules in
    passes (c.in_err-renew_header.ensures.step (shortened c.args.size f)) is
    (λ tells can. renews_first _ _ _ _ f (view_image c.args.v.now (g.met.N.Nor.sized c.args.v.now.nor.now) tells) can)

pub returns-in-Err-clause-step : goal.returns-in-Err-clause-step
returns-in-Err-clause-step g c = λ f.
    let first = c.in_ok-renew_header.ensures.step (shortened c.args.size f) in
    let same = first.framed.same.geometry in
    fault_as
    (stepped_then first c.in-Err.ensures.step (λ tells can. renews_first _ _ _ _ f (view_image c.args.v.now (g.met.N.Nor.sized c.args.v.now.nor.now) tells) can)
    (λ tells can done. then_drops _ _ _ _ f (view_image c.args.v.now (g.met.N.Nor.sized c.args.v.now.nor.now) tells) can _ (rw same at c.index_pages.ensures) (rw same at c.data_pages.ensures.pages) _ done))

pub returns-in-Ok-clause-step : goal.returns-in-Ok-clause-step
returns-in-Ok-clause-step g c = λ f.
    let first = c.in_ok-renew_header.ensures.step (shortened c.args.size f) in
    let same = first.framed.same.geometry in
    done_as
    (stepped_then first c.in-Ok.ensures.step (λ tells can. renews_first _ _ _ _ f (view_image c.args.v.now (g.met.N.Nor.sized c.args.v.now.nor.now) tells) can)
    (λ tells can done. then_drops _ _ _ _ f (view_image c.args.v.now (g.met.N.Nor.sized c.args.v.now.nor.now) tells) can _ (rw same at c.index_pages.ensures) (rw same at c.data_pages.ensures.pages) _ done))

pub returns-in_err-renew_header-clause-few : goal.returns-in_err-renew_header-clause-few
returns-in_err-renew_header-clause-few g c = λ f tells can. omega (arith, c.in_err-renew_header.ensures.few)

pub returns-in_err-renew_header-clause-most : goal.returns-in_err-renew_header-clause-most
returns-in_err-renew_header-clause-most g c = omega (arith, c.in_err-renew_header.ensures.few)

pub returns-in-Err-clause-few : goal.returns-in-Err-clause-few
returns-in-Err-clause-few g c = λ f tells can.
    let first = c.in_ok-renew_header.ensures.step (shortened c.args.size f) in
    let same = first.framed.same.geometry in
    let image = view_image c.args.v.now (g.met.N.Nor.sized c.args.v.now.nor.now) tells in
    let done : EditDone c.args.v.now.geometry c.args.id (Cut c.args.size) (shortened c.args.size f) (g.N.NorState.bytes c.args.v.now.nor.now) (g.N.NorState.bytes c.renew_header.new.v.nor.now) = first.ends tells (renews_first _ _ _ _ f image can).needs in
    let index = rw same at c.index_pages.ensures in
    let pages = rw same at c.data_pages.ensures.pages in
    let few = rw same at (c.in-Err.ensures.few (first.cuts.cuts.told tells)) in
    let kills = rw (index, pages) at (few (then_drops _ _ _ _ f image can _ index pages _ done).needs) in
    omega (arith, kills, none_more _ _ _ _ f image can _ done, c.in_ok-renew_header.ensures.few)

pub returns-in-Err-clause-most : goal.returns-in-Err-clause-most
returns-in-Err-clause-most g c =
    let most = rw (c.in_ok-renew_header.ensures.step (shortened c.args.size no_file)).framed.same.geometry at c.in-Err.ensures.most in
    omega (arith, most, c.in_ok-renew_header.ensures.few)

pub returns-in-Ok-clause-few : goal.returns-in-Ok-clause-few
returns-in-Ok-clause-few g c = λ f tells can.
    let first = c.in_ok-renew_header.ensures.step (shortened c.args.size f) in
    let same = first.framed.same.geometry in
    let image = view_image c.args.v.now (g.met.N.Nor.sized c.args.v.now.nor.now) tells in
    let done : EditDone c.args.v.now.geometry c.args.id (Cut c.args.size) (shortened c.args.size f) (g.N.NorState.bytes c.args.v.now.nor.now) (g.N.NorState.bytes c.renew_header.new.v.nor.now) = first.ends tells (renews_first _ _ _ _ f image can).needs in
    let index = rw same at c.index_pages.ensures in
    let pages = rw same at c.data_pages.ensures.pages in
    let few = rw same at (c.in-Ok.ensures.few (first.cuts.cuts.told tells)) in
    let kills = rw (index, pages) at (few (then_drops _ _ _ _ f image can _ index pages _ done).needs) in
    omega (arith, kills, none_more _ _ _ _ f image can _ done, c.in_ok-renew_header.ensures.few)

pub returns-in-Ok-clause-most : goal.returns-in-Ok-clause-most
returns-in-Ok-clause-most g c =
    let most = rw (c.in_ok-renew_header.ensures.step (shortened c.args.size no_file)).framed.same.geometry at c.in-Ok.ensures.most in
    omega (arith, most, c.in_ok-renew_header.ensures.few)
