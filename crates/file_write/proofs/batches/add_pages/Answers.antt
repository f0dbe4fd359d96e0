use Rattle.std.proofs.Common.{◌≡◌, ◌+◌, ◌/◌, ℕ, refl, sym, ◌∙◌, ap, subst, length, length-set, arith, rules, Ok, Err, slice_set, slice_index}
use Rattle.geometry.specs.declared.geometry.Geometry.{Geometry}
use Rattle.geometry.specs.Numbers.{body}
use Rattle.renew_laws.specs.Append.{page_part}
use Rattle.flash_view.specs.Steps.{Stepped, stopped}
use Rattle.flash_view.proofs.Looking.{looks_none}
use Rattle.flash_view.proofs.Stepped.{looked, passes, stepped_then, ends_as, weaker}
use Rattle.file_write.specs.Batches.{laying}
use Rattle.file_write.proofs.AppendEnds.{stays}
use Rattle.file_write.proofs.PagesLaid.{laid_none, lay_next, laying_one, set_others, set_same}
use Rattle.file_write.proofs.batches.add_pages.Goals as goal

pub loop-i-init : goal.loop-i-init
loop-i-init g c = record {
  end = refl;
  size = refl;
  geometry = refl;
  few = omega arith;
  below = omega arith;
  step = λ h size f at. looked (looks_none c.args.v.now) (λ e. absurd (cc)) tt (λ tells can. (stays _ _ c.args.id h size c.args.from.now f can, laid_none _ _ c.args.id h size c.args.from.now f c.args.pages.now can));
}

pub add_data-requires-clause-fits : goal.add_data-requires-clause-fits
add_data-requires-clause-fits g c = rw c.loop-i.invariant.geometry c.page_part.ensures.fits

pub returns-in_err-pages-clause-step : goal.returns-in_err-pages-clause-step
returns-in_err-pages-clause-step g c = λ h size f at.
    let so_far = c.loop-i.invariant in
    let pages = c.loop-i.pages in
    let i = c.loop-i.i in
    let same : c.loop-i.v.geometry ≡ c.args.v.now.geometry = so_far.geometry in
    let is : c.from_residual.result ≡ Err c.in_err-pages.field-0.0 = search rules in
    let part : c.page_part.result.now ≡ page_part c.loop-i.v.geometry c.args.from.now i = rw same c.page_part.ensures.part in
    let place : size / body c.loop-i.v.geometry + i ≡ c.args.span + i = rw same (ap (λ (n : ℕ). n + i) at) in
    stepped_then {last = laying_one (g.N.NorState.bytes c.args.v.now.nor.now) c.args.id h size i (length c.args.pages.now) pages pages c.args.from.now f} (so_far.step h size f at)
    (passes {first = _} c.in_err-pages.ensures.step is
    (λ tells laid. let l = lay_next _ _ _ c.args.id h size i _ c.args.from.now c.page_part.result.now f pages laid (rw same (omega (arith, so_far.end, c.loop-i-test.true, c.requires.count))) place part in record { needs = l.0; cut = l.1 }))
    (λ tells can. record { needs = can; cut = λ x cut. cut })
    (λ tells can laid. record { needs = laid; cut = λ x cut. cut; done = λ x ok done. done })

pub loop-i-preserved : goal.loop-i-preserved
loop-i-preserved g c =
    let so_far = c.loop-i.invariant in
    let pages = c.loop-i.pages in
    let i = c.loop-i.i in
    let p = c.in_ok-pages.field-0 in
    let same : c.loop-i.v.geometry ≡ c.args.v.now.geometry = so_far.geometry in
    let part : c.page_part.result.now ≡ page_part c.loop-i.v.geometry c.args.from.now i = rw same c.page_part.ensures.part in
    record {
      end = so_far.end;
      size = length-set pages i p ∙ so_far.size;
      geometry = c.in_ok-pages.ensures.step.framed.same.geometry ∙ so_far.geometry;
      few = omega (arith, so_far.few, c.in_ok-pages.ensures.few);
      below = omega (arith, so_far.end, c.loop-i-test.true);
      step = λ h size f at.
          let place : size / body c.loop-i.v.geometry + i ≡ c.args.span + i = rw same (ap (λ (n : ℕ). n + i) at) in
          stepped_then {last = laying_one (g.N.NorState.bytes c.args.v.now.nor.now) c.args.id h size i (i + 1) pages (slice_set pages i p) c.args.from.now f} (so_far.step h size f at)
          (ends_as c.in_ok-pages.ensures.step
          (λ tells laid. let l = lay_next _ _ _ c.args.id h size i _ c.args.from.now c.page_part.result.now f pages laid (rw same (omega (arith, so_far.end, c.loop-i-test.true, c.requires.count))) place part in record { needs = l.0; cut = l.1 })
          (λ tells laid added. (lay_next _ _ _ c.args.id h size i _ c.args.from.now c.page_part.result.now f pages laid (rw same (omega (arith, so_far.end, c.loop-i-test.true, c.requires.count))) place part).2 _ p (slice_set pages i p) added
          (set_others pages i p) (set_same pages i p (omega (arith, so_far.end, so_far.size, c.loop-i-test.true)))))
          (λ tells can. record { needs = can; cut = λ x cut. cut })
          (λ tells can laid. record { needs = laid; cut = λ x cut. cut; done = λ x ok done. done });
    }

pub returns-clause-step : goal.returns-clause-step
returns-clause-step g c = λ h size f at.
    let so_far = c.loop-i.invariant in
    let all : c.loop-i.i ≡ length c.args.pages.now = omega (arith, so_far.end, so_far.below, c.loop-i-test.false) in
    subst (λ (n : ℕ). Stepped stopped c.args.v.now c.loop-i.v (Ok tt) (laying c.args.id h size n c.loop-i.pages c.args.from.now f)) all (so_far.step h size f at)
