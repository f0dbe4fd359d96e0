use Rattle.std.proofs.Common.{arith}
use Rattle.geometry.specs.Numbers.{page_count, per_block}
use Rattle.flash_view.proofs.Looking.{looks_none}
use Rattle.flash_view.proofs.Stepped.{view_image}
use Rattle.vol_check.proofs.Working.{look_works, works_as, works_end, works_stop}
use Rattle.vol_check.proofs.Passing.{from_bool_is}
use Rattle.vol_check.proofs.Staged.{may_clean_on, cleaning_start, cleaning_next, cleaning_end}
use Rattle.vol_check.proofs.entries.clean_entries.Goals as goal

pub loop-page-init : goal.loop-page-init
loop-page-init g c = record { end = c.pages-page-end.ensures.count; few = omega arith; work = look_works (looks_none c.args.v.now) (λ tells magics need. cleaning_start _ _ (view_image c.args.v.now (g.met.N.Nor.sized _) tells) magics) }

pub clean_entry-requires : goal.clean_entry-requires
clean_entry-requires g c = let was = c.loop-page.invariant in rw was.work.step.framed.same.geometry (omega (arith, was.end, c.loop-page-test.true))

pub returns-in_err-clean_entry-clause-work : goal.returns-in_err-clean_entry-clause-work
returns-in_err-clean_entry-clause-work g c =
    works_stop c.loop-page.invariant.work c.in_err-clean_entry.ensures c.from_residual.ensures.0 (λ tells magics need. record { needs = need; idle = λ quiet. quiet }) (λ tells magics need was. record { needs = may_clean_on _ _ _ _ need was.kills; idle = λ quiet. quiet c.loop-page.page })

pub loop-page-preserved : goal.loop-page-preserved
loop-page-preserved g c =
    let was = c.loop-page.invariant in
    let more = from_bool_is c.in_ok-clean_entry.field-0 in
    record {
      end = was.end;
      few = omega (arith, more.1, was.few, c.from.ensures);
      work = works_end was.work c.in_ok-clean_entry.ensures (λ tells magics need. record { needs = need; idle = λ quiet. quiet }) (λ tells magics need before. record { needs = may_clean_on _ _ _ _ need before.kills; idle = λ quiet. quiet c.loop-page.page })
          (λ tells magics need before kept turn. cleaning_next _ _ _ _ _ _ _ _ before turn (omega (arith, more.0, c.from.ensures)));
    }

pub returns-clause-work : goal.returns-clause-work
unfolding page_count per_block
returns-clause-work g c =
    let was = c.loop-page.invariant in
    works_as was.work (λ tells magics need. record { needs = need; idle = λ quiet. quiet }) (λ tells magics need kept all. cleaning_end _ _ _ _ _ (omega (arith, was.end, c.loop-page-test.false)) all)
