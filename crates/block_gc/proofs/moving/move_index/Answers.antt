use Rattle.std.proofs.Common.{◌≡◌, ◌<◌, ⊎_elim, arith}
use Rattle.flash_view.proofs.Stepped.{looked, look_fails, after_look, view_image}
use Rattle.block_gc.proofs.MovedIndexes.{none_cut}
use Rattle.block_gc.proofs.MoveCalls.{id_range}
use Rattle.block_gc.proofs.moving.move_index.Goals as goal

pub returns-in_err-tag-clause-step : goal.returns-in_err-tag-clause-step
returns-in_err-tag-clause-step g c = let seen = c.in_err-tag.ensures in look_fails seen.looks seen.cause c.from_residual.ensures.0 (λ tells can. none_cut _ _ _ _ (view_image c.args.v.now (g.met.N.Nor.sized _) tells) can)

pub returns-then-tag-eq0-clause-step : goal.returns-then-tag-eq0-clause-step
returns-then-tag-eq0-clause-step g c =
    let seen = c.in_ok-tag.ensures in
    looked seen.looks (λ e. absurd (cc)) tt (λ tells can. (
      none_cut _ _ _ _ (view_image c.args.v.now (g.met.N.Nor.sized _) tells) can,
      let range = id_range c.args.v.now.geometry _ c.args.page c.in_ok-tag.tag _ (seen.told tells can.index) in
          absurd (⊎_elim
          (λ (zero : c.in_ok-tag.tag.id ≡ 0). omega (arith, zero, range.0))
          (λ (more : (c.in_ok-tag.tag.id ≡ 0 → ⊥) × (0x7FFE < c.in_ok-tag.tag.id)). omega (arith, more.1, range.1))
          c.then-tag-eq0.either),
    ))

pub returns-clause-step : goal.returns-clause-step
returns-clause-step g c = after_look c.in_ok-tag.ensures.looks c.put_copy.ensures.step (λ tells can. record { needs = can; cut = λ d cut. cut; done = λ d ok done. done })

pub returns-in_err-tag-clause-few : goal.returns-in_err-tag-clause-few
returns-in_err-tag-clause-few g c = omega (arith, c.in_err-tag.ensures.looks.reads.writes)

pub returns-then-tag-eq0-clause-few : goal.returns-then-tag-eq0-clause-few
returns-then-tag-eq0-clause-few g c = omega (arith, c.in_ok-tag.ensures.looks.reads.writes)

pub returns-clause-few : goal.returns-clause-few
returns-clause-few g c = omega (arith, c.in_ok-tag.ensures.looks.reads.writes, c.put_copy.ensures.few)
