use Rattle.std.proofs.Common.{ℕ, ◌≡◌, ◌<◌, ◌≤◌, subst, arith, ⊎_elim}
use Rattle.std.proofs.lemmas.Bool.{cases_lt}
use Rattle.volume_detect.specs.Rests.{IsRestBy}
use Rattle.volume_detect.proofs.rests.is_rest.Goals as goal

pub loop-more-preserved : goal.loop-more-preserved
loop-more-preserved c =
    let was = c.loop-more.invariant in
    record {
      end = was.end;
      some = omega (arith, was.some);
      none = λ k some low rest. ⊎_elim
          (λ (below : k < c.loop-more.more). was.none k some below rest)
          (λ (above : c.loop-more.more ≤ k).
          let same : k ≡ c.loop-more.more = omega (arith, low, above) in
          c.is_rest_by.ensures.none c.if-is_rest_by.false (subst (λ (x : ℕ). IsRestBy c.args.words.now c.args.first c.args.step c.args.g.now x) same rest))
          (cases_lt k c.loop-more.more);
    }

pub returns-clause-none : goal.returns-clause-none
returns-clause-none c = λ no near. c.loop-more.invariant.none near.0 near.1 (omega (arith, near.2, c.loop-more-test.false, c.loop-more.invariant.end)) near.3
