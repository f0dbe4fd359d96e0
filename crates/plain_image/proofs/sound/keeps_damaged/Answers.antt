use Rattle.std.proofs.Common.{ℕ, map, refl, subst, arith}
use Rattle.std.specs.List.{Contains}
use Rattle.image_model.specs.declared.damage.Damage.TheVariants.{BadName}
use Rattle.plain_image.proofs.Named.{contained, contains_more}
use Rattle.plain_image.proofs.sound.keeps_damaged.Goals as goal

pub loop-d-preserved : goal.loop-d-preserved
loop-d-preserved c = contains_more (λ d. d.0) c.args.damaged.now (map (λ d. d.0) c.args.first.now) c.loop-d.d-index _ c.loop-d-test.true c.loop-d.invariant (c.has_id.ensures.0 c.if-not-has_id.false)

pub returns : goal.returns
returns c = (
  λ h id there.
      let w = contained (λ d. d.0) c.args.damaged.now id (0, BadName) there in
      subst (λ (n : ℕ). Contains (map (λ d. d.0) c.args.first.now) n) w.2 (c.loop-d.invariant w.0 (0, BadName) (omega (arith, w.1))),
  λ h. refl,
)
