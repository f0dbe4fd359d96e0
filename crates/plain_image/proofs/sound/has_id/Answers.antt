use Rattle.std.proofs.Common.{IsTrue, false, arith}
use Rattle.image_model.specs.declared.damage.Damage.TheVariants.{BadName}
use Rattle.plain_image.proofs.Named.{contained}
use Rattle.plain_image.proofs.sound.has_id.Goals as goal

pub returns : goal.returns
returns c = (
  λ (h : IsTrue false). absurd (cc),
  λ there. absurd (let w = contained (λ d. d.0) c.args.damaged.now c.args.id (0, BadName) there in c.loop-d.invariant w.0 (0, BadName) (omega (arith, w.1)) w.2),
)
