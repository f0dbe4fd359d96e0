use Rattle.std.proofs.Common.{◌∙◌, IsTrue, false, refl, sym, arith}
use Rattle.plain_image.proofs.Mixed.{anew, not_anew}
use Rattle.plain_image.proofs.sound.keeps_mixed.Goals as goal

pub returns-then-is_mixed_anew : goal.returns-then-is_mixed_anew
returns-then-is_mixed_anew c = (
  λ (h : IsTrue false). absurd (cc),
  λ keeps. absurd (anew c.args.g.now c.args.image.now c.args.first.now c.loop-block.block c.loop-block-test.true (sym c.is_mixed_anew.ensures ∙ c.if-is_mixed_anew.true) (keeps c.loop-block.block)),
)

pub returns : goal.returns
returns c = (
  λ h. not_anew c.args.g.now c.args.image.now c.args.first.now (λ block low. c.loop-block.invariant block (omega arith)),
  λ h. refl,
)
