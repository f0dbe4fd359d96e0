use Rattle.std.proofs.Common.{◌∙◌, IsTrue, false, sym}
use Rattle.plain_image.proofs.Spoiled.{lacks_more, lacks_same, lacks_two}
use Rattle.plain_image.proofs.sound.has_magics.Goals as goal
use Rattle.plain_image.proofs.sound.has_magics.Goals.{then-not-has_magic+in-None, else-not-has_magic}

pub returns-in-Some : goal.returns-in-Some
returns-in-Some c = (
  λ (h : IsTrue false). absurd (cc),
  λ magics. absurd (lacks_two c.args.g.now c.args.image.now c.loop-block.block c.in-Some.field-0 c.loop-block.spoiled c.loop-block.invariant c.in-Some.is c.loop-block-test.true (sym c.has_magic.ensures ∙ c.if-not-has_magic.true) magics),
)

pub loop-block-preserved : goal.loop-block-preserved
loop-block-preserved c =
    elim c.if-not-has_magic.branch [
      | then-not-has_magic+in-None w ↦ lacks_more c.args.g.now c.args.image.now c.loop-block.block c.loop-block.spoiled _ c.loop-block.invariant w.in-None.is (sym c.has_magic.ensures ∙ w.if-not-has_magic.true) w.spoiled-is
      | else-not-has_magic w ↦ lacks_same c.args.g.now c.args.image.now c.loop-block.block c.loop-block.spoiled _ c.loop-block.invariant (sym c.has_magic.ensures ∙ w.if-not-has_magic.false) w.spoiled-is
    ]
