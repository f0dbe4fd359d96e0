use Rattle.std.proofs.Common.{◌≡◌, List, [], ◌∷◌, length, refl, sym, ◌∙◌, ap, arith}
use Rattle.std.proofs.lemmas.Grind.{common_steps}
use Rattle.image_model.specs.Tidy.{IsTidy}
use Rattle.plain_image.proofs.Clear.{tidy_from, tidy_to}
use Rattle.plain_image.proofs.tidiness.is_tidy.Goals as goal

pub returns-then-spoiled_blocks-gt0 : goal.returns-then-spoiled_blocks-gt0
returns-then-spoiled_blocks-gt0 c = (
  λ h. absurd (grind arith),
  λ (t : IsTidy c.args.g.now c.args.image.now). absurd (let none = (tidy_to c.args.g.now c.args.image.now t).spoiled in grind (arith, none)),
)

pub returns-then-mixed_blocks-gt0 : goal.returns-then-mixed_blocks-gt0
returns-then-mixed_blocks-gt0 c = (
  λ h. absurd (grind arith),
  λ (t : IsTidy c.args.g.now c.args.image.now). absurd (let none = (tidy_to c.args.g.now c.args.image.now t).mixed in grind (arith, none)),
)

pub returns-then-branch-gt0 : goal.returns-then-branch-gt0
returns-then-branch-gt0 c = (
  λ h. absurd (grind arith),
  λ (t : IsTidy c.args.g.now c.args.image.now). absurd (let none = (tidy_to c.args.g.now c.args.image.now t).killed in grind (arith, none)),
)

empty : {A : Type 0} (xs : List A) → length xs ≡ 0 → xs ≡ []
empty [] h = refl
empty (x ∷ xs) h = absurd (omega (arith, h))

pub returns : goal.returns
returns c = (
  λ h. tidy_from c.args.g.now c.args.image.now (record {
    spoiled = grind arith;
    mixed = grind arith;
    killed = grind arith;
    damaged = sym c.in_ok-damaged_of.ensures ∙ empty _ (grind (arith, common_steps));
  }),
  λ (t : IsTidy c.args.g.now c.args.image.now). let none = c.in_ok-damaged_of.ensures ∙ (tidy_to c.args.g.now c.args.image.now t).damaged in let count = ap length none in grind (arith, common_steps, count),
)
