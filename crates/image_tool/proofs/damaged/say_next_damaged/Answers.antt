use Rattle.std.proofs.Common.{◌∙◌, sym, ap, ℕ, Option}
use Rattle.image_model.specs.declared.damage.Damage.{Damage}
use Rattle.image_tool.specs.Texts.{damage_line, line_if}
use Rattle.image_tool.proofs.Speaking.{says_after, says_same}
use Rattle.flash_view.proofs.Looking.{same_then}
use Rattle.image_tool.proofs.damaged.say_next_damaged.Goals as goal

pub returns-in_err-say_damaged-clause-says : goal.returns-in_err-say_damaged-clause-says
returns-in_err-say_damaged-clause-says g c =
    says_same (damage_line c.in-Some.id c.in-Some.cause) _ (λ tells. ap (λ (o : Option (ℕ × Damage)). line_if (λ (d : ℕ × Damage). damage_line d.0 d.1) o) (sym c.in-Some.is ∙ c.in_ok-id.ensures.told tells)) (says_after c.next_damaged.ensures.looks.reads c.say_damaged.ensures.says)

pub returns-clause-says : goal.returns-clause-says
returns-clause-says g c =
    says_same (damage_line c.in-Some.id c.in-Some.cause) _ (λ tells. ap (λ (o : Option (ℕ × Damage)). line_if (λ (d : ℕ × Damage). damage_line d.0 d.1) o) (sym c.in-Some.is ∙ c.in_ok-id.ensures.told tells)) (says_after c.next_damaged.ensures.looks.reads c.say_damaged.ensures.says)

pub returns-clause-same : goal.returns-clause-same
returns-clause-same g c = same_then c.next_damaged.ensures.looks.same c.say_damaged.ensures.same
