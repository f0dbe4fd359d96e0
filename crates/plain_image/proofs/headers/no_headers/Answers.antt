use Rattle.std.proofs.Common.{◌≡◌, ◌∙◌, ◌++◌, ◌∷◌, [], List, ap, None, Option, ℕ, arith}
use Rattle.std.proofs.lemmas.Grind.{common_steps}
use Rattle.std.proofs.lemmas.List.{replicate-append-replicate}
use Rattle.plain_image.proofs.headers.no_headers.Goals as goal

pub loop-i-preserved : goal.loop-i-preserved
loop-i-preserved c =
    let pushed : c.push.new.self.items ≡ c.loop-i.heads.items ++ None ∷ [] = grind (arith, common_steps) in
    pushed ∙ ap (λ (xs : List (Option ℕ)). xs ++ None ∷ []) c.loop-i.invariant ∙ replicate-append-replicate {A = Option ℕ} c.loop-i._i 1 None
