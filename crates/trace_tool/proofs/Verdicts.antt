-- What a verdict is, where that is known.
use Rattle.std.proofs.Common.{◌≡◌, ℕ, ◌+◌, List, [], ◌∷◌, ◌∙◌, ap, inl, inr, ⊎_elim}
use Rattle.std.proofs.lemmas.Bool.{cases_eq}
use Rattle.flash_trace.specs.declared.event.Event.{Event}
use Rattle.flash_trace.specs.declared.verdict.Verdict.{Verdict}
use Rattle.flash_trace.specs.declared.verdict.Verdict.TheVariants.{Legal, Outside, WrongBits, BadCut, TooLarge}
use Rattle.flash_trace.specs.Events.{Standing}
use Rattle.flash_trace.specs.Verdicts.{IsVerdict}

-- one that can't be another than legal is legal
pub legal_by : (v : Verdict) (events replies : ℕ) → ((v ≡ Legal events replies → ⊥) → ⊥) → v ≡ Legal events replies
legal_by (Legal a b) events replies not =
    ⊎_elim
    (λ (same : a ≡ events). ⊎_elim
    (λ (alike : b ≡ replies). ap (λ (k : ℕ). Legal k b) same ∙ ap (Legal events) alike)
    (λ (other : b ≡ replies → ⊥). absurd (not (λ is. other (cc))))
    (cases_eq b replies))
    (λ (other : a ≡ events → ⊥). absurd (not (λ is. other (cc))))
    (cases_eq a events)
legal_by (Outside at) events replies not = absurd (not (λ is. cc))
legal_by (WrongBits at) events replies not = absurd (not (λ is. cc))
legal_by (BadCut at) events replies not = absurd (not (λ is. cc))
legal_by TooLarge events replies not = absurd (not (λ is. cc))

-- where what stands first is none that may stand, that is the verdict
pub bad_first : (P : Standing → Type 0) (count : List ℕ → ℕ) (size unit i : ℕ) (es : List Event) (s : Standing) (v : Verdict) → (P s → ⊥) → IsVerdict P count size unit i es s v → v ≡ BadCut i
unfolding IsVerdict
bad_first P count size unit i [] s v none (inl bad) = bad.1
bad_first P count size unit i [] s v none (inr good) = absurd (none good.0)
bad_first P count size unit i (e ∷ es) s v none (inl bad) = bad.1
bad_first P count size unit i (e ∷ es) s v none (inr good) = absurd (none good.0)
