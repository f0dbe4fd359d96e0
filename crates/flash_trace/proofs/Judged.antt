-- A trace in which all is right is legal.
use Rattle.std.proofs.Common.{◌≡◌, ℕ, suc, ◌+◌, List, [], ◌∷◌, length, ◌∙◌, ap, subst, arith, inl, inr}
use Rattle.flash_trace.specs.declared.event.Event.{Event}
use Rattle.flash_trace.specs.declared.verdict.Verdict.{Verdict}
use Rattle.flash_trace.specs.declared.verdict.Verdict.TheVariants.{Legal}
use Rattle.flash_trace.specs.Events.{Standing, after_event, after_events, IsInside, EachStands, Fits, AllFit}
use Rattle.flash_trace.specs.Verdicts.{IsVerdict}

pub legal_all : (P : Standing → Type 0) (count : List ℕ → ℕ) (size unit i : ℕ) (es : List Event) (s : Standing) (v : Verdict) → ((e : Event) (b : Standing) → length b.image ≡ size → Fits unit e b → length (after_event unit e b).image ≡ size)
    → length s.image ≡ size → EachStands (λ b. (P b → ⊥) → ⊥) unit es s → AllFit unit es s → IsVerdict P count size unit i es s v → v ≡ Legal (i + length es) (count (after_events unit es s).said)
unfolding IsVerdict EachStands AllFit after_events
legal_all P count size unit i [] s v keeps is each fit (inl bad) = absurd (each bad.0)
legal_all P count size unit i [] s v keeps is each fit (inr good) = let n : i ≡ i + 0 = omega arith in good.1 ∙ ap (λ (k : ℕ). Legal k (count s.said)) n
legal_all P count size unit i (e ∷ es) s v keeps is each fit (inl bad) = absurd (each.0 bad.0)
legal_all P count size unit i (e ∷ es) s v keeps is each fit (inr (good, inl out)) = absurd (out.0 (subst (λ (n : ℕ). IsInside n unit e) is fit.0.0))
legal_all P count size unit i (e ∷ es) s v keeps is each fit (inr (good, inr (within, inl wrong))) = absurd (wrong.0 fit.0.1)
legal_all P count size unit i (e ∷ es) s v keeps is each fit (inr (good, inr (within, inr (bits, later)))) =
    let n : i + 1 + length es ≡ i + suc (length es) = omega arith in
    legal_all P count size unit (i + 1) es (after_event unit e s) v keeps (keeps e s is fit.0) each.1 fit.1 later ∙ ap (λ (k : ℕ). Legal k (count (after_events unit es (after_event unit e s)).said)) n
