-- What was said before an event of a trace is a front of what was said in the end.
use Rattle.std.proofs.Common.{◌≡◌, ℕ, List, [], ◌∷◌, ◌++◌, refl, sym, ◌∙◌, ap, append_assoc, append-nil}
use Rattle.flash_trace.specs.declared.event.Event.{Event}
use Rattle.flash_trace.specs.declared.event.Event.TheVariants.{Program, Erase, Say}
use Rattle.flash_trace.specs.Events.{Standing, said_after, after_event, after_events, EachStands}

-- these bytes begin with those
pub record GoesOn (before after : List ℕ) : Type 0 where
  pub more : List ℕ
  pub is : after ≡ before ++ more

goes_on-same : (l : List ℕ) → GoesOn l l
goes_on-same l = record { more = []; is = sym (append-nil l) }

goes_on-on : (a b c : List ℕ) → GoesOn a b → GoesOn b c → GoesOn a c
goes_on-on a b c x y = record { more = x.more ++ y.more; is = y.is ∙ ap (λ (l : List ℕ). l ++ y.more) x.is ∙ append_assoc a x.more y.more }

goes_on-event : (e : Event) (said : List ℕ) → GoesOn said (said_after e said)
unfolding said_after
goes_on-event (Program at asked got) said = goes_on-same said
goes_on-event (Erase unit_ix) said = goes_on-same said
goes_on-event (Say piece) said = record { more = piece.bytes.items; is = refl }

front_of_all : (unit : ℕ) (es : List Event) (s : Standing) → GoesOn s.said (after_events unit es s).said
unfolding after_events
front_of_all unit [] s = goes_on-same s.said
front_of_all unit (e ∷ es) s = goes_on-on s.said (said_after e s.said) (after_events unit es (after_event unit e s)).said (goes_on-event e s.said) (front_of_all unit es (after_event unit e s))

pub each_is_front : (unit : ℕ) (es : List Event) (s : Standing) → EachStands (λ b. GoesOn b.said (after_events unit es s).said) unit es s
unfolding after_events EachStands
each_is_front unit [] s = goes_on-same s.said
each_is_front unit (e ∷ es) s = (front_of_all unit (e ∷ es) s, each_is_front unit es (after_event unit e s))

-- two properties of what stands are one
pub each_both : (P Q : Standing → Type 0) (unit : ℕ) (es : List Event) (s : Standing) → EachStands P unit es s → EachStands Q unit es s → EachStands (λ b. P b × Q b) unit es s
unfolding EachStands
each_both P Q unit [] s p q = (p, q)
each_both P Q unit (e ∷ es) s p q = ((p.0, q.0), each_both P Q unit es (after_event unit e s) p.1 q.1)
