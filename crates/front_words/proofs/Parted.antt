-- The first part of a line.
use Rattle.std.proofs.Common.{◌≡◌, ℕ, ◌≤◌, List, [], ◌∷◌, length, get_or, drop, map, Bool, false, refl, ap, ◌∙◌, arith}
use Rattle.front_words.specs.declared.option.Slot.TheVariants.{NoValue}
use Rattle.front_words.specs.Tokens.{Sort, Plain, Ends, Holds, Takes, InPlace, Chose, sort, parts, ended_parts, rest_parts, sorted_parts}

-- a line begins with its first word
pub parts_first : (w : List ℕ) (ws : List (List ℕ)) → parts (w ∷ ws) ≡ sorted_parts (sort w) w ws
parts_first w [] = elim (sort w) as (λ s. elim s [ Plain ↦ InPlace w ∷ [] | Ends ↦ [] | Holds slot text ↦ Chose slot text ∷ [] | Takes slot ↦ Chose NoValue w ∷ [] ] ≡ sorted_parts s w []) [ Plain ↦ refl | Ends ↦ refl | Holds slot text ↦ refl | Takes slot ↦ refl ]
parts_first w (v ∷ ws) = elim (sort w) as (λ s. elim s [ Plain ↦ InPlace w ∷ parts (v ∷ ws) | Ends ↦ ended_parts (v ∷ ws) | Holds slot text ↦ Chose slot text ∷ parts (v ∷ ws) | Takes slot ↦ Chose slot v ∷ parts ws ] ≡ sorted_parts s w (v ∷ ws)) [ Plain ↦ refl | Ends ↦ refl | Holds slot text ↦ refl | Takes slot ↦ refl ]

-- the same of words as a line holds them
pub rest_first : {S : Type 0} (text : S → List ℕ) (is_ended : Bool) (bytes : List ℕ) (w : S) (ws behind : List S) → is_ended ≡ false → 1 ≤ length ws → w ≡ get_or ws 0 w → behind ≡ drop 1 ws → bytes ≡ text w → rest_parts is_ended (map text ws) ≡ sorted_parts (sort bytes) bytes (map text behind)
rest_first text is_ended bytes w [] behind starts some first rest same = absurd (omega arith)
rest_first text is_ended bytes w (v ∷ vs) behind starts some first rest same =
    let it : bytes ≡ text v = same ∙ ap text first in
    let others : behind ≡ vs = rest in
    rw (starts, it, others) (parts_first (text v) (map text vs))
