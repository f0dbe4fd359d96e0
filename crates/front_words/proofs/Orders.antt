-- Options in any order.
use Rattle.std.proofs.Common.{◌≡◌, ℕ, List, [], ◌∷◌, ◌++◌, map, Bool, true, false, cond, eqb, refl, sym, ap, ◌∙◌, ◌⊎◌, inl, inr, ⊎_elim}
use Rattle.std.specs.List.{flat_map}
use Rattle.std.proofs.Math.Path.{fun_ext}
use Rattle.std.proofs.lemmas.List.{map-append}
use Rattle.std.proofs.lemmas.List.Concat.{flat_map-append}
use Rattle.front_words.specs.declared.option.Slot.{Slot}
use Rattle.front_words.specs.Options.{rank}
use Rattle.front_words.specs.Tokens.{Sort, Part, InPlace, Chose, Held, Twice, parts, sorted_parts, text_in, texts, held, place_in, places}
use Rattle.front_words.specs.Pieces.{Piece, Stands, Whole, Pair, words_of, part_of, line, IsChosen, AreFree}
use Rattle.front_words.specs.Asking.{asked_by, asked_from, gifts, in_slot}
use Rattle.front_words.proofs.Parted.{parts_first}

-- the parts of a line are those of its pieces
pub parts_line : (pieces : List Piece) → parts (line pieces) ≡ map part_of pieces
parts_line [] = refl
parts_line (Stands w is ∷ ps) = parts_first w (line ps) ∙ ap (λ (s : Sort). sorted_parts s w (line ps)) is ∙ ap (λ (l : List Part). InPlace w ∷ l) (parts_line ps)
parts_line (Whole w slot text is ∷ ps) = parts_first w (line ps) ∙ ap (λ (s : Sort). sorted_parts s w (line ps)) is ∙ ap (λ (l : List Part). Chose slot text ∷ l) (parts_line ps)
parts_line (Pair w slot text is ∷ ps) = parts_first w (text ∷ line ps) ∙ ap (λ (s : Sort). sorted_parts s w (text ∷ line ps)) is ∙ ap (λ (l : List Part). Chose slot text ∷ l) (parts_line ps)

-- two neighbours change places where one of them gives nothing
flat_swap : {A : Type 0} (f : Part → List A) (ps qs : List Part) (a b : Part) → (f a ≡ []) ⊎ (f b ≡ []) → flat_map f (ps ++ a ∷ b ∷ qs) ≡ flat_map f (ps ++ b ∷ a ∷ qs)
flat_swap f [] qs a b none = ⊎_elim
    (λ (e : f a ≡ []). rw e refl)
    (λ (e : f b ≡ []). rw e refl)
    none
flat_swap f (p ∷ ps) qs a b none = ap (λ l. f p ++ l) (flat_swap f ps qs a b none)

-- a list with two values holds more than one
held_two : (xs ys : List (List ℕ)) (v w : List ℕ) → held (xs ++ v ∷ w ∷ ys) ≡ Twice
held_two [] ys v w = refl
held_two (x ∷ []) ys v w = refl
held_two (x ∷ y ∷ xs) ys v w = refl

both_twice : (f : Part → List (List ℕ)) (ps qs : List Part) (a b : Part) (v w : List ℕ) → f a ≡ v ∷ [] → f b ≡ w ∷ [] → held (flat_map f (ps ++ a ∷ b ∷ qs)) ≡ Twice
both_twice f ps qs a b v w one other = ap held (flat_map-append f ps (a ∷ b ∷ qs)) ∙ rw (one, other) (held_two (flat_map f ps) (flat_map f qs) v w)

-- a part gives nothing for a slot, or one value
shape : (r : ℕ) (a : Part) → (text_in r a ≡ []) ⊎ ((v : List ℕ) × (text_in r a ≡ v ∷ []))
shape r (InPlace w) = inl refl
shape r (Chose slot text) = elim (eqb (rank slot) r) as (λ v. (cond v (text ∷ []) [] ≡ []) ⊎ ((u : List ℕ) × (cond v (text ∷ []) [] ≡ u ∷ []))) [ true ↦ inr (text, refl) | false ↦ inl refl ]

-- what is held for a slot is the same in either order
held_swap : (r : ℕ) (ps qs : List Part) (a b : Part) → held (texts r (ps ++ a ∷ b ∷ qs)) ≡ held (texts r (ps ++ b ∷ a ∷ qs))
held_swap r ps qs a b = ⊎_elim
    (λ (none : text_in r a ≡ []). ap held (flat_swap (text_in r) ps qs a b (inl none)))
    (λ (one : (v : List ℕ) × (text_in r a ≡ v ∷ [])). ⊎_elim
    (λ (none : text_in r b ≡ []). ap held (flat_swap (text_in r) ps qs a b (inr none)))
    (λ (other : (v : List ℕ) × (text_in r b ≡ v ∷ [])). both_twice (text_in r) ps qs a b one.0 other.0 one.1 other.1 ∙ sym (both_twice (text_in r) ps qs b a other.0 one.0 other.1 one.1))
    (shape r b))
    (shape r a)

-- lines that give the same for each slot, and have the same words in their places, ask for the same
asked_same : (ps qs : List Part) → ((r : ℕ) → held (texts r ps) ≡ held (texts r qs)) → places ps ≡ places qs → asked_by ps ≡ asked_by qs
unfolding asked_by
asked_same ps qs given named =
    ap (λ (g : Slot → Held). asked_from g (places ps)) (fun_ext (λ slot. given (rank slot)))
    ∙ ap (λ (ws : List (List ℕ)). asked_from (gifts qs) ws) named

free_places : (one other : Piece) → AreFree one other → (place_in (part_of one) ≡ []) ⊎ (place_in (part_of other) ≡ [])
free_places (Whole w slot text is) other free = inl refl
free_places (Pair w slot text is) other free = inl refl
free_places (Stands w is) (Whole v slot text are) free = inr refl
free_places (Stands w is) (Pair v slot text are) free = inr refl
free_places (Stands w is) (Stands v are) free = ⊎_elim (λ (h : ⊥). absurd h) (λ (h : ⊥). absurd h) free

pub any_order : (before behind : List Piece) (one other : Piece) → AreFree one other → asked_by (parts (line (before ++ one ∷ other ∷ behind))) ≡ asked_by (parts (line (before ++ other ∷ one ∷ behind)))
any_order before behind one other free =
    ap (λ (l : List Part). asked_by l) (parts_line (before ++ one ∷ other ∷ behind) ∙ map-append part_of before (one ∷ other ∷ behind))
    ∙ asked_same (map part_of before ++ part_of one ∷ part_of other ∷ map part_of behind) (map part_of before ++ part_of other ∷ part_of one ∷ map part_of behind)
    (λ r. held_swap r (map part_of before) (map part_of behind) (part_of one) (part_of other))
    (flat_swap place_in (map part_of before) (map part_of behind) (part_of one) (part_of other) (free_places one other free))
    ∙ ap (λ (l : List Part). asked_by l) (sym (parts_line (before ++ other ∷ one ∷ behind) ∙ map-append part_of before (other ∷ one ∷ behind)))

-- the parts of a line with two neighbours
module _ (before behind : List Piece) (one other : Piece) where
  parts_around : parts (line (before ++ one ∷ other ∷ behind)) ≡ map part_of before ++ part_of one ∷ part_of other ∷ map part_of behind
  parts_around = parts_line (before ++ one ∷ other ∷ behind) ∙ map-append part_of before (one ∷ other ∷ behind)

pub names_any_order : (before behind : List Piece) (one other : Piece) → AreFree one other → places (parts (line (before ++ one ∷ other ∷ behind))) ≡ places (parts (line (before ++ other ∷ one ∷ behind)))
names_any_order before behind one other free =
    ap (λ (l : List Part). places l) (parts_around before behind one other)
    ∙ flat_swap place_in (map part_of before) (map part_of behind) (part_of one) (part_of other) (free_places one other free)
    ∙ ap (λ (l : List Part). places l) (sym (parts_around before behind other one))

pub values_any_order : (before behind : List Piece) (one other : Piece) (slot : Slot) → AreFree one other → in_slot slot (parts (line (before ++ one ∷ other ∷ behind))) ≡ in_slot slot (parts (line (before ++ other ∷ one ∷ behind)))
values_any_order before behind one other slot free =
    ap (λ (l : List Part). in_slot slot l) (parts_around before behind one other)
    ∙ held_swap (rank slot) (map part_of before) (map part_of behind) (part_of one) (part_of other)
    ∙ ap (λ (l : List Part). in_slot slot l) (sym (parts_around before behind other one))
