-- Lines, put together from words in their places and options with their values.
use Rattle.std.specs.Prelude.{◌≡◌, ◌⊎◌, ℕ, List, [], ◌∷◌}
use Rattle.std.specs.List.{flat_map}
use Rattle.front_words.specs.declared.option.Slot.{Slot}
use Rattle.front_words.specs.Tokens.{Sort, Plain, Holds, Takes, sort, Part, InPlace, Chose}

-- a word in its place, an option that is one word, or one whose value is a word of its own
pub data Piece : Type 0 where
  Stands : (w : List ℕ) → sort w ≡ Plain → Piece
  Whole : (w : List ℕ) (slot : Slot) (text : List ℕ) → sort w ≡ Holds slot text → Piece
  Pair : (w : List ℕ) (slot : Slot) (text : List ℕ) → sort w ≡ Takes slot → Piece

-- its words
abbrev pub words_of : Piece → List (List ℕ)
words_of (Stands w is) = w ∷ []
words_of (Whole w slot text is) = w ∷ []
words_of (Pair w slot text is) = w ∷ text ∷ []

-- what it says
abbrev pub part_of : Piece → Part
part_of (Stands w is) = InPlace w
part_of (Whole w slot text is) = Chose slot text
part_of (Pair w slot text is) = Chose slot text

-- a line of these
abbrev pub line : List Piece → List (List ℕ)
line pieces = flat_map words_of pieces

-- an option with its value
abbrev pub IsChosen : Piece → Type 0
IsChosen (Stands w is) = ⊥
IsChosen (Whole w slot text is) = Unit {0}
IsChosen (Pair w slot text is) = Unit {0}

-- at least one of two is
abbrev pub AreFree : Piece → Piece → Type 0
AreFree one other = IsChosen one ⊎ IsChosen other
