-- The words of a line, parted into words in their places and options with their values.
use Rattle.std.specs.Prelude.{ℕ, ◌+◌, List, [], ◌∷◌, ◌++◌, length, take, drop, Bool, true, false, not, Option, Some, None, ◌==◌, if◌then◌else◌}
use Rattle.std.specs.List.{position, flat_map}
use Rattle.front_words.specs.declared.option.Slot.{Slot}
use Rattle.front_words.specs.declared.option.Slot.TheVariants.{NoValue, Unknown}
use Rattle.front_words.specs.declared.token.Kind.{Kind}
use Rattle.front_words.specs.declared.token.Kind.TheVariants.{Plain as PlainKind, Ends as EndsKind, Holds as HoldsKind, Takes as TakesKind}
use Rattle.front_words.specs.declared.token.Token.{Token}
use Rattle.front_words.specs.declared.token.Token.TheVariants.{Place, Chosen}
use Rattle.front_words.specs.declared.giving.Given.{Given}
use Rattle.front_words.specs.declared.giving.Given.TheVariants.{Nothing as NothingGiven, Once as OnceGiven, Twice as TwiceGiven}
use Rattle.front_words.specs.Options.{rank, valued, switched, text_of}

-- what a word is: in its place, `--`, an option with its value, or one whose value is the next word
pub data Sort : Type 0 where
  Plain : Sort
  Ends : Sort
  Holds : (slot : Slot) → (text : List ℕ) → Sort
  Takes : (slot : Slot) → Sort

-- where the first `=` stands
abbrev pub equals_at : List ℕ → Option ℕ
equals_at w = position (λ b. b == 61) w

-- what stands before it, or all
abbrev pub name_at : List ℕ → Option ℕ → List ℕ
name_at w None = w
name_at w (Some i) = take i w

-- what stands behind it
abbrev pub value_at : List ℕ → Option ℕ → Option (List ℕ)
value_at w None = None
value_at w (Some i) = Some (drop (i + 1) w)

-- an option without a value, or none
abbrev pub switch_sort : List ℕ → Option Slot → Sort
switch_sort w None = Holds Unknown w
switch_sort w (Some slot) = Holds slot (text_of w)

-- an option, by what takes a value of that name
abbrev pub valued_sort : List ℕ → Option Slot → Option (List ℕ) → Sort
valued_sort w None value = switch_sort w (switched w)
valued_sort w (Some slot) None = Takes slot
valued_sort w (Some slot) (Some value) = Holds slot value

unfoldable pub option_sort : List ℕ → Sort
option_sort w = valued_sort w (valued (name_at w (equals_at w))) (value_at w (equals_at w))

-- a word
abbrev pub sort : List ℕ → Sort
sort [] = Plain
sort (a ∷ []) = Plain
sort (a ∷ b ∷ []) = if a == 45 then (if b == 45 then Ends else option_sort (a ∷ b ∷ [])) else Plain
sort (a ∷ b ∷ c ∷ rest) = if a == 45 then option_sort (a ∷ b ∷ c ∷ rest) else Plain

-- a word in its place, or an option with its value
pub data Part : Type 0 where
  InPlace : (word : List ℕ) → Part
  Chose : (slot : Slot) → (text : List ℕ) → Part

-- words that all stand in their places
abbrev pub ended_parts : List (List ℕ) → List Part
ended_parts [] = []
ended_parts (w ∷ ws) = InPlace w ∷ ended_parts ws

-- the parts of a line
abbrev pub parts : List (List ℕ) → List Part
parts [] = []
parts (w ∷ []) = elim (sort w) [ Plain ↦ InPlace w ∷ [] | Ends ↦ [] | Holds slot text ↦ Chose slot text ∷ [] | Takes slot ↦ Chose NoValue w ∷ [] ]
parts (w ∷ v ∷ ws) = elim (sort w) [
  | Plain ↦ InPlace w ∷ parts (v ∷ ws)
  | Ends ↦ ended_parts (v ∷ ws)
  | Holds slot text ↦ Chose slot text ∷ parts (v ∷ ws)
  | Takes slot ↦ Chose slot v ∷ parts ws
]

-- an option whose value is the next word, and what stands behind
abbrev pub valued_parts : Slot → List ℕ → List (List ℕ) → List Part
valued_parts slot w [] = Chose NoValue w ∷ []
valued_parts slot w (v ∷ ws) = Chose slot v ∷ parts ws

-- a word of that sort, and what stands behind
abbrev pub sorted_parts : Sort → List ℕ → List (List ℕ) → List Part
sorted_parts Plain w ws = InPlace w ∷ parts ws
sorted_parts Ends w ws = ended_parts ws
sorted_parts (Holds slot text) w ws = Chose slot text ∷ parts ws
sorted_parts (Takes slot) w ws = valued_parts slot w ws

-- those of the words that are left, where a `--` stood before them or not
abbrev pub rest_parts : Bool → List (List ℕ) → List Part
rest_parts true ws = ended_parts ws
rest_parts false ws = parts ws

-- the words in their places
abbrev pub place_in : Part → List (List ℕ)
place_in (InPlace w) = w ∷ []
place_in (Chose slot text) = []

abbrev pub places : List Part → List (List ℕ)
places ps = flat_map place_in ps

-- the values that a line gives for the slot of one place in their list
abbrev pub text_in : ℕ → Part → List (List ℕ)
text_in r (InPlace w) = []
text_in r (Chose slot text) = if rank slot == r then text ∷ [] else []

abbrev pub texts : ℕ → List Part → List (List ℕ)
texts r ps = flat_map (text_in r) ps

-- nothing, one value, or more than one
pub data Held : Type 0 where
  Nothing : Held
  Once : (text : List ℕ) → Held
  Twice : Held

abbrev pub held : List (List ℕ) → Held
held [] = Nothing
held (v ∷ []) = Once v
held (v ∷ w ∷ vs) = Twice

-- what is held once these came too
abbrev pub held_after : Held → List (List ℕ) → Held
held_after Nothing vs = held vs
held_after (Once v) vs = held (v ∷ vs)
held_after Twice vs = Twice

-- what the program's own values show
abbrev pub sort_of : Kind → Sort
sort_of PlainKind = Plain
sort_of EndsKind = Ends
sort_of (HoldsKind slot text) = Holds slot text.now
sort_of (TakesKind slot) = Takes slot

abbrev pub part_of : Token → Part
part_of (Place word) = InPlace word.now
part_of (Chosen slot text) = Chose slot text.now

abbrev pub held_by : Given → Held
held_by NothingGiven = Nothing
held_by (OnceGiven text) = Once text.now
held_by TwiceGiven = Twice
