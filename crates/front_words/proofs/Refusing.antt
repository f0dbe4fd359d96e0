-- An option that is given twice.
use Rattle.std.proofs.Common.{◌≡◌, ℕ, ◌+◌, ◌<◌, List, [], ◌∷◌, length, get_or, drop, Bool, true, false, cond, eqb, refl, sym, ap, ◌∙◌, arith, ⊎_elim, Option, Some, None, Result, Ok, Err}
use Rattle.std.specs.Prelude.{is_some, ◌||◌, ◌==◌, IsErr}
use Rattle.std.specs.List.{list_any}
use Rattle.std.proofs.lemmas.Bool.{false≢true, cases_Bool}
use Rattle.std.proofs.lemmas.Grind.{common_steps}
use Rattle.std.proofs.lemmas.List.{drop_more}
use Rattle.front_words.specs.declared.word.Word.{Word}
use Rattle.front_words.specs.declared.option.Slot.{Slot}
use Rattle.front_words.specs.declared.option.Slot.TheVariants.{Page, Block, Size, Meta, Magic, At, Preset, DryRun, Repair, Svg, Force, RawNames, Create, Unpack, List as Lists, Visualize, AllFiles, Debug, UseMagic, NameLength, NoMagic, BigEndian, Aligned, Links, NoValue, Unknown}
use Rattle.front_words.specs.declared.asked.Found.{Found}
use Rattle.front_words.specs.declared.asked.Refusal.{Refusal}
use Rattle.front_words.specs.declared.asked.Refusal.TheVariants.{NotTaken, Twice as GivenTwice}
use Rattle.front_words.specs.Options.{rank}
use Rattle.front_words.specs.Tokens.{Part, Held, Twice, texts, held, places}
use Rattle.front_words.specs.Asking.{in_slot, gifts, or_else, is_refused, fault_of, first_fault, all_slots, after_fault, after_word, word_found, asked_from, asked_by}

some_or : (a b : Option Refusal) → is_some b ≡ true → is_some (or_else a b) ≡ true
some_or (Some why) b h = refl
some_or None b h = h

or_some : (a b : Option Refusal) → is_some a ≡ true → is_some (or_else a b) ≡ true
or_some (Some why) b h = refl
or_some None b h = absurd (false≢true h)

twice_faults : (word : Word) (slot : Slot) → is_some (fault_of word slot Twice) ≡ true
twice_faults word slot = elim (is_refused slot) as (λ v. is_some (cond v (Some (NotTaken slot)) (Some (GivenTwice slot))) ≡ true) [ true ↦ refl | false ↦ refl ]

-- where one slot holds two values there is a fault
first_some : (word : Word) (gives : Slot → Held) (slots : List Slot) (slot : Slot) → list_any (λ s. rank s == rank slot) slots ≡ true → ((s : Slot) → rank s ≡ rank slot → gives s ≡ Twice) → is_some (first_fault word gives slots) ≡ true
first_some word gives [] slot there twice = absurd (false≢true there)
first_some word gives (s ∷ slots) slot there twice = ⊎_elim
    (λ (yes : eqb (rank s) (rank slot) ≡ true).
    let same : rank s ≡ rank slot = grind (arith, common_steps) in
    rw (twice s same) (or_some (fault_of word s Twice) (first_fault word gives slots) (twice_faults word s)))
    (λ (no : eqb (rank s) (rank slot) ≡ false). some_or (fault_of word s (gives s)) (first_fault word gives slots) (first_some word gives slots slot (rw no at there) twice))
    (cases_Bool (eqb (rank s) (rank slot)))

-- each slot is among all
all_there : (slot : Slot) → list_any (λ s. rank s == rank slot) all_slots ≡ true
all_there Page = refl
all_there Block = refl
all_there Size = refl
all_there Meta = refl
all_there Magic = refl
all_there At = refl
all_there Preset = refl
all_there DryRun = refl
all_there Repair = refl
all_there Svg = refl
all_there Force = refl
all_there RawNames = refl
all_there Create = refl
all_there Unpack = refl
all_there Lists = refl
all_there Visualize = refl
all_there AllFiles = refl
all_there Debug = refl
all_there UseMagic = refl
all_there NameLength = refl
all_there NoMagic = refl
all_there BigEndian = refl
all_there Aligned = refl
all_there Links = refl
all_there NoValue = refl
all_there Unknown = refl

fault_refuses : (o : Option Refusal) (found : Found) (gives : Slot → Held) (ws : List (List ℕ)) → is_some o ≡ true → IsErr (after_fault o found gives ws)
fault_refuses (Some why) found gives ws h = refl
fault_refuses None found gives ws h = absurd (false≢true h)

word_refuses : (r : Result Found Refusal) (gives : Slot → Held) (ws : List (List ℕ)) → ((found : Found) → is_some (first_fault found.word gives all_slots) ≡ true) → IsErr (after_word r gives ws)
word_refuses (Err why) gives ws faults = refl
word_refuses (Ok found) gives ws faults = fault_refuses (first_fault found.word gives all_slots) found gives ws (faults found)

pub twice_refused : (all : List Part) (slot : Slot) → in_slot slot all ≡ Twice → IsErr (asked_by all)
unfolding asked_by asked_from
twice_refused all slot twice = word_refuses (word_found (gifts all) (places all)) (gifts all) (places all)
    (λ found. first_some found.word (gifts all) all_slots slot (all_there slot) (λ s same. ap (λ (r : ℕ). held (texts r all)) same ∙ twice))

-- one slot more
pub fault_more : (word : Word) (gives : Slot → Held) (slots : List Slot) (i : ℕ) (d : Slot) → i < length slots → first_fault word gives (drop i slots) ≡ or_else (fault_of word (get_or slots i d) (gives (get_or slots i d))) (first_fault word gives (drop (i + 1) slots))
fault_more word gives slots i d inside = ap (λ (l : List Slot). first_fault word gives l) (drop_more slots i d inside)

-- where the next slot has a fault, that is the first
pub fault_here : (word : Word) (gives : Slot → Held) (slots : List Slot) (i : ℕ) (d : Slot) (given : Held) (found : Option Refusal) → i < length slots → found ≡ fault_of word (get_or slots i d) given → given ≡ gives (get_or slots i d) → is_some found ≡ true → found ≡ first_fault word gives (drop i slots)
fault_here word gives slots i d given found inside is same some = sym (fault_more word gives slots i d inside ∙ ap (λ (o : Option Refusal). or_else o (first_fault word gives (drop (i + 1) slots))) (sym (is ∙ ap (λ (h : Held). fault_of word (get_or slots i d) h) same)) ∙ over found some)
  where
    over : (o : Option Refusal) → is_some o ≡ true → or_else o (first_fault word gives (drop (i + 1) slots)) ≡ o
    over (Some why) h = refl
    over None h = absurd (false≢true h)

-- where it has none, the first is one of those behind
pub fault_behind : (word : Word) (gives : Slot → Held) (slots : List Slot) (i : ℕ) (d : Slot) (given : Held) (found : Option Refusal) → i < length slots → found ≡ fault_of word (get_or slots i d) given → given ≡ gives (get_or slots i d) → is_some found ≡ false → first_fault word gives (drop (i + 1) slots) ≡ first_fault word gives (drop i slots)
fault_behind word gives slots i d given found inside is same none = sym (fault_more word gives slots i d inside ∙ ap (λ (o : Option Refusal). or_else o (first_fault word gives (drop (i + 1) slots))) (sym (is ∙ ap (λ (h : Held). fault_of word (get_or slots i d) h) same)) ∙ over found none)
  where
    over : (o : Option Refusal) → is_some o ≡ false → or_else o (first_fault word gives (drop (i + 1) slots)) ≡ first_fault word gives (drop (i + 1) slots)
    over (Some why) h = absurd (false≢true (sym h))
    over None h = refl
