-- A command that isn't refused has enough lent memory.
use Rattle.std.proofs.Common.{◌≡◌, ℕ, ◌<◌, ◌≤◌, ◌*◌, ◌/◌, Bool, true, false, if◌then◌else◌, List, Option, Some, None, refl, sym, ap, ◌∙◌, ⊎_elim}
use Rattle.std.proofs.lemmas.Bool.{cases_lt, lt-ltb}
use Rattle.std.proofs.lemmas.Option.{none-some}
use Rattle.detect_tool.specs.declared.memory.Lengths.{Lengths}
use Rattle.detect_tool.specs.declared.memory.Part.{Part}
use Rattle.detect_tool.specs.declared.memory.Part.TheVariants.{Chip, Words, Work, Check, Found}
use Rattle.detect_tool.specs.declared.refusing.Refusal.{Refusal}
use Rattle.detect_tool.specs.declared.refusing.Refusal.TheVariants.{Usage, Short}
use Rattle.detect_tool.specs.Words.{is_command}
use Rattle.detect_tool.specs.Lent.{HasLengths, shorter, first_of, length_refusal}
use Rattle.detect_tool.specs.Refusals.{refusal_of}

-- none of two refusals
both_none : (a b : Option Refusal) → first_of a b ≡ None → (a ≡ None) × (b ≡ None)
both_none None b is = (refl, is)
both_none (Some why) b is = absurd (none-some why (sym is))

-- a part that isn't too short
long_enough : (part : Part) (need given : ℕ) → shorter part need given ≡ None → need ≤ given
long_enough part need given is = ⊎_elim
    (λ (less : given < need).
    let short : shorter part need given ≡ Some (Short part need given) = ap (λ (b : Bool). if b then Some (Short part need given) else None) (lt-ltb given need less) in
    absurd (none-some (Short part need given) (sym is ∙ short)))
    (λ (le : need ≤ given). le)
    (cases_lt given need)

enough : (size : ℕ) (lent : Lengths) → length_refusal size lent ≡ None → HasLengths size lent
unfolding length_refusal
enough size lent is =
    let a = both_none (shorter Chip size lent.chip) _ is in
    let b = both_none (shorter Words (12 * (size / 4096)) lent.words) _ a.1 in
    let c = both_none (shorter Work 557056 lent.work) _ b.1 in
    let d = both_none (shorter Check 65535 lent.check) _ c.1 in
    record {
      chip = long_enough Chip size lent.chip a.0;
      words = long_enough Words (12 * (size / 4096)) lent.words b.0;
      work = long_enough Work 557056 lent.work c.0;
      check = long_enough Check 65535 lent.check d.0;
      found = long_enough Found (84 * (size / 4096)) lent.found d.1;
    }

by_words : (b : Bool) (size : ℕ) (lent : Lengths) → (if b then length_refusal size lent else Some Usage) ≡ None → HasLengths size lent
by_words true size lent is = enough size lent is
by_words false size lent is = absurd (none-some Usage (sym is))

pub accepted : (words : List (List ℕ)) (size : ℕ) (lent : Lengths) → refusal_of words size lent ≡ None → HasLengths size lent
accepted words size lent is = by_words (is_command words) size lent is
