-- What is wrong with the lines of a script, from line to line.
use Rattle.std.proofs.Common.{◌≡◌, ℕ, ◌+◌, ◌≤◌, List, [], ◌∷◌, length, drop, refl, sym, ◌∙◌, ap, arith, Option, Some, None, Bool, false}
use Rattle.call_script.specs.Lines.{lines}
use Rattle.promise_model.specs.Lines.{sort_of}
use Rattle.promise_model.specs.Verdicts.{Fault, or_fault, fault_at, is_open, promise_or_none, first_fault, promise_count}
use Rattle.plain_promise.specs.Walks.{IsLine}

-- what is known at a line
pub record IsSeen (script : List ℕ) (at number : ℕ) (within : Bool) (promises : ℕ) : Type 0 where
  pub inside : at ≤ length script
  pub few : number ≤ at + 1
  pub made : promises ≤ at
  pub fault : first_fault within number (lines (drop at script)) ≡ first_fault false 1 (lines script)
  pub count : promises + promise_count (lines (drop at script)) ≡ promise_count (lines script)

pub seen_first : (script : List ℕ) → IsSeen script 0 1 false 0
seen_first script = record { inside = omega arith; few = omega arith; made = omega arith; fault = refl; count = omega arith }

fault_on : (within : Bool) (n : ℕ) (line : List ℕ) (ls : List (List ℕ)) → first_fault within n (line ∷ ls) ≡ or_fault (fault_at within n (sort_of line)) (first_fault (is_open within (sort_of line)) (n + 1) ls)
unfolding first_fault
fault_on within n line ls = refl

count_on : (line : List ℕ) (ls : List (List ℕ)) → promise_count (line ∷ ls) ≡ promise_or_none (sort_of line) + promise_count ls
unfolding promise_count
count_on line ls = refl

module _ (script : List ℕ) (at number : ℕ) (within : Bool) (promises : ℕ) (was : IsSeen script at number within promises) where
  pub seen_on : (line : List ℕ) (behind made : ℕ) → IsLine script at line behind → fault_at within number (sort_of line) ≡ None → made ≤ 1 → made ≡ promise_or_none (sort_of line) → IsSeen script behind (number + 1) (is_open within (sort_of line)) (promises + made)
  seen_on line behind made is none few made_is = record {
    inside = is.within;
    few = omega (arith, was.few, is.on);
    made = omega (arith, was.made, is.on, few);
    fault = sym (ap (λ (o : Option Fault). or_fault o (first_fault (is_open within (sort_of line)) (number + 1) (lines (drop behind script)))) none) ∙ sym (fault_on within number line (lines (drop behind script)))
        ∙ ap (first_fault within number) (sym is.lines_are) ∙ was.fault;
    count = let here = ap promise_count is.lines_are ∙ count_on line (lines (drop behind script)) in omega (arith, here, made_is, was.count);
  }

  pub seen_fault : (line : List ℕ) (behind : ℕ) (f : Fault) → IsLine script at line behind → fault_at within number (sort_of line) ≡ Some f → first_fault false 1 (lines script) ≡ Some f
  seen_fault line behind f is fault = sym was.fault ∙ ap (first_fault within number) is.lines_are ∙ fault_on within number line (lines (drop behind script))
      ∙ ap (λ (o : Option Fault). or_fault o (first_fault (is_open within (sort_of line)) (number + 1) (lines (drop behind script)))) fault

  pub seen_all : lines (drop at script) ≡ [] → (first_fault false 1 (lines script) ≡ None) × (promises ≡ promise_count (lines script))
  unfolding first_fault promise_count
  seen_all none = (
    sym was.fault ∙ ap (first_fault within number) none,
    (let here = ap promise_count none in omega (arith, here, was.count)),
  )
