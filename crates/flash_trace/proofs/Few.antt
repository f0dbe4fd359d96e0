-- How many calls a script has.
use Rattle.std.proofs.Common.{◌≡◌, ℕ, suc, ◌+◌, ◌≤◌, List, [], ◌∷◌, length, refl, ap, arith, true, false, cond, eqb, length-append}
use Rattle.geometry.specs.declared.geometry.Geometry.{Geometry}
use Rattle.table_model.specs.Ask.{Ask}
use Rattle.table_model.specs.Window.{Moment}
use Rattle.call_script.specs.Lines.{Parsed, NoCall, Asks, Bad, lines, onto, of_line, calls_of, with_line}
use Rattle.run_model.specs.Runs.{RunCall, asks_of}
use Rattle.flash_trace.specs.declared.spot.Place.{Place}
use Rattle.flash_trace.specs.Places.{IsPlace}

few-onto : (b : ℕ) (ls : List (List ℕ)) → length (onto b ls) ≤ length ls + 1
few-onto b [] = omega arith
few-onto b (l ∷ ls) = omega arith

few_lines : (xs : List ℕ) → length (lines xs) ≤ length xs
unfolding lines
few_lines [] = omega arith
few_lines (x ∷ xs) = elim (eqb x 10) as (λ v. length (cond v ([] ∷ lines xs) (onto x (lines xs))) ≤ length (x ∷ xs)) [ true ↦ omega (arith, few_lines xs) | false ↦ omega (arith, few_lines xs, few-onto x (lines xs)) ]

few_with : (p : Parsed) (asks : List Ask) → length (with_line p asks) ≤ length asks + 1
few_with NoCall asks = omega arith
few_with (Asks ask) asks = omega arith
few_with Bad asks = omega arith

few_calls : (ls : List (List ℕ)) → length (calls_of ls) ≤ length ls
unfolding calls_of
few_calls [] = omega arith
few_calls (l ∷ ls) = omega (arith, few_with (of_line l) (calls_of ls), few_calls ls)

length-asks : (done : List RunCall) → length (asks_of done) ≡ length done
length-asks [] = refl
length-asks (x ∷ done) = ap suc (length-asks done)

-- no more replies were said than a script has bytes
pub few_replies : (g : Geometry) (m : Moment) (script : List ℕ) (place : Place) → IsPlace g m script place → place.replies ≤ length script
few_replies g m script place p = omega (arith, p.count, length-asks p.done, ap length p.asks_are, length-append (asks_of p.done) p.asks, few_calls (lines script), few_lines script)
