-- What a line spells, and the calls of one line.
use Rattle.std.proofs.Common.{◌≡◌, ℕ, ◌<◌, List, [], ◌∷◌, ◌++◌, length, refl, sym, ◌∙◌, ap, subst, arith, true}
use Rattle.std.proofs.lemmas.Bool.Decides.{nat_tests}
use Rattle.std.specs.Prelude.{nat_lt}
use Rattle.geometry.specs.declared.geometry.Geometry.{Geometry}
use Rattle.nor_core.specs.declared.state.NorState.{Ghosts as NorOf}
use Rattle.table_model.specs.Ask.{Ask}
use Rattle.table_model.specs.Window.{Moment}
use Rattle.call_script.specs.Lines.{Parsed, NoCall, Asks, Bad, of_line, calls_of, with_line}
use Rattle.call_model.specs.Memory.{Memory}
use Rattle.run_model.specs.Ran.{Reached, SaidPart}
use Rattle.script_run.specs.Turns.{AllGood}

long_test : (n : ℕ) → 4096 < n → nat_lt 4096 n ≡ true
long_test n h = grind (arith, nat_tests)

-- a line of more than 4,096 bytes
pub bad_long : (line : List ℕ) → 4096 < length line → of_line line ≡ Bad
unfolding of_line
bad_long line h = rw (long_test (length line) h) refl

-- the calls of a line alone
pub no_call : (line : List ℕ) → of_line line ≡ NoCall → calls_of (line ∷ []) ≡ []
unfolding calls_of
no_call line e = ap (λ (p : Parsed). with_line p []) e

pub one_call : (line : List ℕ) (ask : Ask) → of_line line ≡ Asks ask → calls_of (line ∷ []) ≡ ask ∷ []
unfolding calls_of
one_call line ask e = ap (λ (p : Parsed). with_line p []) e

pub bad_calls : (line : List ℕ) → of_line line ≡ Bad → calls_of (line ∷ []) ≡ []
unfolding calls_of
bad_calls line e = ap (λ (p : Parsed). with_line p []) e

-- a line that is a call, or none, is in the grammar
pub call_good : (line : List ℕ) (ask : Ask) → of_line line ≡ Asks ask → of_line line ≡ Bad → ⊥
call_good line ask e f = cc

pub none_good : (line : List ℕ) → of_line line ≡ NoCall → of_line line ≡ Bad → ⊥
none_good line e f = cc

with_good : (p : Parsed) (xs ys : List Ask) → (p ≡ Bad → ⊥) → with_line p (xs ++ ys) ≡ with_line p xs ++ ys
with_good NoCall xs ys h = refl
with_good (Asks a) xs ys h = refl
with_good Bad xs ys h = absurd (h refl)

-- the calls of lines behind good ones
pub calls-append : (xs ys : List (List ℕ)) → AllGood xs → calls_of (xs ++ ys) ≡ calls_of xs ++ calls_of ys
unfolding calls_of AllGood
calls-append [] ys h = refl
calls-append (x ∷ xs) ys h = ap (with_line (of_line x)) (calls-append xs ys h.1) ∙ with_good (of_line x) (calls_of xs) (calls_of ys) h.0

pub good-append : (xs ys : List (List ℕ)) → AllGood xs → AllGood ys → AllGood (xs ++ ys)
unfolding AllGood
good-append [] ys h k = k
good-append (x ∷ xs) ys h k = (h.0, good-append xs ys h.1 k)

module _ {D : Type 0} {nor : NorOf D} {g : Geometry} where
  -- the same calls
  pub same_reached : {old new : D} {w : Memory} {m : Moment} {xs ys : List Ask} → ys ≡ xs → Reached nor g old new w m xs → Reached nor g old new w m ys
  same_reached {old} {new} {w} {m} {xs} {ys} e h = subst (λ (zs : List Ask). Reached nor g old new w m zs) (sym e) h

pub same_said : {D : Type 0} {nor : NorOf D} {old new : D} (g : Geometry) (m : Moment) (xs ys : List Ask) → ys ≡ xs → SaidPart nor g old new m xs → SaidPart nor g old new m ys
same_said {D} {nor} {old} {new} g m xs ys e h = subst (λ (zs : List Ask). SaidPart nor g old new m zs) (sym e) h
