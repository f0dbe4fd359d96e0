-- Killing the header pages of damaged files, one after the other.
use Rattle.std.proofs.Common.{◌≡◌, ℕ, ◌+◌, ◌<◌, ◌≤◌, List, [], length, Bool, cond, Option, Some, None, Result, Ok, ap, refl, ◌∙◌, arith, ⊎_elim}
use Rattle.std.proofs.lemmas.Bool.{cases_lt, cases_eq}
use Rattle.geometry.specs.declared.geometry.Geometry.{Geometry}
use Rattle.nor_core.specs.declared.state.NorState.{Ghosts as NorOf}
use Rattle.image_model.specs.Sound.{HasMagics}
use Rattle.image_model.specs.Live.{live_at}
use Rattle.table_model.specs.Table.{File}
use Rattle.image_model.specs.declared.damage.Damage.{Damage}
use Rattle.image_model.specs.Tables.{has_of, damaged_of}
use Rattle.image_laws.proofs.Finish.{has_of-within}
use Rattle.file_find.specs.Marks.{IsMarked, NextHead, cause_at}
use Rattle.file_find.proofs.Stepping.{gap, past}
use Rattle.vol_check.specs.Culls.{HasNoDoubles, Passes, PassesDamaged}
use Rattle.flash_view.specs.declared.view.View.{View}
use Rattle.vol_check.specs.Works.{Work, Worked, TurnsHead, culling_head, culling_damaged}
use Rattle.vol_check.proofs.Working.{Goes}
use Rattle.vol_check.proofs.Passing.{passes_none, passes_next}
use Rattle.vol_check.proofs.Heads.{none_damaged, damaged_none}

-- no id up to `at` is damaged, and n header pages were killed, with the marks right
pub record Heading (g : Geometry) (first now marks : List ℕ) (at n : ℕ) : Type 0 where
  pub marked : IsMarked g now marks
  pub passes : Passes g n first now
  pub single : HasNoDoubles g now
  pub none : (j : ℕ) → 1 ≤ j → j ≤ at → cause_at g now j ≡ None
  pub count : n + length (damaged_of g now) ≡ length (damaged_of g first)

abbrev pub heading_to : ℕ → List ℕ → Work ℕ
heading_to at marks = record { needs = λ g was. HasNoDoubles g was; done = λ g was now n. Heading g was now marks at n; idle = λ g was. damaged_of g was ≡ [] }

-- so far the marks are right
pub heading_marks : {N : Type 0} {nor : NorOf N} {old now : View N nor} {at n : ℕ} {marks : List ℕ} → Worked old now (Ok n) (heading_to at marks) → (nor.tells old.nor.now → HasMagics old.geometry (nor.bytes old.nor.now)) →
    (nor.tells old.nor.now → HasNoDoubles old.geometry (nor.bytes old.nor.now)) → nor.tells now.nor.now → IsMarked now.geometry (nor.bytes now.nor.now) marks
heading_marks was magics single tells =
    let first = was.step.cuts.cuts.told_before tells in
    rw was.step.framed.same.geometry (was.step.ends first (magics first, single first)).marked

pub heading_start : (g : Geometry) (a marks : List ℕ) → HasNoDoubles g a → IsMarked g a marks → Heading g a a marks 0 0
heading_start g a marks single marked = record { marked = marked; passes = passes_none g a; single = single; none = λ j low high. absurd (omega arith); count = omega arith }

headless_none : (g : Geometry) (image : List ℕ) (j : ℕ) → has_of g (live_at g image) j ≡ None → cause_at g image j ≡ None
unfolding cause_at
headless_none g image j none = rw none refl

-- the next id with a header page
pub heading_next : (g : Geometry) (first a b marks later : List ℕ) (at n m id p : ℕ) (killed : Bool) → Heading g first a marks at n → NextHead g a at (Some (id, p)) → TurnsHead g id p later killed a b →
    m ≡ n + cond killed 1 0 → Heading g first b later id m
heading_next g first a b marks later at n m id p killed was next turn e = record {
  marked = turn.marked;
  passes = passes_next g first a b p n m killed was.passes turn.culls.culls e;
  single = turn.culls.single;
  none = λ j low high. ⊎_elim
      (λ (here : j ≡ id). rw here turn.culls.none)
      (λ (there : j ≡ id → ⊥). turn.culls.others j there ∙ ⊎_elim
      (λ (above : at < j). headless_none g a j (gap g a at id p j next above (omega (arith, high, there))))
      (λ (below : j ≤ at). was.none j low below)
      (cases_lt at j))
      (cases_eq j id);
  count = let less = turn.culls.count in omega (arith, was.count, less, e);
}

-- none is left
pub heading_end : (g : Geometry) (first a marks : List ℕ) (at n : ℕ) → Heading g first a marks at n → NextHead g a at None → PassesDamaged g n first a
unfolding damaged_of cause_at
heading_end g first a marks at n was last =
    let none : damaged_of g a ≡ [] = none_damaged (has_of g (live_at g a)) 0x7FFF (λ j low. ⊎_elim
    (λ (above : at < j). headless_none g a j (past g a at j last above))
    (λ (below : j ≤ at). was.none j low below)
    (cases_lt at j)) in
    let zero : length (damaged_of g a) ≡ 0 = ap length none in
    record { passes = was.passes; settled = record { single = was.single; undamaged = none }; count = omega (arith, was.count, zero) }

-- where nothing is damaged no id is
heading_idle : (g : Geometry) (image : List ℕ) (id : ℕ) → damaged_of g image ≡ [] → cause_at g image id ≡ None
unfolding damaged_of cause_at
heading_idle g image id none = by (has_of g (live_at g image) id) refl
  where
    by : (o : Option (ℕ × Result File Damage)) → has_of g (live_at g image) id ≡ o → cause_at g image id ≡ None
    by None e = headless_none g image id e
    by (Some (p, r)) e = let within = has_of-within g image id p r e in damaged_none (has_of g (live_at g image)) 0x7FFF id none within.0 within.1

-- the turn of the next id that has a header page
pub heading_goes : (g : Geometry) (first a marks later : List ℕ) (at n id p : ℕ) → Heading g first a marks at n → NextHead g a at (Some (id, p)) → Goes g first a (culling_head id p marks later) culling_damaged
heading_goes g first a marks later at n id p was next = record { needs = record { first = next.1; single = was.single; marked = was.marked }; idle = λ none. heading_idle g first id none }
