-- The place of a script where so many calls were answered.
use Rattle.std.proofs.Common.{◌≡◌, ℕ, suc, ◌+◌, List, [], ◌∷◌, ◌++◌, length, refl, sym, ◌∙◌, ap, subst, Option, Some, None, Bool, true, false}
use Rattle.std.specs.Prelude.{codes, if◌then◌else◌}
use Rattle.std.specs.List.{slice_get}
use Rattle.geometry.specs.declared.geometry.Geometry.{Geometry}
use Rattle.table_model.specs.Table.{File}
use Rattle.table_model.specs.Ask.{Ask}
use Rattle.table_model.specs.Steps.{steps}
use Rattle.table_model.specs.Window.{Moment, after, from_settled, IsAmong}
use Rattle.call_script.specs.Lines.{Parsed, NoCall, Asks, Bad, of_line, calls_of, with_line, words, is_text}
use Rattle.run_model.specs.Runs.{after_all, plain}
use Rattle.promise_model.specs.declared.form.Form.{Form}
use Rattle.promise_model.specs.declared.form.Form.TheVariants.{First, Any}
use Rattle.promise_model.specs.Lines.{Sort, Blank, Calls, Promises, Ends, BadCall, BadPromise, sort_of, promised, said_by, promised_on, promise_on, promise_on_one, names_of, is_marked}
use Rattle.promise_model.specs.Promises.{Promise}
use Rattle.promise_model.specs.Places.{Place, places, with_place, moment_behind, in_force, end_table}
use Rattle.promise_model.specs.Laws.{AllInGrammar}

-- what a cut may leave before these calls
abbrev pub MayBeLeft : Geometry → Moment → List Ask → List File → Type 0
MayBeLeft g m [] table = IsAmong table (from_settled m [])
MayBeLeft g m (ask ∷ asks) table = IsAmong table (from_settled m (steps g true m.state ask))

-- a place among others, by how many are before it, with a table that a cut there may leave
pub record HasTable (ps : List Place) (k : ℕ) (table : List File) : Type 0 where
  pub place : Place
  pub place_is : slice_get ps k ≡ Some place
  pub among : IsAmong table place.tables

-- a line is a call
abbrev pub is_call : Sort → Bool
is_call (Calls ask) = true
is_call _ = false

quiet_if : (b : Bool) (s t : Sort) → is_call s ≡ false → is_call t ≡ false → is_call (if b then s else t) ≡ false
quiet_if true s t a c = a
quiet_if false s t a c = c

quiet_on : (form : Form) (o : Option (List (List ℕ))) → is_call (promise_on form o) ≡ false
quiet_on form None = refl
quiet_on form (Some names) = refl

quiet_one : (o : Option (List (List ℕ))) → is_call (promise_on_one o) ≡ false
quiet_one None = refl
quiet_one (Some []) = refl
quiet_one (Some (name ∷ [])) = refl
quiet_one (Some (name ∷ other ∷ more)) = refl

quiet_promised : (form : List ℕ) (ws : List (List ℕ)) → is_call (promised_on form ws) ≡ false
quiet_promised form ws =
    quiet_if (is_text form (codes "first")) _ _ (quiet_on First (names_of ws))
    (quiet_if (is_text form (codes "some")) _ _ (quiet_on Any (names_of ws))
    (quiet_if (is_text form (codes "kept")) _ _ (quiet_one (names_of ws)) refl))

quiet_said : (ws : List (List ℕ)) → is_call (said_by ws) ≡ false
quiet_said [] = refl
quiet_said (form ∷ []) = quiet_if (is_text form (codes "end")) Ends BadPromise refl refl
quiet_said (form ∷ w ∷ ws) = quiet_promised form (w ∷ ws)

quiet_words : (ws : List (List ℕ)) → is_call (promised ws) ≡ false
unfolding promised
quiet_words [] = refl
quiet_words (mark ∷ ws) = quiet_if (is_text mark (codes "#!")) (said_by ws) BadPromise (quiet_said ws) refl

-- a comment is no call
pub quiet_comment : (line : List ℕ) → of_line line ≡ NoCall → is_call (sort_of line) ≡ false
unfolding sort_of
quiet_comment line e = rw e (quiet_if (is_marked line) (promised (words line)) Blank (quiet_words (words line)) refl)

pub sort_call : (line : List ℕ) (ask : Ask) → of_line line ≡ Asks ask → sort_of line ≡ Calls ask
unfolding sort_of
sort_call line ask e = rw e refl

-- what is no call makes no place and leaves the moment
quiet_place : (g : Geometry) (m : Moment) (given : List Promise) (n : ℕ) (s : Sort) (later : List Place) → is_call s ≡ false → with_place g m given n s later ≡ later
quiet_place g m given n (Calls ask) later e = absurd (let no : true ≡ false = e in cc)
quiet_place g m given n Blank later e = refl
quiet_place g m given n (Promises form names) later e = refl
quiet_place g m given n Ends later e = refl
quiet_place g m given n BadCall later e = refl
quiet_place g m given n BadPromise later e = refl

quiet_moment : (g : Geometry) (m : Moment) (s : Sort) → is_call s ≡ false → moment_behind g m s ≡ m
quiet_moment g m (Calls ask) e = absurd (let no : true ≡ false = e in cc)
quiet_moment g m Blank e = refl
quiet_moment g m (Promises form names) e = refl
quiet_moment g m Ends e = refl
quiet_moment g m BadCall e = refl
quiet_moment g m BadPromise e = refl

-- the promises behind a line
abbrev pub promises_behind : Geometry → Moment → List Promise → ℕ → List ℕ → List (List ℕ) → List Promise
promises_behind g m given n line ls = in_force given n (sort_of line) m.state.table (end_table g m ls)

-- the places behind a comment, and those of a call
pub places_comment : (g : Geometry) (m : Moment) (given : List Promise) (n : ℕ) (line : List ℕ) (ls : List (List ℕ)) → is_call (sort_of line) ≡ false → places g m given n (line ∷ ls) ≡ places g m (promises_behind g m given n line ls) (n + 1) ls
unfolding places
places_comment g m given n line ls quiet =
    let same : moment_behind g m (sort_of line) ≡ m = quiet_moment g m (sort_of line) quiet in
    quiet_place g m given n (sort_of line) _ quiet ∙ ap (λ (j : Moment). places g j (promises_behind g m given n line ls) (n + 1) ls) same

pub places_call : (g : Geometry) (m : Moment) (given : List Promise) (n : ℕ) (line : List ℕ) (ls : List (List ℕ)) (ask : Ask) → sort_of line ≡ Calls ask
    → places g m given n (line ∷ ls) ≡ (record { line = n; tables = from_settled m (steps g true m.state ask); promises = given }) ∷ places g (after g true m ask) given (n + 1) ls
unfolding places
places_call g m given n line ls ask is = rw is refl

pub places_end : (g : Geometry) (m : Moment) (given : List Promise) (n : ℕ) → places g m given n [] ≡ (record { line = n; tables = from_settled m []; promises = given }) ∷ []
unfolding places
places_end g m given n = refl

-- ---- the walk

first_place : (p : Place) (ps : List Place) (table : List File) → IsAmong table p.tables → HasTable (p ∷ ps) 0 table
first_place p ps table among = record { place = p; place_is = refl; among = among }

later_place : (p : Place) (ps : List Place) (k : ℕ) (table : List File) → HasTable ps k table → HasTable (p ∷ ps) (suc k) table
later_place p ps k table h = record { place = h.place; place_is = h.place_is; among = h.among }

-- the places behind a line
abbrev pub Behind : Geometry → ℕ → List (List ℕ) → List File → Type 0
Behind g n ls table = (m : Moment) (given : List Promise) (asks later : List Ask) → calls_of ls ≡ asks ++ later → MayBeLeft g (after_all g m (plain asks)) later table → HasTable (places g m given n ls) (length asks) table

module _ (g : Geometry) (m : Moment) (given : List Promise) (n : ℕ) (line : List ℕ) (ls : List (List ℕ)) (table : List File) (behind : Behind g (n + 1) ls table) where
  call_by : (ask : Ask) (xs ys : List Ask) → sort_of line ≡ Calls ask → ask ∷ calls_of ls ≡ xs ++ ys → MayBeLeft g (after_all g m (plain xs)) ys table → HasTable (places g m given n (line ∷ ls)) (length xs) table
  unfolding after_all
  call_by ask [] [] sort is may = absurd (cc)
  call_by ask [] (b ∷ ys) sort is may =
      let first : ask ≡ b = cc in
      subst (λ (ps : List Place). HasTable ps 0 table) (sym (places_call g m given n line ls ask sort))
      (first_place _ _ table (subst (λ (a : Ask). IsAmong table (from_settled m (steps g true m.state a))) (sym first) may))
  call_by ask (a ∷ xs) ys sort is may =
      let first : ask ≡ a = cc in
      let rest : calls_of ls ≡ xs ++ ys = cc in
      subst (λ (ps : List Place). HasTable ps (suc (length xs)) table) (sym (places_call g m given n line ls ask sort))
      (later_place _ _ (length xs) table (behind (after g true m ask) given xs ys rest
      (subst (λ (c : Ask). MayBeLeft g (after_all g (after g true m c) (plain xs)) ys table) (sym first) may)))

  by_parsed : (asks later : List Ask) → (of_line line ≡ Bad → ⊥) → with_line (of_line line) (calls_of ls) ≡ asks ++ later → MayBeLeft g (after_all g m (plain asks)) later table → (p : Parsed) → of_line line ≡ p → HasTable (places g m given n (line ∷ ls)) (length asks) table
  by_parsed asks later good calls left Bad e = absurd (good e)
  by_parsed asks later good calls left NoCall e =
      let rest : calls_of ls ≡ asks ++ later = (rw e at calls) in
      subst (λ (ps : List Place). HasTable ps (length asks) table) (sym (places_comment g m given n line ls (quiet_comment line e)))
      (behind m (promises_behind g m given n line ls) asks later rest left)
  by_parsed asks later good calls left (Asks ask) e =
      let is : ask ∷ calls_of ls ≡ asks ++ later = (rw e at calls) in
      call_by ask asks later (sort_call line ask e) is left

pub place_of : (g : Geometry) (m : Moment) (given : List Promise) (n : ℕ) (ls : List (List ℕ)) (asks later : List Ask) (table : List File) → AllInGrammar ls → calls_of ls ≡ asks ++ later
    → MayBeLeft g (after_all g m (plain asks)) later table → HasTable (places g m given n ls) (length asks) table
unfolding AllInGrammar calls_of after_all
place_of g m given n [] [] [] table good calls left = subst (λ (ps : List Place). HasTable ps 0 table) (sym (places_end g m given n)) (first_place _ [] table left)
place_of g m given n [] [] (ask ∷ later) table good calls left = absurd (cc)
place_of g m given n [] (ask ∷ asks) later table good calls left = absurd (cc)
place_of g m given n (line ∷ ls) asks later table good calls left = by_parsed g m given n line ls table (λ j now xs ys is may. place_of g j now (n + 1) ls xs ys table good.1 is may) asks later good.0 calls left (of_line line) refl
