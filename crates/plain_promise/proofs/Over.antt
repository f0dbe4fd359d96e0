-- A walk over the places of a script, from line to line.
use Rattle.std.proofs.Common.{◌≡◌, ℕ, suc, ◌+◌, ◌<◌, ◌≤◌, List, [], ◌∷◌, ◌++◌, length, map, get_or, drop, refl, sym, ◌∙◌, ap, subst, arith, inl, inr, ⊎_elim, Option, Some, None, true, false, Vec, length-drop}
use Rattle.std.specs.Prelude.{filter}
use Rattle.std.specs.declared.alloc.Global.{Global}
use Rattle.std.proofs.lemmas.Bool.{cases_Bool}
use Rattle.std.proofs.lemmas.List.{drop_more, get_or_default, length-map, map-append}
use Rattle.geometry.specs.declared.geometry.Geometry.{Geometry}
use Rattle.table_model.specs.Table.{File}
use Rattle.table_model.specs.Window.{Moment, from_settled}
use Rattle.call_script.specs.Lines.{lines}
use Rattle.plain_table.specs.Seen.{file, files_of}
use Rattle.plain_table.specs.Moments.{moment_of, geometry_of}
use Rattle.plain_table.specs.declared.file.PlainFile.{PlainFile}
use Rattle.promise_model.specs.declared.form.Form.{Form}
use Rattle.promise_model.specs.Lines.{Sort, Blank, Calls, Promises, Ends, BadCall, BadPromise, sort_of}
use Rattle.promise_model.specs.Promises.{Promise, bytes_of}
use Rattle.promise_model.specs.Places.{Place, places, with_place, moment_behind, in_force, end_or, end_table, outlasts}
use Rattle.promise_model.specs.Verdicts.{Broken, FindsTable, FindsPlace, table_count}
use Rattle.plain_promise.specs.declared.promise.PlainPromise.{PlainPromise}
use Rattle.plain_promise.specs.declared.broken.Broken.{Broken as PlainBroken}
use Rattle.plain_promise.specs.declared.walk.Walk.{Walk}
use Rattle.plain_promise.specs.declared.walk.Turn.{Turn}
use Rattle.plain_promise.specs.declared.walk.Turn.TheVariants.{Broken as Breaks, On}
use Rattle.plain_promise.specs.Seen.{promise, broken}
use Rattle.plain_promise.specs.Walks.{IsLine, with_end, end_tables, end_or_none, given_of, tables_at, GoesOver, Turns, TurnsLast, IsWalked, places_from, IsOnWay, HasEnds}

-- ---- the tables at the ends

-- there is one at least: that of the next end
pub record Heads (all : List (List File)) (first : List File) : Type 0 where
  pub others : List (List File)
  pub is : all ≡ first ∷ others

ends_by : (here first : List File) (s : Sort) (all : List (List File)) → Heads all first → Heads (with_end here s all) (end_or here s first)
ends_by here first Ends all h = record { others = all; is = refl }
ends_by here first Blank all h = h
ends_by here first (Calls ask) all h = h
ends_by here first (Promises form names) all h = h
ends_by here first BadCall all h = h
ends_by here first BadPromise all h = h

pub ends_head : (g : Geometry) (m : Moment) (ls : List (List ℕ)) → Heads (end_tables g m ls) (end_table g m ls)
unfolding end_tables end_table
ends_head g m [] = record { others = []; is = refl }
ends_head g m (line ∷ ls) = ends_by m.state.table (end_table g (moment_behind g m (sort_of line)) ls) (sort_of line) (end_tables g (moment_behind g m (sort_of line)) ls) (ends_head g (moment_behind g m (sort_of line)) ls)

-- what a walk knows at a line
pub record IsWalking (all : List Place) (ends : List (Vec PlainFile Global)) (script : List ℕ) (at : ℕ) (w : Walk) : Type 0 where
  pub within : at ≤ length script
  pub few : w.line ≤ at + 1
  pub ended : w.ended ≤ at
  pub way : IsOnWay all w (lines (drop at script))
  pub left : HasEnds ends w (lines (drop at script))

pub walking_first : (ends : List (Vec PlainFile Global)) (script : List ℕ) (w : Walk) → w.given.items ≡ [] → w.line ≡ 1 → w.ended ≡ 0 → w.tables ≡ 0 → map files_of ends ≡ end_tables (geometry_of w.moment) (moment_of w.moment) (lines script)
    → IsWalking (places (geometry_of w.moment) (moment_of w.moment) [] 1 (lines script)) ends script 0 w
walking_first ends script w none first begun zero all =
    let given : given_of w ≡ [] = ap (map promise) none in
    let same : places_from w (lines script) ≡ places (geometry_of w.moment) (moment_of w.moment) [] 1 (lines script) = rw given (rw first refl) in
    record {
      within = omega arith;
      few = omega (arith, first);
      ended = omega (arith, begun);
      way = record { finds = λ o f. subst (λ (ps : List Place). FindsPlace ps o) same f; counts = (let e = ap table_count same in omega (arith, e, zero)) };
      left = ap (λ (k : ℕ). map files_of (drop k ends)) begun ∙ all;
    }

-- an end is left
pub ends_left : (ends : List (Vec PlainFile Global)) (w : Walk) (ls : List (List ℕ)) → HasEnds ends w ls → w.ended < length ends
ends_left ends w ls has =
    let h = ends_head (geometry_of w.moment) (moment_of w.moment) ls in
    let count : length (map files_of (drop w.ended ends)) ≡ suc (length h.others) = ap length (has ∙ h.is) in
    omega (arith, count, length-map (drop w.ended ends) files_of, length-drop w.ended ends)

-- the tables from the next end on
ends_are : (ends : List (Vec PlainFile Global)) (k : ℕ) (d : Vec PlainFile Global) → k < length ends → map files_of (drop k ends) ≡ files_of (get_or ends k d) ∷ map files_of (drop (k + 1) ends)
ends_are ends k d less = ap (map files_of) (drop_more ends k d less)

in_force_there : (given : List Promise) (n : ℕ) (s : Sort) (here there other : List File) → ((form : Form) (names : List (List ℕ)) → s ≡ Promises form names → there ≡ other) → in_force given n s here there ≡ in_force given n s here other
in_force_there given n (Promises form names) here there other same = ap (in_force given n (Promises form names) here) (same form names refl)
in_force_there given n Blank here there other same = refl
in_force_there given n (Calls ask) here there other same = refl
in_force_there given n Ends here there other same = refl
in_force_there given n BadCall here there other same = refl
in_force_there given n BadPromise here there other same = refl

-- behind a line the ends are those that are left
ends_behind : (ends : List (Vec PlainFile Global)) (k next : ℕ) (d : Vec PlainFile Global) (here : List File) (s : Sort) (later : List (List File)) → k < length ends → next ≡ k + end_or_none s → map files_of (drop k ends) ≡ with_end here s later → map files_of (drop next ends) ≡ later
ends_behind ends k next d here Ends later less is has =
    let all : files_of (get_or ends k d) ∷ map files_of (drop (k + 1) ends) ≡ here ∷ later = sym (ends_are ends k d less) ∙ has in
    let rest : map files_of (drop (k + 1) ends) ≡ later = cc in
    ap (λ (n : ℕ). map files_of (drop n ends)) is ∙ rest
ends_behind ends k next d here Blank later less is has = let same : next ≡ k = omega (arith, is) in ap (λ (n : ℕ). map files_of (drop n ends)) same ∙ has
ends_behind ends k next d here (Calls ask) later less is has = let same : next ≡ k = omega (arith, is) in ap (λ (n : ℕ). map files_of (drop n ends)) same ∙ has
ends_behind ends k next d here (Promises form names) later less is has = let same : next ≡ k = omega (arith, is) in ap (λ (n : ℕ). map files_of (drop n ends)) same ∙ has
ends_behind ends k next d here BadCall later less is has = let same : next ≡ k = omega (arith, is) in ap (λ (n : ℕ). map files_of (drop n ends)) same ∙ has
ends_behind ends k next d here BadPromise later less is has = let same : next ≡ k = omega (arith, is) in ap (λ (n : ℕ). map files_of (drop n ends)) same ∙ has

end_few : (s : Sort) → end_or_none s ≤ 1
end_few Ends = omega arith
end_few Blank = omega arith
end_few (Calls ask) = omega arith
end_few (Promises form names) = omega arith
end_few BadCall = omega arith
end_few BadPromise = omega arith

-- ---- the place of a line

module _ (g : Geometry) (m : Moment) (given : List Promise) (n : ℕ) (rest : List Place) where
  place_kept : (s : Sort) (o : Option Broken) → FindsTable given n 0 (tables_at g m s) None → FindsPlace rest o → FindsPlace (with_place g m given n s rest) o
  unfolding FindsPlace
  place_kept (Calls ask) o kept f = inr (kept, f)
  place_kept Blank o kept f = f
  place_kept (Promises form names) o kept f = f
  place_kept Ends o kept f = f
  place_kept BadCall o kept f = f
  place_kept BadPromise o kept f = f

  none_found : (b : Broken) → FindsTable given n 0 [] (Some b) → ⊥
  unfolding FindsTable
  none_found b f = let no : Some b ≡ None = f in absurd (cc)

  place_broken : (s : Sort) (b : Broken) → FindsTable given n 0 (tables_at g m s) (Some b) → FindsPlace (with_place g m given n s rest) (Some b)
  unfolding FindsPlace
  place_broken (Calls ask) b f = inl (b, f, refl)
  place_broken Blank b f = absurd (none_found b f)
  place_broken (Promises form names) b f = absurd (none_found b f)
  place_broken Ends b f = absurd (none_found b f)
  place_broken BadCall b f = absurd (none_found b f)
  place_broken BadPromise b f = absurd (none_found b f)

  place_counts : (s : Sort) → table_count (with_place g m given n s rest) ≡ length (tables_at g m s) + table_count rest
  unfolding table_count
  place_counts (Calls ask) = refl
  place_counts Blank = omega arith
  place_counts (Promises form names) = omega arith
  place_counts Ends = omega arith
  place_counts BadCall = omega arith
  place_counts BadPromise = omega arith

places_on : (g : Geometry) (m : Moment) (given : List Promise) (n : ℕ) (line : List ℕ) (ls : List (List ℕ)) → places g m given n (line ∷ ls) ≡ with_place g m given n (sort_of line) (places g (moment_behind g m (sort_of line)) (in_force given n (sort_of line) m.state.table (end_table g m ls)) (n + 1) ls)
unfolding places
places_on g m given n line ls = refl

end_on : (g : Geometry) (m : Moment) (line : List ℕ) (ls : List (List ℕ)) → end_tables g m (line ∷ ls) ≡ with_end m.state.table (sort_of line) (end_tables g (moment_behind g m (sort_of line)) ls)
unfolding end_tables
end_on g m line ls = refl

module _ (all : List Place) (ends : List (Vec PlainFile Global)) (script : List ℕ) (at : ℕ) (w : Walk) (was : IsWalking all ends script at w) (line : List ℕ) (behind : ℕ) (is : IsLine script at line behind) (d : Vec PlainFile Global) where
  abbrev geo : Geometry
  geo = geometry_of w.moment

  abbrev here : Moment
  here = moment_of w.moment

  abbrev s : Sort
  s = sort_of line

  abbrev ls : List (List ℕ)
  ls = lines (drop behind script)

  abbrev there : List File
  there = files_of (get_or ends w.ended d)

  less : w.ended < length ends
  less = ends_left ends w (lines (drop at script)) was.left

  has : map files_of (drop w.ended ends) ≡ with_end here.state.table s (end_tables geo (moment_behind geo here s) ls)
  has = was.left ∙ ap (end_tables geo here) is.lines_are ∙ end_on geo here line ls

  -- a promise's end
  promise_there : (form : Form) (names : List (List ℕ)) → s ≡ Promises form names → there ≡ end_table geo here ls
  promise_there form names sort =
      let h = ends_head geo here ls in
      let rest : map files_of (drop w.ended ends) ≡ end_tables geo here ls = has ∙ ap (λ (t : Sort). with_end here.state.table t (end_tables geo (moment_behind geo here t) ls)) sort in
      let first : there ∷ map files_of (drop (w.ended + 1) ends) ≡ end_table geo here ls ∷ h.others = sym (ends_are ends w.ended d less) ∙ rest ∙ h.is in
      cc

  abbrev rest : List Place
  rest = places geo (moment_behind geo here s) (in_force (given_of w) w.line s here.state.table (end_table geo here ls)) (w.line + 1) ls

  places_are : places_from w (lines (drop at script)) ≡ with_place geo here (given_of w) w.line s rest
  places_are = ap (places_from w) is.lines_are ∙ places_on geo here (given_of w) w.line line ls

  rest_is : (next : Walk) → GoesOver s there w next → places_from next ls ≡ rest
  rest_is next on =
      ap (λ (h : Geometry). places h (moment_of next.moment) (given_of next) next.line ls) on.geometry
      ∙ ap (λ (j : Moment). places geo j (given_of next) next.line ls) on.moment
      ∙ ap (λ (ps : List Promise). places geo (moment_behind geo here s) ps next.line ls) (on.given ∙ in_force_there (given_of w) w.line s here.state.table there (end_table geo here ls) promise_there)
      ∙ ap (λ (n : ℕ). places geo (moment_behind geo here s) (in_force (given_of w) w.line s here.state.table (end_table geo here ls)) n ls) on.line

  -- behind a line at which all is kept
  pub walking_on : (next : Walk) → GoesOver s there w next → IsWalking all ends script behind next
  walking_on next on = record {
    within = is.within;
    few = omega (arith, was.few, is.on, on.line);
    ended = omega (arith, was.ended, is.on, on.ended, end_few s);
    way = record {
      finds = λ o f. was.way.finds o (subst (λ (ps : List Place). FindsPlace ps o) (sym places_are) (place_kept geo here (given_of w) w.line rest s o on.kept (subst (λ (ps : List Place). FindsPlace ps o) (rest_is next on) f)));
      counts =
          let now : table_count (places_from next ls) ≡ table_count rest = ap table_count (rest_is next on) in
          let before : table_count (places_from w (lines (drop at script))) ≡ length (tables_at geo here s) + table_count rest = ap table_count places_are ∙ place_counts geo here (given_of w) w.line rest s in
          omega (arith, now, before, on.count, was.way.counts);
    };
    left = ends_behind ends w.ended next.ended d here.state.table s (end_tables geo (moment_behind geo here s) ls) less on.ended has
        ∙ ap (λ (j : Moment). end_tables geo j ls) (sym on.moment) ∙ ap (λ (h : Geometry). end_tables h (moment_of next.moment) ls) (sym on.geometry);
  }

  -- a promise is broken at a line
  pub walking_broken : (b : PlainBroken) → Turns s there w (Breaks b) → FindsPlace all (Some (broken b))
  walking_broken b f = was.way.finds (Some (broken b)) (subst (λ (ps : List Place). FindsPlace ps (Some (broken b))) (sym places_are) (place_broken geo here (given_of w) w.line rest s (broken b) f))

-- behind the last line
module _ (all : List Place) (ends : List (Vec PlainFile Global)) (script : List ℕ) (at : ℕ) (w : Walk) (was : IsWalking all ends script at w) (none : lines (drop at script) ≡ []) where
  last_is : places_from w (lines (drop at script)) ≡ (record { line = w.line; tables = from_settled (moment_of w.moment) []; promises = given_of w }) ∷ []
  unfolding places
  last_is = ap (places_from w) none

  last_found : (turn : Turn) → TurnsLast w turn → IsWalked all turn
  unfolding FindsPlace table_count
  last_found (Breaks b) f = was.way.finds (Some (broken b)) (subst (λ (ps : List Place). FindsPlace ps (Some (broken b))) (sym last_is) (inl (broken b, f, refl)))
  last_found (On last) f = (
    was.way.finds None (subst (λ (ps : List Place). FindsPlace ps None) (sym last_is) (inr (f.0, refl))),
    (let now = ap table_count last_is in omega (arith, now, f.1, was.way.counts)),
  )

  pub walked_last : (turn : Turn) → TurnsLast w turn → IsWalked all turn
  walked_last turn f = last_found turn f

-- ---- the promises that last

pub kept_filter : (ps : List PlainPromise) → map promise (filter (λ p. outlasts (promise p)) ps) ≡ filter outlasts (map promise ps)
kept_filter [] = refl
kept_filter (p ∷ ps) = ⊎_elim
    (λ (yes : outlasts (promise p) ≡ true). rw yes (ap (λ (l : List Promise). promise p ∷ l) (kept_filter ps)))
    (λ (no : outlasts (promise p) ≡ false). rw no (kept_filter ps))
    (cases_Bool (outlasts (promise p)))

pub given_push : (ps : List PlainPromise) (p : PlainPromise) → map promise (ps ++ (p ∷ [])) ≡ map promise ps ++ (promise p ∷ [])
given_push ps p = map-append promise ps (p ∷ [])

-- ---- lines that are no call

-- a walk behind a line that has no place, with these promises
abbrev pub behind_line : Walk → Vec PlainPromise Global → ℕ → Walk
behind_line w given ended = record { moment = w.moment; given = given; line = w.line + 1; ended = ended; tables = w.tables }

no_tables : (given : List Promise) (line : ℕ) → FindsTable given line 0 [] None
unfolding FindsTable
no_tables given line = refl

pub over_blank : (w : Walk) (there : List File) → GoesOver Blank there w (behind_line w w.given w.ended)
over_blank w there = record { moment = refl; geometry = refl; given = refl; line = refl; ended = omega arith; kept = no_tables (given_of w) w.line; count = omega arith }

pub over_bad_call : (w : Walk) (there : List File) → GoesOver BadCall there w (behind_line w w.given w.ended)
over_bad_call w there = record { moment = refl; geometry = refl; given = refl; line = refl; ended = omega arith; kept = no_tables (given_of w) w.line; count = omega arith }

pub over_bad_promise : (w : Walk) (there : List File) → GoesOver BadPromise there w (behind_line w w.given w.ended)
over_bad_promise w there = record { moment = refl; geometry = refl; given = refl; line = refl; ended = omega arith; kept = no_tables (given_of w) w.line; count = omega arith }

pub over_end : (w : Walk) (given : Vec PlainPromise Global) → given.items ≡ filter (λ p. outlasts (promise p)) w.given.items → (there : List File) → GoesOver Ends there w (behind_line w given (w.ended + 1))
over_end w given lasts there = record {
  moment = refl;
  geometry = refl;
  given = ap (map promise) lasts ∙ kept_filter w.given.items;
  line = refl;
  ended = refl;
  kept = no_tables (given_of w) w.line;
  count = omega arith;
}

pub over_promise : (w : Walk) (given : Vec PlainPromise Global) (p : PlainPromise) (form : Form) (names : List (List ℕ)) (there : List File) → given.items ≡ w.given.items ++ (p ∷ [])
    → promise p ≡ (record { line = w.line; form = form; names = names; here = bytes_of names (moment_of w.moment).state.table; there = bytes_of names there })
    → GoesOver (Promises form names) there w (behind_line w given w.ended)
over_promise w given p form names there made is = record {
  moment = refl;
  geometry = refl;
  given = ap (map promise) made ∙ given_push w.given.items p ∙ ap (λ (q : Promise). given_of w ++ (q ∷ [])) is;
  line = refl;
  ended = omega arith;
  kept = no_tables (given_of w) w.line;
  count = omega arith;
}

-- ---- what a line is

pub turn_as : (s t : Sort) (there : List File) (w : Walk) (turn : Turn) → s ≡ t → Turns s there w turn → Turns t there w turn
turn_as s t there w turn is on = subst (λ (u : Sort). Turns u there w turn) is on

-- a promise has the table of the next end at its end
pub turn_there : (s t : Sort) (ends : List (Vec PlainFile Global)) (k : ℕ) (d x : Vec PlainFile Global) (files : List PlainFile) (w next : Walk) → s ≡ t → k < length ends → x ≡ get_or ends k x → files ≡ x.items
    → GoesOver s (map file files) w next → Turns t (files_of (get_or ends k d)) w (On next)
turn_there s t ends k d x files w next is less at all on =
    let there : map file files ≡ files_of (get_or ends k d) = ap (map file) all ∙ ap files_of (at ∙ get_or_default ends k x d less) in
    turn_as s t (files_of (get_or ends k d)) w (On next) is (subst (λ (ts : List File). GoesOver s ts w next) there on)
