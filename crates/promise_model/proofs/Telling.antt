-- What a rehearsal tells is so.
use Rattle.std.proofs.Common.{◌≡◌, ℕ, ◌+◌, List, [], ◌∷◌, ◌++◌, length, refl, sym, ◌∙◌, ap, subst, arith, inl, inr, Option, Some, None, Bool, true, false}
use Rattle.std.specs.Prelude.{if◌then◌else◌}
use Rattle.std.specs.List.{All}
use Rattle.std.proofs.lemmas.Option.{same_Some}
use Rattle.std.proofs.lemmas.List.Elements.{All-nil, All-cons}
use Rattle.geometry.specs.declared.geometry.Geometry.{Geometry}
use Rattle.table_model.specs.Table.{File}
use Rattle.table_model.specs.Ask.{Ask}
use Rattle.table_model.specs.Window.{Moment, after, settled_at}
use Rattle.call_script.specs.Lines.{Parsed, NoCall, Asks, Bad, of_line, lines, calls_of, with_line}
use Rattle.run_model.specs.Runs.{IsCorner}
use Rattle.run_model.specs.Rooms.{AllFindRoom}
use Rattle.trace_laws.specs.Counting.{is_corner}
use Rattle.trace_laws.proofs.Counting.{corner_is}
use Rattle.promise_model.specs.Lines.{Sort, Blank, Calls, Promises, Ends, BadCall, BadPromise, sort_of}
use Rattle.promise_model.specs.Promises.{Promise, Keeps}
use Rattle.promise_model.specs.Places.{Place, IsKeptAt, AreKept, moment_behind}
use Rattle.promise_model.specs.Laws.{AllInGrammar}
use Rattle.promise_model.specs.Verdicts.{Fault, or_fault, fault_at, first_fault, is_open, is_tight, first_tight, Broken, Finds, FindsTable, FindsPlace, IsBroken, KeptIsGood, BrokenIsStep}
use Rattle.promise_model.proofs.Walking.{is_call, quiet_comment, sort_call}

none_some : {X : Type 0} (x : X) → None ≡ Some x → ⊥
none_some x e = absurd (cc)

-- ---- the lines

or_none : (a b : Option Fault) → or_fault a b ≡ None → (a ≡ None) × (b ≡ None)
or_none None b e = (refl, e)
or_none (Some fault) b e = absurd (none_some fault (sym e))

sort_bad : (line : List ℕ) → of_line line ≡ Bad → sort_of line ≡ BadCall
unfolding sort_of
sort_bad line e = rw e refl

not_bad : (within : Bool) (n : ℕ) (line : List ℕ) → fault_at within n (sort_of line) ≡ None → of_line line ≡ Bad → ⊥
not_bad within n line none e =
    let is : fault_at within n BadCall ≡ None = subst (λ (s : Sort). fault_at within n s ≡ None) (sort_bad line e) none in
    none_some _ (sym is)

all_in_grammar : (within : Bool) (n : ℕ) (ls : List (List ℕ)) → first_fault within n ls ≡ None → AllInGrammar ls
unfolding first_fault AllInGrammar
all_in_grammar within n [] none = tt {0}
all_in_grammar within n (line ∷ ls) none =
    let parts = or_none (fault_at within n (sort_of line)) _ none in
    (not_bad within n line parts.0, all_in_grammar (is_open within (sort_of line)) (n + 1) ls parts.1)

-- ---- the calls

quiet_tight : (g : Geometry) (m : Moment) (n : ℕ) (s : Sort) (ls : List (List ℕ)) → is_call s ≡ false → (if is_tight g m s then Some n else first_tight g (moment_behind g m s) (n + 1) ls) ≡ first_tight g m (n + 1) ls
quiet_tight g m n (Calls ask) ls e = absurd (let no : true ≡ false = e in cc)
quiet_tight g m n Blank ls e = refl
quiet_tight g m n (Promises form names) ls e = refl
quiet_tight g m n Ends ls e = refl
quiet_tight g m n BadCall ls e = refl
quiet_tight g m n BadPromise ls e = refl

tight_comment : (g : Geometry) (m : Moment) (n : ℕ) (line : List ℕ) (ls : List (List ℕ)) → of_line line ≡ NoCall → first_tight g m n (line ∷ ls) ≡ first_tight g m (n + 1) ls
unfolding first_tight
tight_comment g m n line ls e = quiet_tight g m n (sort_of line) ls (quiet_comment line e)

tight_call : (g : Geometry) (m : Moment) (n : ℕ) (line : List ℕ) (ls : List (List ℕ)) (ask : Ask) → of_line line ≡ Asks ask → first_tight g m n (line ∷ ls) ≡ (if is_corner g m.state ask then Some n else first_tight g (after g true m ask) (n + 1) ls)
unfolding first_tight
tight_call g m n line ls ask e = rw (sort_call line ask e) refl

-- the calls behind a line find room
abbrev pub RoomBehind : Geometry → ℕ → List (List ℕ) → Type 0
RoomBehind g n ls = (m : Moment) → first_tight g m n ls ≡ None → AllFindRoom g m (calls_of ls)

module _ (g : Geometry) (m : Moment) (n : ℕ) (line : List ℕ) (ls : List (List ℕ)) (behind : RoomBehind g (n + 1) ls) where
  room_call : (ask : Ask) (b : Bool) → is_corner g m.state ask ≡ b → (if b then Some n else first_tight g (after g true m ask) (n + 1) ls) ≡ None → AllFindRoom g m (ask ∷ calls_of ls)
  unfolding AllFindRoom
  room_call ask true corner is = absurd (none_some n (sym is))
  room_call ask false corner is =
      (λ (c : IsCorner g m.state ask). let no : true ≡ false = sym (corner_is g m.state ask c) ∙ corner in absurd (cc), behind (after g true m ask) is)

  room_line : (of_line line ≡ Bad → ⊥) → first_tight g m n (line ∷ ls) ≡ None → (p : Parsed) → of_line line ≡ p → AllFindRoom g m (with_line (of_line line) (calls_of ls))
  room_line good none Bad e = absurd (good e)
  room_line good none NoCall e = subst (λ (q : Parsed). AllFindRoom g m (with_line q (calls_of ls))) (sym e) (behind m (sym (tight_comment g m n line ls e) ∙ none))
  room_line good none (Asks ask) e =
      subst (λ (q : Parsed). AllFindRoom g m (with_line q (calls_of ls))) (sym e) (room_call ask (is_corner g m.state ask) refl (sym (tight_call g m n line ls ask e) ∙ none))

pub find_room : (g : Geometry) (m : Moment) (n : ℕ) (ls : List (List ℕ)) → AllInGrammar ls → first_tight g m n ls ≡ None → AllFindRoom g m (calls_of ls)
unfolding AllInGrammar AllFindRoom calls_of
find_room g m n [] good none = tt {0}
find_room g m n (line ∷ ls) good none = room_line g m n line ls (λ j is. find_room g j (n + 1) ls good.1 is) good.0 none (of_line line) refl

-- ---- the promises

keeps_each : (ps : List Promise) (t : List File) → Finds ps t None → All (λ p. Keeps p t) ps
unfolding Finds
keeps_each [] t f = All-nil (λ p. Keeps p t)
keeps_each (p ∷ ps) t (inl f) = absurd (none_some _ f.1)
keeps_each (p ∷ ps) t (inr f) = All-cons (λ q. Keeps q t) p ps f.0 (keeps_each ps t f.1)

keeps_tables : (ps : List Promise) (line k : ℕ) (ts : List (List File)) → FindsTable ps line k ts None → All (λ t. All (λ p. Keeps p t) ps) ts
unfolding FindsTable
keeps_tables ps line k [] f = All-nil (λ t. All (λ p. Keeps p t) ps)
keeps_tables ps line k (t ∷ ts) (inl f) = absurd (none_some _ f.2)
keeps_tables ps line k (t ∷ ts) (inr f) = All-cons (λ u. All (λ p. Keeps p u) ps) t ts (keeps_each ps t f.0) (keeps_tables ps line (k + 1) ts f.1)

keeps_at : (place : Place) → FindsTable place.promises place.line 0 place.tables None → IsKeptAt place
keeps_at place f = keeps_tables place.promises place.line 0 place.tables f

pub are_kept : (ps : List Place) → FindsPlace ps None → AreKept ps
unfolding FindsPlace AreKept
are_kept [] f = tt {0}
are_kept (p ∷ ps) (inl f) = absurd (none_some _ f.2)
are_kept (p ∷ ps) (inr f) = (keeps_at p f.0, are_kept ps f.1)

-- the promise that a table breaks
record Breaks (ps : List Promise) (t : List File) (line : ℕ) : Type 0 where
  given : List Promise
  promise : Promise
  others : List Promise
  promises_are : ps ≡ given ++ (promise ∷ others)
  promise_is : line ≡ promise.line
  kept_given : All (λ p. Keeps p t) given
  broken : Keeps promise t → ⊥

breaks : (ps : List Promise) (t : List File) (line : ℕ) → Finds ps t (Some line) → Breaks ps t line
unfolding Finds
breaks [] t line f = absurd (none_some line (sym f))
breaks (p ∷ ps) t line (inl f) = record { given = []; promise = p; others = ps; promises_are = refl; promise_is = same_Some line p.line f.1; kept_given = All-nil (λ q. Keeps q t); broken = f.0 }
breaks (p ∷ ps) t line (inr f) =
    let b = breaks ps t line f.1 in
    record { given = p ∷ b.given; promise = b.promise; others = b.others; promises_are = ap (λ (l : List Promise). p ∷ l) b.promises_are; promise_is = b.promise_is; kept_given = All-cons (λ q. Keeps q t) p b.given f.0 b.kept_given; broken = b.broken }

-- the table that breaks one
record BreaksIn (ps : List Promise) (line k : ℕ) (ts : List (List File)) (b : Broken) : Type 0 where
  line_is : b.line ≡ line
  earlier : List (List File)
  later : List (List File)
  tables_are : ts ≡ earlier ++ (b.table ∷ later)
  step_is : b.step ≡ k + length earlier
  kept_earlier : All (λ u. All (λ p. Keeps p u) ps) earlier
  breaks : Breaks ps b.table b.promise

breaks_in : (ps : List Promise) (line k : ℕ) (ts : List (List File)) (b : Broken) → FindsTable ps line k ts (Some b) → BreaksIn ps line k ts b
unfolding FindsTable
breaks_in ps line k [] b f = absurd (none_some b (sym f))
breaks_in ps line k (t ∷ ts) b (inl f) =
    let is : b ≡ record { promise = f.0; line = line; step = k; table = t } = same_Some b _ f.2 in
    subst (BreaksIn ps line k (t ∷ ts)) (sym is) (record { line_is = refl; earlier = []; later = ts; tables_are = refl; step_is = omega arith; kept_earlier = All-nil (λ u. All (λ p. Keeps p u) ps); breaks = breaks ps t f.0 f.1 })
breaks_in ps line k (t ∷ ts) b (inr f) =
    let w = breaks_in ps line (k + 1) ts b f.1 in
    record { line_is = w.line_is; earlier = t ∷ w.earlier; later = w.later; tables_are = ap (λ (l : List (List File)). t ∷ l) w.tables_are; step_is = omega (arith, w.step_is); kept_earlier = All-cons (λ u. All (λ p. Keeps p u) ps) t w.earlier (keeps_each ps t f.0) w.kept_earlier; breaks = w.breaks }

pub is_broken : (ps : List Place) (b : Broken) → FindsPlace ps (Some b) → IsBroken ps b
unfolding FindsPlace AreKept
is_broken [] b f = absurd (none_some b (sym f))
is_broken (p ∷ ps) b (inl f) =
    let is : b ≡ f.0 = same_Some b f.0 f.2 in
    let w = breaks_in p.promises p.line 0 p.tables b (subst (λ (c : Broken). FindsTable p.promises p.line 0 p.tables (Some c)) (sym is) f.1) in
    record {
      before = [];
      place = p;
      behind = ps;
      places_are = refl;
      kept_before = tt {0};
      line_is = w.line_is;
      earlier = w.earlier;
      later = w.later;
      tables_are = w.tables_are;
      step_is = omega (arith, w.step_is);
      kept_earlier = w.kept_earlier;
      given = w.breaks.given;
      promise = w.breaks.promise;
      others = w.breaks.others;
      promises_are = w.breaks.promises_are;
      promise_is = w.breaks.promise_is;
      kept_given = w.breaks.kept_given;
      broken = w.breaks.broken;
    }
is_broken (p ∷ ps) b (inr f) =
    let w = is_broken ps b f.1 in
    record {
      before = p ∷ w.before;
      place = w.place;
      behind = w.behind;
      places_are = ap (λ (l : List Place). p ∷ l) w.places_are;
      kept_before = (keeps_at p f.0, w.kept_before);
      line_is = w.line_is;
      earlier = w.earlier;
      later = w.later;
      tables_are = w.tables_are;
      step_is = w.step_is;
      kept_earlier = w.kept_earlier;
      given = w.given;
      promise = w.promise;
      others = w.others;
      promises_are = w.promises_are;
      promise_is = w.promise_is;
      kept_given = w.kept_given;
      broken = w.broken;
    }

pub kept_is_good : (g : Geometry) → KeptIsGood g
kept_is_good g s script promises tables told =
    let good : AllInGrammar (lines script) = all_in_grammar false 1 (lines script) told.0.0 in
    record { in_grammar = good; finds_room = find_room g (settled_at s) 1 (lines script) good told.0.1; kept = are_kept _ told.1 }

pub broken_is_step : (g : Geometry) → BrokenIsStep g
broken_is_step g s script b told = is_broken _ b told.1
