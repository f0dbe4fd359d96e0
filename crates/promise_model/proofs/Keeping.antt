-- Promises that are kept at each place are kept in each run.
use Rattle.std.proofs.Common.{◌≡◌, ℕ, zero, suc, List, [], ◌∷◌, ◌++◌, length, refl, sym, ◌∙◌, ap, subst, inl, inr, append_assoc, Some, true}
use Rattle.std.specs.List.{All, slice_get}
use Rattle.std.proofs.lemmas.List.Elements.{All-head, All-tail}
use Rattle.geometry.specs.declared.geometry.Geometry.{Geometry}
use Rattle.table_model.specs.Table.{File, State}
use Rattle.table_model.specs.Ask.{Ask}
use Rattle.table_model.specs.Steps.{steps}
use Rattle.table_model.specs.Window.{Moment, settled_at, from_settled, IsAmong}
use Rattle.call_script.specs.Lines.{lines, calls}
use Rattle.image_model.specs.Tables.{table_of}
use Rattle.run_model.specs.Runs.{RunCall, AreFair, next, asks_of, plain, after_all, IsUnderWay}
use Rattle.run_model.specs.Rooms.{AllFindRoom}
use Rattle.run_model.proofs.Runs.{asks-append, among_settled}
use Rattle.run_model.proofs.Rooms.{roomy_plain}
use Rattle.promise_model.specs.Promises.{Keeps}
use Rattle.promise_model.specs.Places.{Place, IsKeptAt, AreKept}
use Rattle.promise_model.specs.Laws.{places_of, KeepsAll, IsGood, CutsKeep, EndsKeep}
use Rattle.promise_model.proofs.Walking.{MayBeLeft, HasTable, place_of}
use Rattle.promise_model.proofs.Waits.{there_settled, calls_there}

-- what holds of each table holds of one of them
all_among : (P : List File → Type 0) (t : List File) (us : List (List File)) → All P us → IsAmong t us → P t
unfolding IsAmong
all_among P t [] all among = absurd among
all_among P t (u ∷ us) all (inl is) = subst P (sym is) (All-head P u us all)
all_among P t (u ∷ us) all (inr later) = all_among P t us (All-tail P u us all) later

-- a place among those at which all is kept
kept_place : (ps : List Place) (k : ℕ) (place : Place) → AreKept ps → slice_get ps k ≡ Some place → IsKeptAt place
unfolding AreKept
kept_place [] k place kept is = absurd (cc)
kept_place (p ∷ ps) zero place kept is = let same : p ≡ place = cc in subst IsKeptAt same kept.0
kept_place (p ∷ ps) (suc k) place kept is = kept_place ps k place kept.1 is

-- the first of some fair calls are fair
pub fair_front : (g : Geometry) (m : Moment) (xs ys : List RunCall) → AreFair g m (xs ++ ys) → AreFair g m xs
unfolding AreFair
fair_front g m [] ys fair = tt {0}
fair_front g m (x ∷ xs) ys fair = (fair.0, fair_front g (next g m x) xs ys fair.1)

-- what stands while some calls are under way may be left before them
left_under_way : (g : Geometry) (m : Moment) (under : List RunCall) (later : List Ask) (part image : List ℕ) → IsUnderWay g m under part image → MayBeLeft g m (asks_of under ++ later) (table_of g image)
unfolding IsUnderWay
left_under_way g m [] [] part image way = way.1
left_under_way g m [] (ask ∷ asks) part image way = among_settled m (table_of g image) (steps g true m.state ask) way.1
left_under_way g m (x ∷ xs) later part image way = way.among

-- what is settled or waits may be left before any calls
left_there : (g : Geometry) (m : Moment) (later : List Ask) (t : List File) → IsAmong t (from_settled m []) → MayBeLeft g m later t
left_there g m [] t there = there
left_there g m (ask ∷ asks) t there = among_settled m t (steps g true m.state ask) there

length_asks : (xs : List RunCall) → length (asks_of xs) ≡ length xs
length_asks [] = refl
length_asks (x ∷ xs) = ap suc (length_asks xs)

module _ (g : Geometry) (s : State) (script : List ℕ) (good : IsGood g s script) where
  -- first calls of a run are answered as with two free blocks
  front_plain : (front : List RunCall) (later : List Ask) → calls script ≡ asks_of front ++ later → AreFair g (settled_at s) front → front ≡ plain (asks_of front)
  front_plain front later asks_are fair = roomy_plain g (settled_at s) front later (inr (subst (AllFindRoom g (settled_at s)) asks_are good.finds_room)) fair

  -- the place behind them
  behind : (front : List RunCall) (later : List Ask) (t : List File) → calls script ≡ asks_of front ++ later → AreFair g (settled_at s) front → MayBeLeft g (after_all g (settled_at s) front) later t → KeepsAll g s script (length front) t
  behind front later t asks_are fair may =
      let left : MayBeLeft g (after_all g (settled_at s) (plain (asks_of front))) later t = subst (λ (xs : List RunCall). MayBeLeft g (after_all g (settled_at s) xs) later t) (front_plain front later asks_are fair) may in
      let found : HasTable (places_of g s script) (length front) t = subst (λ (k : ℕ). HasTable (places_of g s script) k t) (length_asks front) (place_of g (settled_at s) [] 1 (lines script) (asks_of front) later t good.in_grammar asks_are left) in
      record {
        place = found.place;
        place_is = found.place_is;
        among = found.among;
        keeps = all_among (λ (table : List File). All (λ p. Keeps p table) found.place.promises) t found.place.tables (kept_place (places_of g s script) (length front) found.place good.kept found.place_is) found.among;
      }

pub cuts_keep : (g : Geometry) → CutsKeep g
cuts_keep g s script good done later asks_are fair said image cut =
    let split : asks_of done ≡ asks_of cut.front ++ asks_of cut.later = ap asks_of cut.calls_are ∙ asks-append cut.front cut.later in
    let all : calls script ≡ asks_of cut.front ++ (asks_of cut.later ++ later) = asks_are ∙ ap (λ (l : List Ask). l ++ later) split ∙ append_assoc (asks_of cut.front) (asks_of cut.later) later in
    behind g s script good cut.front (asks_of cut.later ++ later) (table_of g image) all
    (fair_front g (settled_at s) cut.front cut.later (subst (AreFair g (settled_at s)) cut.calls_are fair))
    (left_under_way g (after_all g (settled_at s) cut.front) cut.later later cut.part image cut.under_way)

pub ends_keep : (g : Geometry) → EndsKeep g
ends_keep g s script good done later asks_are fair =
    let same : done ≡ plain (asks_of done) = front_plain g s script good done later asks_are fair in
    behind g s script good done later (after_all g (settled_at s) done).state.table asks_are fair
    (left_there g (after_all g (settled_at s) done) later (after_all g (settled_at s) done).state.table
    (subst (λ (xs : List RunCall). IsAmong (after_all g (settled_at s) xs).state.table (from_settled (after_all g (settled_at s) xs) [])) (sym same) (calls_there g (settled_at s) (asks_of done) (there_settled s))))
