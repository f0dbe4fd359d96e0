-- Where the line about a line outside the grammar may stand in a run, call by call.
use Rattle.std.proofs.Common.{◌≡◌, ℕ, List, [], ◌∷◌, ◌++◌, refl, sym, ◌∙◌, ap, subst, append_assoc, Bool, Option, Some}
use Rattle.std.proofs.lemmas.List.{append_cancel_left}
use Rattle.geometry.specs.declared.geometry.Geometry.{Geometry}
use Rattle.table_model.specs.Ask.{Ask}
use Rattle.table_model.specs.Window.{Moment, after}
use Rattle.image_model.specs.Tables.{table_of}
use Rattle.run_model.specs.Runs.{RunCall, IsFair, AreFair, next, asks_of, after_all, said_of, replies}
use Rattle.trace_laws.specs.Standing.{call_of, line_of, IsUnanswered}
use Rattle.trace_laws.proofs.Standing.{one_way, fair_first}
use Rattle.flash_trace.specs.Good.{EndsBadly, IsBegun, bad_text}

-- behind all calls
pub record EndsHere (g : Geometry) (m : Moment) (bad : Option ℕ) (said image : List ℕ) : Type 0 where
  pub number : ℕ
  pub bad_is : bad ≡ Some number
  pub begun : IsBegun said (bad_text number)
  pub table : table_of g image ≡ m.state.table

module _ (g : Geometry) (bad : Option ℕ) (image : List ℕ) where
  pub end_here : (m : Moment) (said : List ℕ) → EndsHere g m bad said image → EndsBadly g m [] bad said image
  unfolding AreFair replies after_all
  end_here m said e = record { number = e.number; bad_is = e.bad_is; done = []; asks_are = refl; fair = tt {0}; part = said; said_is = refl; begun = e.begun; table = e.table }

  here_by : (m : Moment) (said : List ℕ) (number : ℕ) (done : List RunCall) (part : List ℕ) → bad ≡ Some number → [] ≡ asks_of done → said ≡ replies g m done ++ part → IsBegun part (bad_text number) → table_of g image ≡ (after_all g m done).state.table → EndsHere g m bad said image
  unfolding replies after_all
  here_by m said number [] part bad_is are is begun table = record { number = number; bad_is = bad_is; begun = subst (λ (l : List ℕ). IsBegun l (bad_text number)) (sym is) begun; table = table }
  here_by m said number (x ∷ done) part bad_is are is begun table = absurd (cc)

  pub only_here : (m : Moment) (said : List ℕ) → EndsBadly g m [] bad said image → EndsHere g m bad said image
  only_here m said e = here_by m said e.number e.done e.part e.bad_is e.asks_are e.said_is e.begun e.table

  -- the first reply was said whole
  pub ends_off : (m : Moment) (ask : Ask) (asks : List Ask) (spare : Bool) (more : List ℕ) → IsFair g m (call_of ask spare) → EndsBadly g (after g spare m ask) asks bad more image → EndsBadly g m (ask ∷ asks) bad (line_of g m ask spare ++ more) image
  unfolding AreFair replies after_all
  ends_off m ask asks spare more fair e = record {
    number = e.number;
    bad_is = e.bad_is;
    done = call_of ask spare ∷ e.done;
    asks_are = ap (λ (l : List Ask). ask ∷ l) e.asks_are;
    fair = (fair, e.fair);
    part = e.part;
    said_is = ap (λ (l : List ℕ). line_of g m ask spare ++ l) e.said_is ∙ sym (append_assoc (line_of g m ask spare) (replies g (after g spare m ask) e.done) e.part);
    begun = e.begun;
    table = e.table;
  }

  on_by : (m : Moment) (ask : Ask) (asks : List Ask) (spare : Bool) (more : List ℕ) (number : ℕ) (done : List RunCall) (part : List ℕ) → IsFair g m (call_of ask spare) → bad ≡ Some number → ask ∷ asks ≡ asks_of done → AreFair g m done → line_of g m ask spare ++ more ≡ replies g m done ++ part → IsBegun part (bad_text number)
      → table_of g image ≡ (after_all g m done).state.table → EndsBadly g (after g spare m ask) asks bad more image
  unfolding replies after_all
  on_by m ask asks spare more number [] part fair_call bad_is are fair is begun table = absurd (cc)
  on_by m ask asks spare more number (x ∷ done) part fair_call bad_is are fair is begun table =
      let first : ask ≡ x.ask = cc in
      let others : asks ≡ asks_of done = cc in
      let same : x ≡ call_of ask x.spare = ap (λ (a : Ask). call_of a x.spare) (sym first) in
      let fair_x : IsFair g m (call_of ask x.spare) × AreFair g (next g m (call_of ask x.spare)) done = subst (λ (y : RunCall). IsFair g m y × AreFair g (next g m y) done) same (fair_first g m x done fair) in
      let said_x : line_of g m ask spare ++ more ≡ line_of g m ask x.spare ++ (replies g (after g x.spare m ask) done ++ part) = is ∙ ap (λ (y : RunCall). (said_of g m y ++ replies g (next g m y) done) ++ part) same ∙ append_assoc (line_of g m ask x.spare) (replies g (after g x.spare m ask) done) part in
      let way = one_way g m ask spare x.spare fair_call fair_x.0 more (replies g (after g x.spare m ask) done ++ part) said_x in
      let table_x : table_of g image ≡ (after_all g (after g x.spare m ask) done).state.table = table ∙ ap (λ (y : RunCall). (after_all g (next g m y) done).state.table) same in
      record {
        number = number;
        bad_is = bad_is;
        done = done;
        asks_are = others;
        fair = subst (λ (j : Moment). AreFair g j done) (sym way.1) fair_x.1;
        part = part;
        said_is = append_cancel_left (line_of g m ask x.spare) more (replies g (after g x.spare m ask) done ++ part) (ap (λ (l : List ℕ). l ++ more) (sym way.0) ∙ said_x) ∙ ap (λ (j : Moment). replies g j done ++ part) (sym way.1);
        begun = begun;
        table = table_x ∙ ap (λ (j : Moment). (after_all g j done).state.table) (sym way.1);
      }

  pub ends_on : (m : Moment) (ask : Ask) (asks : List Ask) (spare : Bool) (more : List ℕ) → IsFair g m (call_of ask spare) → EndsBadly g m (ask ∷ asks) bad (line_of g m ask spare ++ more) image → EndsBadly g (after g spare m ask) asks bad more image
  ends_on m ask asks spare more fair e = on_by m ask asks spare more e.number e.done e.part fair e.bad_is e.asks_are e.fair e.said_is e.begun e.table

  not_by : (m : Moment) (ask : Ask) (asks : List Ask) (said : List ℕ) (done : List RunCall) (part : List ℕ) → IsUnanswered g m ask said → ask ∷ asks ≡ asks_of done → AreFair g m done → said ≡ replies g m done ++ part → ⊥
  unfolding replies
  not_by m ask asks said [] part not are fair is = absurd (cc)
  not_by m ask asks said (x ∷ done) part not are fair is =
      let first : ask ≡ x.ask = cc in
      let same : x ≡ call_of ask x.spare = ap (λ (a : Ask). call_of a x.spare) (sym first) in
      let fair_x : IsFair g m (call_of ask x.spare) = subst (IsFair g m) same (fair_first g m x done fair).0 in
      not x.spare fair_x (replies g (next g m x) done ++ part) (is ∙ append_assoc (said_of g m x) (replies g (next g m x) done) part ∙ ap (λ (y : RunCall). said_of g m y ++ (replies g (next g m x) done ++ part)) same)

  -- it wasn't
  pub ends_not : (m : Moment) (ask : Ask) (asks : List Ask) (said : List ℕ) → IsUnanswered g m ask said → EndsBadly g m (ask ∷ asks) bad said image → ⊥
  ends_not m ask asks said not e = not_by m ask asks said e.done e.part not e.asks_are e.fair e.said_is
