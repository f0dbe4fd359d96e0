-- Calls that find room, one after another.
use Rattle.std.proofs.Common.{◌≡◌, List, [], ◌∷◌, ◌++◌, refl, sym, ◌∙◌, ap, subst, ⊎_elim, Bool, true, false}
use Rattle.std.proofs.lemmas.Bool.{cases_Bool}
use Rattle.geometry.specs.declared.geometry.Geometry.{Geometry}
use Rattle.table_model.specs.Room.{has_room}
use Rattle.table_model.specs.Ask.{Ask}
use Rattle.table_model.specs.Window.{Moment, after}
use Rattle.run_model.specs.Runs.{RunCall, IsCorner, IsFair, AreFair, next, plain, asks_of}
use Rattle.run_model.specs.Rooms.{AllFindRoom, RoomyIsPlain}
use Rattle.run_model.proofs.OneCall.{room_after}
use Rattle.run_model.proofs.IndexRoom.{room_for_index}

-- where the table has room each call finds it
all_room : (g : Geometry) (m : Moment) (asks : List Ask) → has_room g m.state.table ≡ true → AllFindRoom g m asks
unfolding AllFindRoom
all_room g m [] room = tt {0}
all_room g m (ask ∷ asks) room = (λ corner. let no : false ≡ true = sym corner.full ∙ room_for_index g m.state.table room in absurd (cc), all_room g (after g true m ask) asks (room_after g m ask room))

-- a fair call that isn't in the corner has two free blocks
is_plain : (g : Geometry) (m : Moment) (call : RunCall) → (IsCorner g m.state call.ask → ⊥) → IsFair g m call → call.spare ≡ true
is_plain g m call none fair = ⊎_elim (λ yes. yes) (λ no. absurd (none (fair no))) (cases_Bool call.spare)

all_plain : (g : Geometry) (m : Moment) (calls : List RunCall) (later : List Ask) → AllFindRoom g m (asks_of calls ++ later) → AreFair g m calls → calls ≡ plain (asks_of calls)
unfolding AllFindRoom AreFair
all_plain g m [] later finds fair = refl
all_plain g m (call ∷ calls) later finds fair =
    let spare : call.spare ≡ true = is_plain g m call finds.0 fair.0 in
    let same : call ≡ record { ask = call.ask; spare = true } = ap (λ (b : Bool). record { ask = call.ask; spare = b }) spare in
    let on : next g m call ≡ after g true m call.ask = ap (λ (b : Bool). after g b m call.ask) spare in
    let rest : calls ≡ plain (asks_of calls) = all_plain g (after g true m call.ask) calls later finds.1 (subst (λ (j : Moment). AreFair g j calls) on fair.1) in
    ap (λ (c : RunCall). c ∷ calls) same ∙ ap (λ (cs : List RunCall). record { ask = call.ask; spare = true } ∷ cs) rest

pub roomy_plain : (g : Geometry) → RoomyIsPlain g
roomy_plain g m calls later roomy fair = all_plain g m calls later (⊎_elim (λ room. all_room g m (asks_of calls ++ later) room) (λ finds. finds) roomy) fair
