-- What calls of a copy do one after the other.
use Rattle.std.proofs.Common.{◌≡◌, ◌+◌, ℕ, List, true, Result, Ok, Err, sym, subst}
use Rattle.std.specs.Prelude.{OnOk, IfErr}
use Rattle.nor_core.specs.declared.state.NorState.{Ghosts as NorOf}
use Rattle.table_model.specs.declared.reply.Stat.{Stat}
use Rattle.table_model.specs.declared.reply.Info.{Info}
use Rattle.table_model.specs.Ask.{Removes, Renames, Informs}
use Rattle.volume.specs.declared.volume.Volume.{Volume}
use Rattle.copy_model.specs.declared.err.CopyErr.{CopyErr}
use Rattle.copy_model.specs.declared.err.CopyErr.TheVariants.{Full}
use Rattle.copy_model.specs.Copying.{working}
use Rattle.copy_model.specs.Tasks.{Task}
use Rattle.copy_model.specs.Parts.{IsWhole, IsMarked, IsCleared, IsPassed}
use Rattle.vol_copy.specs.Stages.{Rests, LacksRoom, CutsUnder, Leads, StopsAs, StopsFrom, OnlyFaults}
use Rattle.vol_copy.specs.Went.{Went, done_as, removed_as, info_as}
use Rattle.vol_copy.proofs.Composing.{rests_some, lacks_some, cuts_then}
use Rattle.vol_copy.proofs.Places.{clear_cuts, clear_leads, clear_stops, place_cuts, place_leads, place_stops, on_ok, if_err}
use Rattle.vol_copy.proofs.Lacking.{LacksOf, info_cuts, info_leads, info_stops, give_cuts, give_ends, give_stops}

module _ {M : Type 0} {nor : NorOf M} where
  -- a fault of the target alone may stop a copy
  pub faults_stop : (A : Task → Volume M nor → Type 0) (old new : Volume M nor) (why : CopyErr) → OnlyFaults A old why → StopsFrom A old new why
  faults_stop A old new why only = λ t has known. subst (StopsAs t new) (sym (only t has known)) tt

  -- calls that lead there come first
  pub only_then : (A B : Task → Volume M nor → Type 0) (old mid : Volume M nor) (why : CopyErr) → Leads A B old mid → OnlyFaults B mid why → OnlyFaults A old why
  only_then A B old mid why leads only = λ t has. only t (leads t has)

  pub stops_then : (A B : Task → Volume M nor → Type 0) (old mid new : Volume M nor) (why : CopyErr) → Leads A B old mid → StopsFrom B mid new why → StopsFrom A old new why
  stops_then A B old mid new why leads stops = λ t has. stops t (leads t has)

-- ---- the working file takes the place of the file of its name

module _ {M : Type 0} {nor : NorOf M} (stat : Stat) (name : List ℕ) (named : name ≡ stat.name) (old mid : Volume M nor) (r : Result (Unit {0}) CopyErr) (first : Went removed_as (Removes name) old mid r) where
  cleared_as : Went removed_as (Removes stat.name) old mid r
  cleared_as = subst (λ (n : List ℕ). Went removed_as (Removes n) old mid r) named first

  pub unplaced_cuts : CutsUnder (Rests (IsMarked stat)) old mid
  unplaced_cuts = clear_cuts stat old mid r cleared_as

  pub unplaced_stops : (why : CopyErr) → r ≡ Err why → OnlyFaults (Rests (IsMarked stat)) old why
  unplaced_stops why is = clear_stops stat old mid r cleared_as why is

  module _ (ok : r ≡ Ok tt) (again : List ℕ) (named_again : again ≡ stat.name) (new : Volume M nor) (result : Result (Unit {0}) CopyErr) (second : Went done_as (Renames working again) mid new result) where
    clears : Leads (Rests (IsMarked stat)) (Rests (IsCleared stat)) old mid
    clears = clear_leads stat old mid r cleared_as ok

    named_as : Went done_as (Renames working stat.name) mid new result
    named_as = subst (λ (n : List ℕ). Went done_as (Renames working n) mid new result) named_again second

    pub placed_cuts : CutsUnder (Rests (IsMarked stat)) old new
    placed_cuts = cuts_then (Rests (IsMarked stat)) (Rests (IsCleared stat)) old mid new (λ t has. rests_some t mid has) unplaced_cuts clears (place_cuts stat mid new result named_as)

    pub placed_done : OnOk result (Leads (Rests (IsMarked stat)) (Rests (IsPassed stat true)) old new)
    placed_done = on_ok result (λ done. λ t has. place_leads stat mid new result named_as done t (clears t has))

    pub placed_stops : IfErr result (OnlyFaults (Rests (IsMarked stat)) old)
    placed_stops = if_err result (λ why is. λ t has known. place_stops stat mid new result named_as why is t (clears t has) known)

-- ---- there is no room

module _ {M : Type 0} {nor : NorOf M} (index pages : ℕ) (old mid : Volume M nor) (r : Result Info CopyErr) (first : Went info_as Informs old mid r) where
  pub untold_cuts : CutsUnder (LacksRoom index pages) old mid
  untold_cuts = info_cuts index pages old mid r first

  pub untold_stops : (why : CopyErr) → r ≡ Err why → StopsFrom (LacksRoom index pages) old mid why
  untold_stops why is = info_stops index pages old mid r first why is

  module _ (info : Info) (ok : r ≡ Ok info) (new : Volume M nor) (result : Result (Unit {0}) CopyErr) (second : Went removed_as (Removes working) mid new result) where
    tells : Leads (LacksRoom index pages) (LacksOf info index pages) old mid
    tells = info_leads index pages old mid r first info ok

    pub given_cuts : CutsUnder (LacksRoom index pages) old new
    given_cuts = cuts_then (LacksRoom index pages) (LacksOf info index pages) old mid new (λ t has. lacks_some t mid has.lacks) untold_cuts tells (give_cuts info index pages mid new result second)

    pub given_ends : result ≡ Ok tt → StopsFrom (LacksRoom index pages) old new (Full (info.index_pages + index) (info.data_pages + pages))
    given_ends done = λ t has known. give_ends info index pages mid new result second done t (tells t has) known

    pub given_stops : (why : CopyErr) → result ≡ Err why → StopsFrom (LacksRoom index pages) old new why
    given_stops why is = λ t has known. give_stops info index pages mid new result second why is t (tells t has) known

-- ---- a file is copied

module _ {M : Type 0} {nor : NorOf M} (stat : Stat) (A : Task → Volume M nor → Type 0) (old filled : Volume M nor) (cuts : CutsUnder A old filled) (done : Leads A (Rests (IsWhole stat)) old filled) (marked : Volume M nor) where
  pub whole_cuts : CutsUnder (Rests (IsWhole stat)) filled marked → CutsUnder A old marked
  whole_cuts next = cuts_then A (Rests (IsWhole stat)) old filled marked (λ t has. rests_some t filled has) cuts done next

  pub whole_stops : (why : CopyErr) → OnlyFaults (Rests (IsWhole stat)) filled why → StopsFrom A old marked why
  whole_stops why only = faults_stop A old marked why (only_then A (Rests (IsWhole stat)) old filled why done only)

  module _ (mark_cuts : CutsUnder (Rests (IsWhole stat)) filled marked) (mark_done : Leads (Rests (IsWhole stat)) (Rests (IsMarked stat)) filled marked) (new : Volume M nor) where
    all_marked : Leads A (Rests (IsMarked stat)) old marked
    all_marked = λ t has. mark_done t (done t has)

    pub copied_cuts : CutsUnder (Rests (IsMarked stat)) marked new → CutsUnder A old new
    copied_cuts next = cuts_then A (Rests (IsMarked stat)) old marked new (λ t has. rests_some t marked has) (whole_cuts mark_cuts) all_marked next

    pub copied_done : (result : Result (Unit {0}) CopyErr) → OnOk result (Leads (Rests (IsMarked stat)) (Rests (IsPassed stat true)) marked new) → OnOk result (Leads A (Rests (IsPassed stat true)) old new)
    copied_done (Ok x) next = λ t has. next t (all_marked t has)
    copied_done (Err why) next = tt {0}

    pub copied_stops : (result : Result (Unit {0}) CopyErr) → IfErr result (OnlyFaults (Rests (IsMarked stat)) marked) → IfErr result (StopsFrom A old new)
    copied_stops (Ok x) next = tt {0}
    copied_stops (Err why) next = faults_stop A old new why (only_then A (Rests (IsMarked stat)) old marked why all_marked next)
