-- Where a run of a script is, as the judge has it.
use Rattle.std.specs.Prelude.{◌≡◌, ℕ, ◌+◌, ◌≤◌, ◌++◌, List, length, drop, Option}
use Rattle.geometry.specs.declared.geometry.Geometry.{Geometry}
use Rattle.table_model.specs.Ask.{Ask}
use Rattle.table_model.specs.Window.{Moment}
use Rattle.call_script.specs.Lines.{lines, calls, calls_of}
use Rattle.run_model.specs.Runs.{RunCall, AreFair, asks_of, after_all, replies}
use Rattle.plain_table.specs.Moments.{moment_of, geometry_of}
use Rattle.flash_trace.specs.declared.case.Case.{Case}
use Rattle.flash_trace.specs.declared.spot.Place.{Place}
use Rattle.flash_trace.specs.declared.ways.Ahead.{Ahead}
use Rattle.flash_trace.specs.Good.{first_moment, first_bad}
use Rattle.flash_trace.specs.Ways.{IsAhead, IsQuiet}

-- the moment before the first call
abbrev pub begins : Case → Moment
begins case = first_moment case.g.now case.slots case.first.now

-- what was said behind the last whole reply
abbrev pub part_of : Place → List ℕ
part_of place = drop place.heard place.said.items

-- what a script has ahead at a moment, and how it goes on behind that
pub record IsFound (g : Geometry) (m : Moment) (script : List ℕ) (asks : List Ask) (bad : Option ℕ) (ahead : Ahead) (at line : ℕ) : Type 0 where
  pub is : IsAhead g m asks bad (calls_of (lines (drop at script))) (first_bad line (lines (drop at script))) ahead
  pub within : at ≤ length script
  pub few : line ≤ at + 1

-- Some first calls of the script were answered, as a run answers them, and their replies said.
pub record IsPlace (g : Geometry) (m : Moment) (script : List ℕ) (place : Place) : Type 0 where
  pub done : List RunCall
  pub asks : List Ask
  pub fair : AreFair g m done
  pub asks_are : calls script ≡ asks_of done ++ asks
  pub said_is : place.said.items ≡ replies g m done ++ part_of place
  pub moment_is : moment_of place.moment ≡ after_all g m done
  pub geometry_is : geometry_of place.moment ≡ g
  pub count : place.replies ≡ length done
  pub found : IsFound g (moment_of place.moment) script asks (first_bad 1 (lines script)) place.ahead place.at place.line

-- at that place in the run of a case, with no whole reply behind it
pub record IsSettled (case : Case) (place : Place) : Type 0 where
  pub at : IsPlace case.g.now (begins case) case.script.now place
  pub quiet : IsQuiet (part_of place) place.ahead
