-- What the judge tests between two events.
use Rattle.std.specs.Prelude.{◌≡◌, ◌↔◌, ℕ, ◌<◌, ◌⊎◌, List, [], length, map, IsTrue, Option, Some, None, Vec}
use Rattle.std.specs.declared.alloc.Global.{Global}
use Rattle.geometry.specs.declared.geometry.Geometry.{Geometry}
use Rattle.table_model.specs.Window.{from_settled, IsAmong}
use Rattle.image_model.specs.Places.{has_magic}
use Rattle.image_model.specs.Live.{live_at}
use Rattle.image_model.specs.Tables.{table_of}
use Rattle.image_model.specs.Sound.{IsSound}
use Rattle.run_model.specs.Runs.{IsPart, LacksPage}
use Rattle.plain_table.specs.declared.file.PlainFile.{PlainFile}
use Rattle.plain_table.specs.Seen.{file, files_of}
use Rattle.plain_table.specs.Moments.{moment_of}
use Rattle.flash_trace.specs.declared.case.Case.{Case}
use Rattle.flash_trace.specs.declared.spot.Place.{Place}
use Rattle.flash_trace.specs.declared.picture.Picture.{Picture}
use Rattle.flash_trace.specs.declared.ways.Way.{Way}
use Rattle.flash_trace.specs.declared.ways.Ahead.{Ahead}
use Rattle.flash_trace.specs.declared.ways.Ahead.TheVariants.{End, Bad, Call}
use Rattle.flash_trace.specs.Good.{IsBegun, bad_text, unbegun_text}
use Rattle.flash_trace.specs.Places.{part_of}

-- two images have the same live pages, and magics in the same blocks
pub record MeansSame (g : Geometry) (a b : List ℕ) : Type 0 where
  pub live : (k : ℕ) → live_at g b k ≡ live_at g a k
  pub magics : (block : ℕ) → block < g.blocks → has_magic g b block ≡ has_magic g a block

-- an image with its table, and whether it is sound with respect to the first one of a case
pub record IsPicture (case : Case) (p : Picture) : Type 0 where
  pub size : length p.image.items ≡ length case.first.now
  pub seen_size : length p.seen.items ≡ length case.first.now
  pub seen : MeansSame case.g.now p.seen.items p.image.items
  pub table : map file p.table.items ≡ table_of case.g.now p.image.items
  pub sound : IsTrue p.is_sound ↔ IsSound case.g.now p.image.items case.first.now

-- the table is one from the last settled to the last of these further steps
abbrev pub MayLeave : Place → Picture → List (Vec PlainFile Global) → Type 0
MayLeave place p steps = IsAmong (map file p.table.items) (from_settled (moment_of place.moment) (map files_of steps))

-- a part of the reply was said that a call is given in the corner
abbrev pub StandsTight : Case → Picture → Place → Way → Option Way → Type 0
StandsTight case p place plain None = ⊥
StandsTight case p place plain (Some tight) =
    IsPart (part_of place) tight.line.items × MayLeave place p plain.steps.items × MayLeave place p tight.steps.items × LacksPage case.g.now p.image.items

-- a cut in the calls may leave it
abbrev pub StandsAhead : Case → Picture → Place → Ahead → Type 0
StandsAhead case p place End = (part_of place ≡ []) × MayLeave place p []
StandsAhead case p place (Bad number) = (part_of place ≡ []) × MayLeave place p []
StandsAhead case p place (Call ways) =
    (IsPart (part_of place) ways.plain.line.items × MayLeave place p ways.plain.steps.items)
    ⊎ ((0 < length (part_of place)) × StandsTight case p place ways.plain ways.tight)

-- the table is that after the calls that were answered
abbrev pub IsTable : Picture → Place → Type 0
IsTable p place = map file p.table.items ≡ (moment_of place.moment).state.table

-- the line about a line outside the grammar was begun
abbrev pub EndsAhead : Picture → Place → Ahead → Type 0
EndsAhead p place End = ⊥
EndsAhead p place (Bad number) = IsBegun (part_of place) (bad_text number) × IsTable p place
EndsAhead p place (Call ways) = ⊥

-- the line was begun that ends a run before its first call
pub record BeginsNot (case : Case) (p : Picture) (place : Place) : Type 0 where
  pub none : place.replies ≡ 0
  pub line : List ℕ
  pub why : unbegun_text case.g.now case.first.now p.image.items ≡ Some line
  pub begun : IsBegun (part_of place) line
  pub table : IsTable p place

-- what was said and the table are those of a cut in a run
abbrev pub SaysHere : Case → Picture → Place → Type 0
SaysHere case p place = StandsAhead case p place place.ahead ⊎ (EndsAhead p place place.ahead ⊎ BeginsNot case p place)
