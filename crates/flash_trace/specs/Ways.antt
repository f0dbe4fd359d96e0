-- How the next call may be answered, as the judge has it.
use Rattle.std.specs.Prelude.{◌≡◌, ◌⊎◌, ℕ, ◌++◌, ◌∷◌, List, [], map, Bool, true, false, Option, Some, None}
use Rattle.geometry.specs.declared.geometry.Geometry.{Geometry}
use Rattle.table_model.specs.Ask.{Ask}
use Rattle.table_model.specs.Steps.{steps}
use Rattle.table_model.specs.Window.{Moment, after}
use Rattle.run_model.specs.Runs.{IsCorner}
use Rattle.trace_laws.specs.Standing.{line_of}
use Rattle.plain_table.specs.Seen.{files_of}
use Rattle.plain_table.specs.Moments.{moment_of, geometry_of}
use Rattle.flash_trace.specs.declared.ways.Way.{Way}
use Rattle.flash_trace.specs.declared.ways.Ways.{Ways}
use Rattle.flash_trace.specs.declared.ways.Ahead.{Ahead}
use Rattle.flash_trace.specs.declared.ways.Ahead.TheVariants.{End, Bad, Call}
use Rattle.flash_trace.specs.declared.ways.Heard.{Heard}
use Rattle.flash_trace.specs.declared.ways.Heard.TheVariants.{Whole, Part}

-- this is how a call at a moment is answered, as with two free blocks or not
pub record IsWay (g : Geometry) (m : Moment) (ask : Ask) (spare : Bool) (way : Way) : Type 0 where
  pub line : way.line.items ≡ line_of g m ask spare
  pub steps : map files_of way.steps.items ≡ steps g spare m.state ask
  pub next : moment_of way.next ≡ after g spare m ask
  pub geometry : geometry_of way.next ≡ g

-- in the corner it may be answered as without these, and nowhere else
abbrev pub IsTightWay : Geometry → Moment → Ask → Option Way → Type 0
IsTightWay g m ask None = IsCorner g m.state ask → ⊥
IsTightWay g m ask (Some way) = IsCorner g m.state ask × IsWay g m ask false way

-- all ways in which a run may answer a call
pub record AreWays (g : Geometry) (m : Moment) (ask : Ask) (ways : Ways) : Type 0 where
  pub plain : IsWay g m ask true ways.plain
  pub tight : IsTightWay g m ask ways.tight

-- The calls from the next one on are these, and the first line outside the grammar is that; behind the next call they are `rest` and `later`.
abbrev pub IsAhead : Geometry → Moment → (asks : List Ask) (bad : Option ℕ) (rest : List Ask) (later : Option ℕ) → Ahead → Type 0
IsAhead g m asks bad rest later End = (asks ≡ []) × (bad ≡ None)
IsAhead g m asks bad rest later (Bad number) = (asks ≡ []) × (bad ≡ Some number)
IsAhead g m asks bad rest later (Call ways) = (ask : Ask) × (asks ≡ ask ∷ rest) × (bad ≡ later) × AreWays g m ask ways

-- these bytes don't begin with the line of that way
abbrev pub NotBegun : List ℕ → Option Way → Type 0
NotBegun said None = Unit {0}
NotBegun said (Some way) = (more : List ℕ) → said ≡ way.line.items ++ more → ⊥

-- these bytes hold no whole reply to what is ahead
abbrev pub IsQuiet : List ℕ → Ahead → Type 0
IsQuiet said End = Unit {0}
IsQuiet said (Bad number) = Unit {0}
IsQuiet said (Call ways) = NotBegun said (Some ways.plain) × NotBegun said ways.tight

-- this is one of the ways in which what is ahead may be answered
abbrev pub IsOneOf : Way → Ahead → Type 0
IsOneOf way End = ⊥
IsOneOf way (Bad number) = ⊥
IsOneOf way (Call ways) = (way ≡ ways.plain) ⊎ (ways.tight ≡ Some way)

-- what is heard in these bytes of what is ahead
abbrev pub IsHeard : List ℕ → Ahead → Heard → Type 0
IsHeard said ahead (Whole way) = IsOneOf way ahead × ((more : List ℕ) × (said ≡ way.line.items ++ more))
IsHeard said ahead (Part same) = (same ≡ ahead) × IsQuiet said ahead
