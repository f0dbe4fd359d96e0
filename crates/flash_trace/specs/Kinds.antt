-- What a line of a script is, as the judge has it.
use Rattle.std.specs.Prelude.{◌≡◌}
use Rattle.geometry.specs.declared.geometry.Geometry.{Geometry}
use Rattle.table_model.specs.Ask.{Ask}
use Rattle.table_model.specs.Window.{Moment}
use Rattle.call_script.specs.Lines.{Parsed, NoCall, Asks, Bad}
use Rattle.flash_trace.specs.declared.place.Kind.{Kind}
use Rattle.flash_trace.specs.declared.place.Kind.TheVariants.{Blank, Bad as IsBad, Call}
use Rattle.flash_trace.specs.Ways.{AreWays}

-- it is no call, outside the grammar, or a call that may be answered in these ways
abbrev pub IsKind : Geometry → Moment → Parsed → Kind → Type 0
IsKind g m parsed Blank = parsed ≡ NoCall
IsKind g m parsed IsBad = parsed ≡ Bad
IsKind g m parsed (Call ways) = (ask : Ask) × (parsed ≡ Asks ask) × AreWays g m ask ways
