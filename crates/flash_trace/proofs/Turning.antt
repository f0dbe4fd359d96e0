-- What a script has ahead, line by line.
use Rattle.std.proofs.Common.{◌≡◌, ℕ, ◌+◌, List, [], drop, refl, ◌∙◌, ap, arith, Option}
use Rattle.geometry.specs.declared.geometry.Geometry.{Geometry}
use Rattle.table_model.specs.Ask.{Ask}
use Rattle.table_model.specs.Window.{Moment}
use Rattle.call_script.specs.Lines.{Asks, Bad, lines, of_line, calls_of}
use Rattle.flash_trace.specs.declared.ways.Ways.{Ways}
use Rattle.flash_trace.specs.declared.ways.Ahead.TheVariants.{End, Bad as ABad, Call}
use Rattle.flash_trace.specs.Good.{first_bad}
use Rattle.flash_trace.specs.Lines.{IsLine, Skips}
use Rattle.flash_trace.specs.Ways.{AreWays}
use Rattle.flash_trace.specs.Places.{IsFound}

module _ (g : Geometry) (m : Moment) (script : List ℕ) (at line to number : ℕ) (skips : Skips script at line to number) where
  abbrev asks : List Ask
  asks = calls_of (lines (drop at script))

  abbrev bad : Option ℕ
  bad = first_bad line (lines (drop at script))

  -- the end of the script
  pub found_end : lines (drop to script) ≡ [] → IsFound g m script asks bad End to number
  unfolding calls_of first_bad
  found_end none = record { is = (skips.asks ∙ ap calls_of none, skips.bad ∙ ap (first_bad number) none); within = skips.within; few = skips.few }

  -- a line outside the grammar
  pub found_bad : (text : List ℕ) (behind : ℕ) → IsLine script to text behind → of_line text ≡ Bad → IsFound g m script asks bad (ABad number) to number
  unfolding calls_of first_bad
  found_bad text behind is outside = record {
    is = (skips.asks ∙ ap calls_of is.lines_are ∙ rw outside refl, skips.bad ∙ ap (first_bad number) is.lines_are ∙ rw outside refl);
    within = skips.within;
    few = skips.few;
  }

  -- a call
  pub found_call : (text : List ℕ) (behind : ℕ) (ask : Ask) (ways : Ways) → IsLine script to text behind → of_line text ≡ Asks ask → AreWays g m ask ways → IsFound g m script asks bad (Call ways) behind (number + 1)
  unfolding calls_of first_bad
  found_call text behind ask ways is call are = record {
    is = (ask, skips.asks ∙ ap calls_of is.lines_are ∙ rw call refl, skips.bad ∙ ap (first_bad number) is.lines_are ∙ rw call refl, are);
    within = is.within;
    few = omega (arith, skips.few, is.on);
  }
