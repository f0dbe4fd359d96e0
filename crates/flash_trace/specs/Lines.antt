-- The lines of a script that lies in memory, from a place in it on.
use Rattle.std.specs.Prelude.{◌≡◌, ℕ, ◌+◌, ◌<◌, ◌≤◌, ◌∷◌, List, length, drop}
use Rattle.call_script.specs.Lines.{lines, calls_of}
use Rattle.flash_trace.specs.Good.{first_bad}

-- a line begins there, and the next one at `behind`
pub record IsLine (script : List ℕ) (at : ℕ) (line : List ℕ) (behind : ℕ) : Type 0 where
  pub lines_are : lines (drop at script) ≡ line ∷ lines (drop behind script)
  pub on : at < behind
  pub within : behind ≤ length script

-- The lines from one place on, the first of them with that number, have the calls and the first bad line of those from another place on.
pub record Skips (script : List ℕ) (at line to number : ℕ) : Type 0 where
  pub asks : calls_of (lines (drop at script)) ≡ calls_of (lines (drop to script))
  pub bad : first_bad line (lines (drop at script)) ≡ first_bad number (lines (drop to script))
  pub within : to ≤ length script
  pub few : number ≤ to + 1
