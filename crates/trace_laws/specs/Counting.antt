-- How many whole replies were said.
use Rattle.std.specs.Prelude.{◌≡◌, ℕ, ◌+◌, List, [], ◌∷◌, ◌++◌, length, drop, Bool, true, false, not, nat_eq, ◌&&◌, if◌then◌else◌}
use Rattle.std.specs.List.{starts_with}
use Rattle.geometry.specs.declared.geometry.Geometry.{Geometry}
use Rattle.table_model.specs.Table.{State}
use Rattle.table_model.specs.Ask.{Ask}
use Rattle.table_model.specs.Flat.{answer}
use Rattle.table_model.specs.Steps.{is_refusal, cuts_file}
use Rattle.table_model.specs.Window.{Moment, after}
use Rattle.run_model.specs.Runs.{RunCall, AreFair, asks_of, replies, has_index_room}
use Rattle.trace_laws.specs.Standing.{line_of}

-- The corner, as a test: a call cuts a file, the table has no room for an index page, and the flat table would do it.
unfoldable pub is_corner : Geometry → State → Ask → Bool
is_corner g s ask = cuts_file ask && not (has_index_room g s.table) && not (is_refusal (answer g true s ask).answer)

-- These bytes begin with the reply line of a call, answered so.
unfoldable pub begins_so : Geometry → Moment → Ask → Bool → List ℕ → Bool
begins_so g m ask spare said = starts_with nat_eq said (line_of g m ask spare)

-- how many of the replies to some calls, one after the other, these bytes hold whole
unfoldable pub replies_in : Geometry → Moment → List Ask → List ℕ → ℕ
replies_in g m [] said = 0
replies_in g m (ask ∷ asks) said =
    if begins_so g m ask true said then replies_in g (after g true m ask) asks (drop (length (line_of g m ask true)) said) + 1
    else if is_corner g m.state ask && begins_so g m ask false said
    then replies_in g (after g false m ask) asks (drop (length (line_of g m ask false)) said) + 1
    else 0

-- The replies to all calls of a run are counted, whatever is said behind them.
abbrev pub CountsReplies : Geometry → Type 0
CountsReplies g = (m : Moment) (done : List RunCall) (part : List ℕ) → AreFair g m done → replies_in g m (asks_of done) (replies g m done ++ part) ≡ length done
