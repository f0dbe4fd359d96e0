-- Promises in the runs of a script.
use Rattle.std.specs.Prelude.{ℕ, ◌≡◌, ◌+◌, ◌<◌, ◌⊎◌, List, [], ◌∷◌, ◌++◌, length, min, None, replicate}
use Rattle.geometry.specs.declared.geometry.Geometry.{Geometry}
use Rattle.nor_core.specs.declared.state.NorState.{Ghosts as NorOf}
use Rattle.nor_core.specs.declared.source.Source.{Ghosts as SourceOf}
use Rattle.nor_core.specs.Device.{Leaves}
use Rattle.table_model.specs.Table.{State}
use Rattle.table_model.specs.Ask.{Ask}
use Rattle.table_model.specs.Window.{Moment, settled_at}
use Rattle.call_script.specs.Lines.{calls}
use Rattle.image_model.specs.Tables.{table_of}
use Rattle.run_model.specs.Runs.{RunCall, AreFair, IsPart, asks_of, after_all, said_of, replies}
use Rattle.promise_model.specs.Laws.{KeepsAll, IsGood}
use Rattle.tool_parts.specs.declared.buffers.Lengths.{Lengths}
use Rattle.tool_parts.specs.declared.ending.Ending.{Ending}
use Rattle.tool_parts.specs.Closing.{closing_line_of}
use Rattle.script_run.specs.Running.{DoesRun}

-- the volume of an image with the lent descriptors, all of them closed
abbrev pub volume_of : Geometry → Lengths → List ℕ → State
volume_of g lent image = record { table = table_of g image; slots = replicate (min 65535 lent.slots) None }

-- Behind the replies to some calls, of which these come next: a part of the next reply, and not all of it; nothing, where none comes.
abbrev pub IsBehind : Geometry → Moment → List RunCall → List ℕ → Type 0
IsBehind g m [] part = part ≡ []
IsBehind g m (call ∷ calls) part = IsPart part (said_of g m call)

-- These were all the replies of a run, and a part of its closing line was said behind them.
pub record IsClosing {D : Type 0} (nor : NorOf D) (old new : D) (before part : List ℕ) : Type 0 where
  pub ending : Ending
  pub some : 0 < length part
  pub rest : List ℕ
  pub line_is : closing_line_of ending ≡ part ++ rest
  pub last : List ℕ
  pub unsaid : List ℕ
  pub last_is : closing_line_of ending ≡ last ++ unsaid
  pub all_said : nor.said new ≡ nor.said old ++ (before ++ last)

-- A cut in a run of a script: the replies to some first calls were said whole, and a part of what comes next, which is less than the reply to the
-- call that comes next, or of the closing line. The table that is left keeps each promise that is in force where so many calls were answered.
pub record CutKeeps {D : Type 0} (nor : NorOf D) (g : Geometry) (s : State) (script : List ℕ) (old new : D) (image : List ℕ) (count : ℕ) : Type 0 where
  pub answered : List RunCall
  pub next : List RunCall
  pub later : List Ask
  pub asks_are : calls script ≡ asks_of answered ++ (asks_of next ++ later)
  pub fair : AreFair g (settled_at s) (answered ++ next)
  pub part : List ℕ
  pub behind : IsBehind g (after_all g (settled_at s) answered) next part ⊎ IsClosing nor old new (replies g (settled_at s) answered) part
  pub count_is : count ≡ length (nor.said old) + length (replies g (settled_at s) answered ++ part)
  pub keeps : KeepsAll g s script (length answered) (table_of g image)

-- A run keeps the promises: what stood before it keeps those that are in force before the first call, and what a cut in it leaves those that are
-- in force there.
abbrev pub RunKeeps : {D : Type 0} → NorOf D → Geometry → State → (script : List ℕ) → (old new : D) → Type 0
RunKeeps nor g s script old new = KeepsAll g s script 0 s.table × Leaves nor old new (CutKeeps nor g s script old new)

-- Where a rehearsal finds a script good on an image, each run of it on that image keeps the promises.
abbrev pub RunsKeep : {D X : Type 0} → NorOf D → SourceOf X → Geometry → Type 0
RunsKeep {D} {X} nor source g = (lent : Lengths) (old new : D) (script after : X) (status : ℕ) → DoesRun nor source g lent old new script after status →
    source.tells script → nor.tells old →
    IsGood g (volume_of g lent (nor.bytes old)) (source.left script) → RunKeeps nor g (volume_of g lent (nor.bytes old)) (source.left script) old new
