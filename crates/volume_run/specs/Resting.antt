-- Volumes on which nothing waits, and the calls of them that leave nothing waiting.
use Rattle.std.specs.Prelude.{◌≡◌, ◌≢◌, ℕ, List, ◌∷◌, Bool, true, false, not, Some, None}
use Rattle.geometry.specs.declared.geometry.Geometry.{Geometry}
use Rattle.nor_core.specs.declared.state.NorState.{Ghosts as NorOf}
use Rattle.nor_core.specs.Count.{Rose}
use Rattle.nor_core.specs.Device.{Changes, OnlyReads}
use Rattle.table_model.specs.declared.error.FsErr.TheVariants.{DeviceFault, Damaged}
use Rattle.table_model.specs.declared.error.Differ.{Differ}
use Rattle.table_model.specs.Table.{Open, State}
use Rattle.table_model.specs.Descriptors.{open_at, empties, is_direct}
use Rattle.table_model.specs.Ask.{Ask, Opens, Writes, Fills, Tells, Truncates, Collects}
use Rattle.table_model.specs.Reply.{Answer, Refuses}
use Rattle.table_model.specs.Flat.{answer}
use Rattle.table_model.specs.Steps.{steps, is_refusal, cuts_file}
use Rattle.table_model.specs.Window.{settled_at, leaves_window, incoming_of, may_wait, IsAmong}
use Rattle.image_model.specs.Tables.{table_of}
use Rattle.call_model.specs.Safe.{IsSafe}
use Rattle.run_model.specs.Ran.{RunStands}
use Rattle.file_calls.specs.Replies.{is_change}
use Rattle.volume.specs.declared.volume.Volume.{Volume}
use Rattle.volume.specs.Holds.{memory}
use Rattle.volume.specs.Same.{IsSameVolume}
use Rattle.volume.specs.Stages.{takes_calls}

-- A call that is none for garbage collection, takes no bytes from a file, does not just tell an offset, and leaves no bytes waiting.
pub record IsQuiet (g : Geometry) (s : State) (ask : Ask) : Type 0 where
  pub collects : ask ≢ Collects
  pub cuts : cuts_file ask ≡ false
  pub leaves : leaves_window ask ≡ false
  pub waits : may_wait g (incoming_of s ask) ≡ false

-- calls that are such whatever the state: no write, none for garbage collection, none that just tells an offset or takes bytes from a file
abbrev pub is_quiet : Ask → Bool
is_quiet (Opens name flags) = not (empties flags)
is_quiet (Writes fd bytes) = false
is_quiet (Fills fd count byte) = false
is_quiet (Tells fd) = false
is_quiet (Truncates fd size) = false
is_quiet Collects = false
is_quiet _ = true

abbrev pub QuietCalls : Geometry → Type 0
QuietCalls g = (s : State) (ask : Ask) → is_quiet ask ≡ true → IsQuiet g s ask

-- So is a write through a descriptor that lets no bytes wait.
abbrev pub QuietWrites : Geometry → Type 0
QuietWrites g = (s : State) (fd : ℕ) (bytes : List ℕ) (d : Open) → open_at s.slots fd ≡ Some d → is_direct d.flags ≡ true → IsQuiet g s (Writes fd bytes)

module _ {N : Type 0} {nor : NorOf N} where
  -- A volume of that geometry takes calls and stands at a state of the flat table: nothing waits, and two blocks are free.
  pub record IsAtRest (g : Geometry) (v : Volume N nor) (s : State) : Type 0 where
    pub geometry : v.geometry ≡ g
    pub takes : takes_calls v ≡ true
    pub stands : RunStands nor g v.nor.now (memory v) (settled_at s)
    pub none : (memory v).run ≡ None

  -- What a call does to such a volume: a cut leaves the table before it or that of one of its steps; a quiet call is answered as the flat
  -- table is, and the volume is at rest at the state after it; one that only looks, or is refused, only reads.
  pub record Rested (ask : Ask) (old new : Volume N nor) (reply : Answer) : Type 0 where
    pub same : IsSameVolume old new
    pub cause : reply ≡ Refuses DeviceFault → Rose (nor.faults old.nor.now) (nor.faults new.nor.now)
    pub differs : (d : Differ) → reply ≡ Refuses (Damaged d) → d.wanted ≢ d.found
    pub undamaged : (g : Geometry) (s : State) → IsAtRest g old s → (d : Differ) → reply ≡ Refuses (Damaged d) → ⊥
    pub cuts : Changes nor old.nor.now new.nor.now
        (λ was image. (g : Geometry) (s : State) → IsAtRest g old s → IsSafe g was image × IsAmong (table_of g image) (s.table ∷ steps g true s ask))
    pub answers : (g : Geometry) (s : State) → IsAtRest g old s → IsQuiet g s ask → ¬ (reply ≡ Refuses DeviceFault) →
        (reply ≡ (answer g true s ask).answer) × IsAtRest g new (answer g true s ask).next
    pub looks : is_change ask ≡ false → (memory old).run ≡ None → OnlyReads nor old.nor.now new.nor.now
    pub refused : (g : Geometry) (s : State) → IsAtRest g old s → IsQuiet g s ask → ¬ (reply ≡ Refuses DeviceFault) → is_refusal reply ≡ true →
        OnlyReads nor old.nor.now new.nor.now
