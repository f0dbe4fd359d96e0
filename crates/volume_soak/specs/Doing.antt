-- What turns leave of a volume.
use Rattle.std.specs.Prelude.{◌≡◌, ℕ, Bool, length, Option}
use Rattle.geometry.specs.declared.geometry.Geometry.{Geometry}
use Rattle.nor_core.specs.declared.state.NorState.{Ghosts as NorOf}
use Rattle.table_model.specs.Table.{State}
use Rattle.volume.specs.declared.volume.Volume.{Volume}
use Rattle.table_model.specs.declared.reply.Stat.{Stat}
use Rattle.table_model.specs.Table.{file_above}
use Rattle.table_model.specs.Calls.{shown}
use Rattle.file_calls.specs.Replies.{shown_or_end}
use Rattle.volume_run.specs.Ready.{IsReady, HasTable}
use Rattle.volume_soak.specs.Turns.{Turn, Soaked, soaked, bytes_in}
use Rattle.volume_soak.specs.declared.soaking.Summary.{Summary}

module _ {N : Type 0} {nor : NorOf N} where
  -- A turn was made: the volume stands at the state after it, and it is told whether all of it was done.
  pub record Did (g : Geometry) (new : Volume N nor) (t : Turn) (ok : Bool) : Type 0 where
    pub ready : IsReady g new t.state
    pub ok_is : ok ≡ t.ok

  -- the same of a volume that stood at any state
  abbrev pub DidFrom : Volume N nor → (Geometry → State → Turn) → Volume N nor → Bool → Type 0
  DidFrom old turn new ok = (g : Geometry) (s : State) → IsReady g old s → Did g new (turn g s) ok

  -- Some turns were made: the volume stands at the state after them, and so many were done.
  pub record HasSoaked (g : Geometry) (new : Volume N nor) (s : Soaked) (ok : ℕ) : Type 0 where
    pub ready : IsReady g new s.state
    pub ok_is : ok ≡ s.ok

  -- the same of a volume that stood at any state
  abbrev pub HasSoakedFrom : Volume N nor → (seed turns : ℕ) → Volume N nor → ℕ → Type 0
  HasSoakedFrom old seed turns new ok = (g : Geometry) (s : State) → IsReady g old s → HasSoaked g new (soaked g s seed turns) ok

  -- The volume stands at the state after so many turns, and a summary tells how many were done, the files and their bytes.
  pub record IsSummary (g : Geometry) (new : Volume N nor) (s : Soaked) (summary : Summary) : Type 0 where
    pub ready : IsReady g new s.state
    pub ok_is : summary.ok ≡ s.ok
    pub files_are : summary.files ≡ length s.state.table
    pub bytes_are : summary.bytes ≡ bytes_in s.state.table

  -- the same of a volume that stood at any state
  abbrev pub IsSummaryFrom : Volume N nor → (seed turns : ℕ) → Volume N nor → Summary → Type 0
  IsSummaryFrom old seed turns new summary = (g : Geometry) (s : State) → IsReady g old s → IsSummary g new (soaked g s seed turns) summary

  -- The file of the least id above one was told, of a volume at a state, which stands there still, and no written bytes wait.
  pub record Finds (g : Geometry) (s : State) (after : ℕ) (new : Volume N nor) (found : Option Stat) : Type 0 where
    pub ready : IsReady g new s
    pub table : HasTable g new s
    pub found_is : shown_or_end found ≡ shown (file_above after s.table)

  -- the same of a volume that stood at any state
  abbrev pub FindsFrom : Volume N nor → (after : ℕ) → Volume N nor → Option Stat → Type 0
  FindsFrom old after new found = (g : Geometry) (s : State) → IsReady g old s → Finds g s after new found

  -- the files of a volume at a state and their bytes were told, and it stands there still
  pub record HasCounted (g : Geometry) (s : State) (new : Volume N nor) (files bytes : ℕ) : Type 0 where
    pub ready : IsReady g new s
    pub files_are : files ≡ length s.table
    pub bytes_are : bytes ≡ bytes_in s.table

  -- the same of a volume that stood at any state
  abbrev pub HasCountedFrom : Volume N nor → Volume N nor → (files bytes : ℕ) → Type 0
  HasCountedFrom old new files bytes = (g : Geometry) (s : State) → IsReady g old s → HasCounted g s new files bytes
