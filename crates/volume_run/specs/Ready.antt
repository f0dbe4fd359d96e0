-- Volumes between two calls of a tool.
use Rattle.std.specs.Prelude.{◌≡◌, ℕ, List, true, Option, Some, None}
use Rattle.geometry.specs.declared.geometry.Geometry.{Geometry}
use Rattle.nor_core.specs.declared.state.NorState.{Ghosts as NorOf}
use Rattle.nor_core.specs.Device.{Changes}
use Rattle.table_model.specs.Table.{State}
use Rattle.table_model.specs.Room.{has_room}
use Rattle.table_model.specs.Ask.{Ask, Opens}
use Rattle.table_model.specs.Reply.{Answer, Tells}
use Rattle.table_model.specs.Flat.{answer}
use Rattle.table_model.specs.Window.{Moment}
use Rattle.image_model.specs.Tables.{table_of}
use Rattle.run_model.specs.Ran.{RunStands}
use Rattle.trim_laws.specs.Trim.{IsTrim}
use Rattle.volume.specs.declared.volume.Volume.{Volume}
use Rattle.volume.specs.Holds.{memory}
use Rattle.volume.specs.Same.{IsSameVolume}
use Rattle.volume.specs.Stages.{takes_calls}

-- the descriptor that an opening told, or None where it was refused
abbrev pub opened : Answer → Option ℕ
opened (Tells fd) = Some fd
opened _ = None

module _ {N : Type 0} {nor : NorOf N} where
  -- A volume of that geometry takes calls and stands at a state of the flat table: two blocks are free, the table has room, and no header
  -- page names a page behind the last one of its file.
  pub record IsReady (g : Geometry) (v : Volume N nor) (s : State) : Type 0 where
    pub geometry : v.geometry ≡ g
    pub takes : takes_calls v ≡ true
    pub moment : Moment
    pub stands : RunStands nor g v.nor.now (memory v) moment
    pub room : has_room g moment.state.table ≡ true
    pub state_is : moment.state ≡ s
    pub trim : IsTrim g (nor.bytes v.nor.now)

  -- A call was answered as the flat table is, and the volume stands at the state after it.
  pub record IsAnswered (g : Geometry) (s : State) (ask : Ask) (new : Volume N nor) (reply : Answer) : Type 0 where
    pub reply_is : reply ≡ (answer g true s ask).answer
    pub ready : IsReady g new (answer g true s ask).next

  -- no written bytes wait: the image has the table of a state
  abbrev pub HasTable : Geometry → Volume N nor → State → Type 0
  HasTable g v s = table_of g (nor.bytes v.nor.now) ≡ s.table

  -- the same of a volume that stood at any state
  abbrev pub IsAnsweredFrom : Volume N nor → Ask → Volume N nor → Answer → Type 0
  IsAnsweredFrom old ask new reply = (g : Geometry) (s : State) → IsReady g old s → IsAnswered g s ask new reply

  -- An opening was answered as the flat table is.
  pub record IsOpened (g : Geometry) (s : State) (name : List ℕ) (flags : ℕ) (new : Volume N nor) (fd : Option ℕ) : Type 0 where
    pub fd_is : fd ≡ opened (answer g true s (Opens name flags)).answer
    pub ready : IsReady g new (answer g true s (Opens name flags)).next

  -- the same of a volume that stood at any state
  abbrev pub IsOpenedFrom : Volume N nor → (name : List ℕ) (flags : ℕ) → Volume N nor → Option ℕ → Type 0
  IsOpenedFrom old name flags new fd = (g : Geometry) (s : State) → IsReady g old s → IsOpened g s name flags new fd

  -- The same volume some calls later, which said nothing.
  pub record IsMoved (old new : Volume N nor) : Type 0 where
    pub same : IsSameVolume old new
    pub goes : Changes nor old.nor.now new.nor.now (λ was image. Unit {0})
