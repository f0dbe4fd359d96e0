-- A target from one record to the next.
use Rattle.std.specs.Prelude.{◌≡◌, ◌+◌, ℕ, List, [], length, Bool, true, false, nat_le, Option, Some, None, if◌then◌else◌}
use Rattle.geometry.specs.declared.geometry.Geometry.{Geometry}
use Rattle.geometry.specs.Numbers.{ceil, entries}
use Rattle.table_model.specs.declared.reply.Info.{Info}
use Rattle.nor_core.specs.declared.state.NorState.{Ghosts as NorOf}
use Rattle.table_model.specs.Table.{File, file_named, file_above}
use Rattle.table_model.specs.Room.{has_room}
use Rattle.volume.specs.declared.volume.Volume.{Volume}
use Rattle.copy_model.specs.declared.err.Copied.{Copied}
use Rattle.copy_model.specs.declared.err.CopyErr.{CopyErr}
use Rattle.copy_model.specs.declared.err.CopyErr.TheVariants.{Full, ToFault}
use Rattle.copy_model.specs.Copying.{working, kept_count}
use Rattle.copy_model.specs.Stops.{full_as}
use Rattle.copy_model.specs.Tasks.{Task}
use Rattle.copy_model.specs.Under.{IsAllThere}
use Rattle.copy_model.specs.Parts.{AreFit, IsAmid, IsUpTo, IsCounted}
use Rattle.vol_copy.specs.declared.copying.Turn.{Turn}

-- whether a table of so many pages has room
abbrev pub room_by : Geometry → Info → Bool
room_by g info = nat_le (ceil (info.index_pages + 1) (entries g) + ceil (info.data_pages + 1) (entries g) + 2) g.blocks

-- a copy of which nothing is done has these files, as at first
abbrev pub IsFirst : Task → List File → Type 0
IsFirst t files = files ≡ t.first

-- Nor is anything done, and they have room.
pub record HasFirstRoom (t : Task) (files : List File) : Type 0 where
  pub first : files ≡ t.first
  pub room : has_room t.g files ≡ true

-- The records can be copied, too.
pub record IsReady (t : Task) (files : List File) : Type 0 where
  pub first : HasFirstRoom t files
  pub fit : AreFit t

-- no file has the working name
abbrev pub HasNoWorking : Task → List File → Type 0
HasNoWorking t files = file_named working files ≡ None

-- The records up to an id have their copies, and so have all others already, and no file has the working name.
pub record IsAllUpTo (after : ℕ) (t : Task) (files : List File) : Type 0 where
  pub up : IsUpTo after t files
  pub there : IsAllThere t.alike t.source files

-- The records up to an id have their copies, one more than up to another; its copy was made anew, or there.
pub record IsTurned (after : ℕ) (turn : Turn) (t : Task) (files : List File) : Type 0 where
  pub up : IsUpTo turn.id t files
  pub counts : (copied kept : ℕ) → IsCounted after copied kept t →
      IsCounted turn.id (copied + (if turn.is_new then 1 else 0)) (kept + (if turn.is_new then 0 else 1)) t

-- The records up to an id have their copies, and behind it there is none.
pub record IsLast (after : ℕ) (t : Task) (files : List File) : Type 0 where
  pub up : IsUpTo after t files
  pub none : file_above after t.source ≡ None

-- how a turn may end: there was a record behind that id, or not
abbrev pub HasTurned : (after : ℕ) → Option Turn → Task → List File → Type 0
HasTurned after None t files = IsLast after t files
HasTurned after (Some turn) t files = IsTurned after turn t files

-- All records have their copies, so many of them made anew, and so many there.
pub record IsThrough (c : Copied) (t : Task) (files : List File) : Type 0 where
  pub amid : IsAmid t t.source [] files
  pub kept_is : c.kept ≡ kept_count t.alike t.source t.first
  pub all : c.copied + c.kept ≡ length t.source

module _ {M : Type 0} {nor : NorOf M} where
  -- why a copy doesn't begin: the target's device fails, or its files have no room
  abbrev pub StopsFirst : (A : Task → Volume M nor → Type 0) (old new : Volume M nor) → CopyErr → Type 0
  StopsFirst A old new (Full index pages) = (t : Task) → A t old → t.known ≡ true →
      (has_room t.g t.first ≡ false) × (Full index pages ≡ full_as t.g t.first) × A t new
  StopsFirst A old new ToFault = Unit {0}
  StopsFirst A old new why = (t : Task) → A t old → t.known ≡ true → ⊥
