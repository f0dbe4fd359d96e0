-- The target's files while one record after the other is copied.
use Rattle.std.specs.Prelude.{◌≡◌, ◌≢◌, ◌+◌, ◌≤◌, ◌%◌, ◌⊎◌, ℕ, List, ◌++◌, length, Bool, true, false, not, ◌==◌, Some, None}
use Rattle.std.specs.List.{All}
use Rattle.geometry.specs.Numbers.{body}
use Rattle.table_model.specs.declared.reply.Stat.{Stat}
use Rattle.table_model.specs.declared.error.FsErr.TheVariants.{NotFound}
use Rattle.table_model.specs.Ask.{Removes}
use Rattle.table_model.specs.Reply.{Fine, Refuses}
use Rattle.table_model.specs.Flat.{answer}
use Rattle.call_model.specs.Closed.{with_files}
use Rattle.table_model.specs.Table.{File, Open, State, least_id, file_of, file_named, file_above, put_file}
use Rattle.table_model.specs.Names.{name_refusal}
use Rattle.table_model.specs.Files.{stat_of}
use Rattle.table_model.specs.Room.{has_room, index_count, data_count}
use Rattle.table_model.proofs.Ascending.{Ascends}
use Rattle.copy_model.specs.Copying.{working, keeps, begun, marked, cleared, copied, copy_steps, kept_count}
use Rattle.copy_model.specs.Filling.{filler}
use Rattle.copy_model.specs.Stops.{first_full}
use Rattle.copy_model.specs.Rooms.{filling_full}
use Rattle.copy_model.specs.Under.{IsTable, IsUnder, IsCopied, IsPart}
use Rattle.copy_model.specs.Tasks.{Task, begins_with, stops_at}
use Rattle.copy_model.specs.Walks.{up_to, behind}

-- A record that can be copied: its name isn't refused, and isn't the working name; it has as many meta bytes as the target's files exactly
-- where both volumes have as many.
pub record IsFit (t : Task) (f : File) : Type 0 where
  pub fine : name_refusal f.name ≡ None
  pub apart : f.name ≢ working
  pub as_many : (length f.meta == t.g.meta) ≡ t.alike

-- The records are those of a table, in order of ids, and all can be copied.
pub record AreFit (t : Task) : Type 0 where
  pub table : IsTable t.source
  pub ascends : Ascends (λ (f : File). f.id) 0 t.source
  pub all : All (IsFit t) t.source

-- The records `front` have their copies, and those of `rest` are still to be copied, as on the flat tables.
pub record IsAmid (t : Task) (front rest files : List File) : Type 0 where
  pub fit : AreFit t
  pub source_is : t.source ≡ front ++ rest
  pub done : IsCopied t.alike front t.first files
  pub room : has_room t.g files ≡ true
  pub stops : stops_at t ≡ first_full t.g (copy_steps t.g t.alike rest files)
  pub ends : copied t.g t.alike t.source (begins_with t) ≡ copied t.g t.alike rest files

-- the records up to an id have their copies
abbrev pub IsUpTo : (after : ℕ) → Task → List File → Type 0
IsUpTo after t files = IsAmid t (up_to after t.source) (behind after t.source) files

-- so many of the records up to an id were copied, and so many kept
pub record IsCounted (after copied kept : ℕ) (t : Task) : Type 0 where
  pub kept_is : kept ≡ kept_count t.alike (up_to after t.source) t.first
  pub all : copied + kept ≡ length (up_to after t.source)

-- The next record is that of which this is told.
pub record IsNext (stat : Stat) (t : Task) (files : List File) : Type 0 where
  pub after : ℕ
  pub f : File
  pub found : file_above after t.source ≡ Some f
  pub stat_is : stat ≡ stat_of f
  pub amid : IsUpTo after t files
  pub table : IsTable files

-- It has no copy.
pub record IsMissing (stat : Stat) (t : Task) (files : List File) : Type 0 where
  pub next : IsNext stat t files
  pub missing : keeps t.alike next.f files ≡ false

-- Its bytes up to a place stand under the working name, and a descriptor is open behind them.
pub record IsFilling (stat : Stat) (at : ℕ) (t : Task) (d : Open) (files : List File) : Type 0 where
  pub before : List File
  pub is : IsMissing stat t before
  pub d_is : d ≡ filler (least_id before) at
  pub files_are : files ≡ begun t.g is.next.f before at
  pub ends : (at % body t.g ≡ 0) ⊎ (at ≡ stat.size)
  pub within : at ≤ stat.size
  pub full : filling_full t.g is.next.f before 0 ≡ filling_full t.g is.next.f before at
  pub room : has_room t.g (begun t.g is.next.f before at) ≡ true

-- All of them do, and they had room,
pub record IsWhole (stat : Stat) (t : Task) (files : List File) : Type 0 where
  pub before : List File
  pub is : IsMissing stat t before
  pub files_are : files ≡ begun t.g is.next.f before (length is.next.f.bytes)
  pub full : filling_full t.g is.next.f before 0 ≡ None

-- with its meta bytes,
pub record IsMarked (stat : Stat) (t : Task) (files : List File) : Type 0 where
  pub before : List File
  pub is : IsMissing stat t before
  pub files_are : files ≡ put_file (marked t.g t.alike is.next.f before) before
  pub full : filling_full t.g is.next.f before 0 ≡ None

-- and no file has its name.
pub record IsCleared (stat : Stat) (t : Task) (files : List File) : Type 0 where
  pub before : List File
  pub is : IsMissing stat t before
  pub files_are : files ≡ cleared t.g t.alike is.next.f before
  pub full : filling_full t.g is.next.f before 0 ≡ None
  pub clear : file_named is.next.f.name files ≡ None
  pub marked_table : IsTable (put_file (marked t.g t.alike is.next.f before) before)

-- The record has its copy; it was made anew, or there.
pub record IsPassed (stat : Stat) (is_new : Bool) (t : Task) (files : List File) : Type 0 where
  pub f : File
  pub here : file_of f.id t.source ≡ Some f
  pub stat_is : stat ≡ stat_of f
  pub amid : IsUpTo f.id t files
  pub kept : keeps t.alike f t.first ≡ not is_new

-- A step has no room that takes so many pages more than this state has. Without the file of the working name it has other files, and
-- either may be left of the copy.
pub record IsLacking (index pages : ℕ) (t : Task) (s : State) : Type 0 where
  pub table : List File
  pub stops : stops_at t ≡ Some table
  pub index_are : index_count t.g s.table + index ≡ index_count t.g table
  pub pages_are : data_count t.g s.table + pages ≡ data_count t.g table
  pub under : IsUnder t.alike t.source t.first s.table
  pub left : List File
  pub next : (answer t.g true s (Removes working)).next ≡ with_files t.slots left
  pub reply : ((answer t.g true s (Removes working)).answer ≡ Fine) ⊎ ((answer t.g true s (Removes working)).answer ≡ Refuses NotFound)
  pub part : IsPart t.alike t.source t.first left
