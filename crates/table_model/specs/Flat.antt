-- What a call answers on the flat state, and the state after it.
use Rattle.std.specs.Prelude.{Bool, replicate}
use Rattle.geometry.specs.declared.geometry.Geometry.{Geometry}
use Rattle.table_model.specs.Table.{State}
use Rattle.table_model.specs.Ask.{Ask, Creates, Opens, Reads, Writes, Fills, Seeks, Tells, Truncates, Flushes, Closes, Removes, RemovesOpen, Renames, Stats}
use Rattle.table_model.specs.Ask.{StatsOpen, NextAbove, Informs, Collects, SetsMeta, SetsMetaOpen}
use Rattle.table_model.specs.Reply.{Fine, Counts}
pub use Rattle.table_model.specs.Outcome.{Outcome, refused}
pub use Rattle.table_model.specs.Names.{is_bad_name}
pub use Rattle.table_model.specs.Files.{new_file, created}
pub use Rattle.table_model.specs.Calls.{answer_create}
use Rattle.table_model.specs.Outcome.{gives}
use Rattle.table_model.specs.Opening.{answer_open}
use Rattle.table_model.specs.Calls.{answer_read, answer_write, answer_seek, answer_tell, answer_truncate, answer_flush, answer_close, answer_remove}
use Rattle.table_model.specs.Calls.{answer_fremove, answer_rename, answer_stat, answer_fstat, answer_next, info_of, answer_meta, answer_fmeta}

-- The answer of each call; `spare` says whether at least two blocks are free.
-- A collection changes no state; where it stops without its reserve depends on more than the state, and isn't said here.
unfoldable pub answer : Geometry → Bool → State → Ask → Outcome
answer g spare s (Creates name) = answer_create g spare s name
answer g spare s (Opens name flags) = answer_open g spare s name flags
answer g spare s (Reads fd count) = answer_read s fd count
answer g spare s (Writes fd bytes) = answer_write g spare s fd bytes
answer g spare s (Fills fd count byte) = answer_write g spare s fd (replicate count byte)
answer g spare s (Seeks fd offset from) = answer_seek s fd offset from
answer g spare s (Tells fd) = answer_tell s fd
answer g spare s (Truncates fd size) = answer_truncate g spare s fd size
answer g spare s (Flushes fd) = answer_flush s fd
answer g spare s (Closes fd) = answer_close s fd
answer g spare s (Removes name) = answer_remove s name
answer g spare s (RemovesOpen fd) = answer_fremove s fd
answer g spare s (Renames old_name new_name) = answer_rename g spare s old_name new_name
answer g spare s (Stats name) = answer_stat s name
answer g spare s (StatsOpen fd) = answer_fstat s fd
answer g spare s (NextAbove after) = answer_next s after
answer g spare s Informs = gives (Counts (info_of g s.table)) s
answer g spare s Collects = gives Fine s
answer g spare s (SetsMeta name meta) = answer_meta g spare s name meta
answer g spare s (SetsMetaOpen fd meta) = answer_fmeta g spare s fd meta
