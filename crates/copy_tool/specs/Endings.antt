-- How a copy ends by the images that it finds and leaves.
use Rattle.std.specs.Prelude.{ℕ, ◌-◌, ◌++◌, List, [], ◌∷◌, length, Bool, codes, decimal, Option, unwrap_or}
use Rattle.std.specs.Option.{option_map}
use Rattle.geometry.specs.declared.geometry.Geometry.{Geometry}
use Rattle.table_model.specs.Table.{File}
use Rattle.image_model.specs.Tables.{table_of, damaged_of}
use Rattle.copy_model.specs.Copying.{kept_count}
use Rattle.copy_model.specs.Stops.{copy_stop}
use Rattle.copy_model.specs.declared.err.CopyErr.{CopyErr}
use Rattle.copy_model.specs.declared.err.CopyErr.TheVariants.{BadName as CopyBadName, Full as CopyFull, FromFault, ToFault, Damaged as CopyDamaged, Refused}
use Rattle.vol_copy.specs.Ends.{alike_of}
use Rattle.tool_parts.specs.declared.ending.Ending.{Ending}
use Rattle.tool_parts.specs.declared.ending.Ending.TheVariants.{BadName, Full, BoardFault, SourceChipFault, Differ, Tight}
use Rattle.tool_parts.specs.Refusals.{mount_refusal, begin_refusal, or_ending, said_ending, unless_refused}

-- how a command ends whose copy isn't done
abbrev pub copy_ends : CopyErr → Ending
copy_ends (CopyBadName at) = BadName at
copy_ends (CopyFull index pages) = Full index pages
copy_ends FromFault = SourceChipFault
copy_ends ToFault = BoardFault
copy_ends (CopyDamaged differ) = Differ differ
copy_ends Refused = Tight 0

-- the line of a copy: how many files were copied, and how many had their copy already
abbrev pub copied_text : (copied kept : ℕ) → List ℕ
copied_text copied kept = (codes "copied " ++ decimal copied) ++ (codes " kept " ++ decimal kept) ++ (10 ∷ [])

-- that of the files `source` onto the files `first`
abbrev pub summary_of : (alike : Bool) (source first : List File) → List ℕ
summary_of alike source first = copied_text (length source - kept_count alike source first) (kept_count alike source first)

-- Why a copy isn't done that found the images `source` and `was`, and left `now`, where the source is mounted: the target isn't one that is worked
-- on, or the flat tables say why not.
abbrev pub target_stop : (gf g : Geometry) (source was now : List ℕ) → Option Ending
target_stop gf g source was now = or_ending (begin_refusal g was now) (option_map copy_ends (copy_stop g (alike_of gf g) (table_of gf source) (table_of g was)))

-- or the source isn't mounted
abbrev pub stop_of : (gf g : Geometry) (source was now : List ℕ) → Option Ending
stop_of gf g source was now = or_ending (mount_refusal gf source) (target_stop gf g source was now)

-- how a copy ends: so, or it is done, and tells how many ids of the source are damaged
abbrev pub copy_ending : (gf g : Geometry) (source was now : List ℕ) → Ending
copy_ending gf g source was now = unwrap_or (stop_of gf g source was now) (said_ending (length (damaged_of gf source)))

-- what it says before its closing line: the summary, where it is done
abbrev pub copy_text : (gf g : Geometry) (source was now : List ℕ) → List ℕ
copy_text gf g source was now = unless_refused (stop_of gf g source was now) (summary_of (alike_of gf g) (table_of gf source) (table_of g was))
