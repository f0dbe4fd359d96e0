-- What each command leaves and answers.
use Rattle.std.specs.Prelude.{ℕ}
use Rattle.geometry.specs.declared.geometry.Geometry.{Geometry}
use Rattle.nor_core.specs.declared.state.NorState.{Ghosts as NorOf}
use Rattle.nor_core.specs.declared.source.Source.{Ghosts as SourceOf}
use Rattle.folder_core.specs.declared.state.FolderState.{Ghosts as FolderOf}
use Rattle.tool_core.specs.declared.words.Verb.{Verb}
use Rattle.tool_core.specs.declared.words.Verb.TheVariants.{Run, List, Check, Extract, Make, Soak, Scrub, Map}
use Rattle.tool_parts.specs.declared.buffers.Lengths.{Lengths}
use Rattle.script_run.specs.Running.{DoesRun}
use Rattle.tool_core.specs.Listing.{DoesList}
use Rattle.tool_core.specs.Checking.{DoesCheck}
use Rattle.tool_core.specs.Extracting.{DoesExtract}
use Rattle.tool_core.specs.Soaking.{DoesSoak}
use Rattle.tool_core.specs.Making.{DoesMake}
use Rattle.tool_core.specs.Scrubbing.{DoesScrub}
use Rattle.tool_core.specs.Mapping.{DoesMap}

-- what a command leaves of a device, a script and a folder, and answers
abbrev pub Does : {D X F : Type 0} (nor : NorOf D) (source : SourceOf X) (folder : FolderOf F) (lent : Lengths) → Verb → Geometry →
    (old new : D) (script after : X) (before left : F) (status : ℕ) → Type 0
Does nor source folder lent Run g old new script after before left status = DoesRun nor source g lent old new script after status
Does nor source folder lent List g old new script after before left status = DoesList nor g lent.cache old new status
Does nor source folder lent Check g old new script after before left status = DoesCheck nor g lent.cache old new status
Does nor source folder lent Extract g old new script after before left status = DoesExtract nor folder g lent.cache old new before left status
Does nor source folder lent Make g old new script after before left status = DoesMake nor folder g old new before left status
Does nor source folder lent (Soak seed turns) g old new script after before left status = DoesSoak nor g lent.slots seed turns old new status
Does nor source folder lent (Scrub limit) g old new script after before left status = DoesScrub nor g lent.cache limit old new status
Does nor source folder lent (Map id) g old new script after before left status = DoesMap nor g lent.cache id old new status
