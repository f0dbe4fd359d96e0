-- What an extraction leaves and answers.
use Rattle.std.specs.Prelude.{ℕ, ◌≡◌, ◌≢◌, ◌⊎◌, ◌++◌, List}
use Rattle.geometry.specs.declared.geometry.Geometry.{Geometry}
use Rattle.nor_core.specs.Count.{Rose}
use Rattle.nor_core.specs.declared.state.NorState.{Ghosts as NorOf}
use Rattle.table_model.specs.Table.{File}
use Rattle.image_model.specs.Tables.{table_of}
use Rattle.folder_core.specs.declared.state.FolderState.{Ghosts as FolderOf}
use Rattle.image_tool.specs.Extracting.{ExtractsAll, ExtractsFront, ExtractsLines}
use Rattle.image_tool.specs.Putting.{folder_files, PutsFiles, PartlyPuts, FolderGoes}
use Rattle.image_tool.specs.Saying.{OnlySays}
use Rattle.image_tool.specs.Texts.{record_lines}
use Rattle.tool_parts.specs.declared.ending.Ending.{Ending}
use Rattle.tool_parts.specs.declared.ending.Ending.TheVariants.{BoardFault, FolderFault}
use Rattle.tool_parts.specs.Closing.{closing_line_of}
use Rattle.tool_parts.specs.Endings.{Concludes, WritesNone}
use Rattle.tool_core.specs.Listing.{listed_text}
use Rattle.tool_parts.specs.Reads.{ReadsOnce}
use Rattle.tool_parts.specs.Refusals.{mount_refusal, list_ending, unless_refused}

-- the files that an extraction puts into the folder: those of the table of the image, where that mounts
abbrev pub extracted : Geometry → List ℕ → List File
extracted g image = unless_refused (mount_refusal g image) (table_of g image)

-- before its closing line: it said the list and put all files; or the board failed, or the folder
abbrev pub ExtractEnds : {D X : Type 0} (nor : NorOf D) (folder : FolderOf X) (g : Geometry) (old new : D) (before after : X) (result : Ending) → Type 0
ExtractEnds nor folder g old new before after result =
    ((result ≡ list_ending g (nor.bytes old)) × ExtractsAll nor folder (listed_text g (nor.bytes old)) (extracted g (nor.bytes old)) old new before after)
    ⊎ ((result ≡ BoardFault) × ExtractsFront nor folder (listed_text g (nor.bytes old)) (extracted g (nor.bytes old)) old new before after)
    ⊎ ((result ≡ FolderFault) × ExtractsLines nor folder (listed_text g (nor.bytes old)) (extracted g (nor.bytes old)) old new before after)

-- and it wrote nothing to the board
pub record Extracts {D X : Type 0} (nor : NorOf D) (folder : FolderOf X) (g : Geometry) (old new : D) (before after : X) (result : Ending) : Type 0 where
  pub says : OnlySays nor old new (listed_text g (nor.bytes old))
  pub ends : nor.tells old → ExtractEnds nor folder g old new before after result

-- The list and its closing line are said, and each file is put; or a front of that text, and a part of the files, where the board failed.
pub record EndsListed {D X : Type 0} (nor : NorOf D) (folder : FolderOf X) (g : Geometry) (old new : D) (before after : X) (status : ℕ) : Type 0 where
  pub says : OnlySays nor old new (listed_text g (nor.bytes old) ++ closing_line_of (list_ending g (nor.bytes old)))
  pub concludes : Concludes nor old new (listed_text g (nor.bytes old)) (list_ending g (nor.bytes old)) status
  pub whole : status ≢ 7 → PutsFiles folder (folder_files (extracted g (nor.bytes old))) before after
  pub partly : PartlyPuts folder (folder_files (extracted g (nor.bytes old))) before after

-- The folder failed: the lines of the first files are said and the closing line of that, and a part of these files is put.
pub record EndsBroken {D X : Type 0} (nor : NorOf D) (folder : FolderOf X) (g : Geometry) (old new : D) (before after : X) (status : ℕ) : Type 0 where
  pub front : List File
  pub rest : List File
  pub files_are : extracted g (nor.bytes old) ≡ front ++ rest
  pub says : OnlySays nor old new (listed_text g (nor.bytes old) ++ closing_line_of FolderFault)
  pub concludes : Concludes nor old new (record_lines front) FolderFault status
  pub cause : Rose (folder.faults before) (folder.faults after)
  pub partly : PartlyPuts folder (folder_files front) before after

-- An extraction writes nothing to the board, says the list of the image and a closing line, and puts the files of its table into the
-- folder, the first ones of them alone where the board or the folder failed.
pub record DoesExtract {D X : Type 0} (nor : NorOf D) (folder : FolderOf X) (g : Geometry) (cache : ℕ) (old new : D) (before after : X)
    (status : ℕ) : Type 0 where
  -- the bytes stay, in a cut too
  pub stays : WritesNone nor old new
  -- the folder tells its bytes as before, and no fault of it is forgotten
  pub goes : FolderGoes folder before after
  -- the list is said and the files are put, or the folder failed
  pub told : nor.tells old → EndsListed nor folder g old new before after status ⊎ EndsBroken nor folder g old new before after status
  -- each page is read once at most
  pub reads : ReadsOnce nor g cache old new
