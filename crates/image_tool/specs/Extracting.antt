-- How an extraction ends.
use Rattle.std.specs.Prelude.{ℕ, ◌≡◌, ◌≢◌, List, ◌++◌, Result, Ok, Err}
use Rattle.nor_core.specs.declared.state.NorState.{Ghosts as NorOf}
use Rattle.table_model.specs.Table.{File}
use Rattle.folder_core.specs.declared.state.FolderState.{Ghosts as FolderOf}
use Rattle.image_tool.specs.declared.error.ExtractErr.{ExtractErr}
use Rattle.image_tool.specs.declared.error.ExtractErr.TheVariants.{BoardFault, FolderFault, Damaged}
use Rattle.image_tool.specs.Texts.{record_lines}
use Rattle.image_tool.specs.Saying.{SaysFront}
use Rattle.image_tool.specs.Putting.{folder_files, PutsFiles, PartlyPuts}

-- of a page that reads otherwise, what was wanted there and what was found differ
abbrev pub IsApart : ExtractErr → Type 0
IsApart BoardFault = Unit {0}
IsApart FolderFault = Unit {0}
IsApart (Damaged differ) = differ.wanted ≢ differ.found

-- the lines of the first files of a table were said
pub record SaysLines {D : Type 0} (nor : NorOf D) (old new : D) (table : List File) : Type 0 where
  pub front : List File
  pub rest : List File
  pub table_is : table ≡ front ++ rest
  pub said : nor.said new ≡ nor.said old ++ record_lines front

-- A text was said, and each file of a table was put.
pub record ExtractsAll {D X : Type 0} (nor : NorOf D) (folder : FolderOf X) (text : List ℕ) (table : List File) (old new : D) (was now : X) : Type 0 where
  pub said : nor.said new ≡ nor.said old ++ text
  pub puts : PutsFiles folder (folder_files table) was now

-- A front of the text was said; the first files were put whole, and of the next one nothing or a front of its bytes.
pub record ExtractsFront {D X : Type 0} (nor : NorOf D) (folder : FolderOf X) (text : List ℕ) (table : List File) (old new : D) (was now : X) : Type 0 where
  pub front : SaysFront nor old new text
  pub partly : PartlyPuts folder (folder_files table) was now

-- The same, where what was said ends with a whole line, and no file was put whose line wasn't said.
pub record ExtractsLines {D X : Type 0} (nor : NorOf D) (folder : FolderOf X) (text : List ℕ) (table : List File) (old new : D) (was now : X) : Type 0 where
  pub front : SaysFront nor old new text
  pub lines : SaysLines nor old new table
  pub partly : PartlyPuts folder (folder_files lines.front) was now

-- How saying a text and putting the files of a table ended: with an answer of which P holds all was done; a fault of the board
-- leaves a front of the text, and one of the folder whole lines; there is no other error.
abbrev pub ExtractsTo : {D X T : Type 0} → NorOf D → FolderOf X → (text : List ℕ) → (table : List File) → (old new : D) → (was now : X) → (T → Type 0) →
    Result T ExtractErr → Type 0
ExtractsTo nor folder text table old new was now P (Ok answer) = ExtractsAll nor folder text table old new was now × P answer
ExtractsTo nor folder text table old new was now P (Err BoardFault) = ExtractsFront nor folder text table old new was now
ExtractsTo nor folder text table old new was now P (Err FolderFault) = ExtractsLines nor folder text table old new was now
ExtractsTo nor folder text table old new was now P (Err (Damaged differ)) = ⊥
