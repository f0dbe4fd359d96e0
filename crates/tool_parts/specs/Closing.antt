-- The status and the closing line of each ending.
use Rattle.std.specs.Prelude.{ℕ, List, [], ◌∷◌, ◌++◌, codes, decimal}
use Rattle.geometry.specs.Codes.{code_of}
use Rattle.table_model.specs.declared.error.Differ.{Differ as Differs}
use Rattle.vol_mount.specs.declared.lent.Part.{Part}
use Rattle.vol_mount.specs.declared.lent.Part.TheVariants.{Work, Slots, Cache, Check, Window, Line}
use Rattle.tool_parts.specs.declared.ending.Ending.{Ending}
use Rattle.tool_parts.specs.declared.ending.Ending.TheVariants.{Done, Usage, Geometry, ShortBuffer, NotAFs, BadLine, Full, BoardFault, SourceFault, FolderFault}
use Rattle.tool_parts.specs.declared.ending.Ending.TheVariants.{TooLong, Damaged, BadName, Tight, Mixed, NoSuchId, SourceChipFault, Differ}

-- the status that a command answers
abbrev pub status_of : Ending → ℕ
status_of Done = 0
status_of Usage = 1
status_of (Geometry why) = 2
status_of (NotAFs spoiled) = 3
status_of (Mixed blocks) = 4
status_of (BadLine number) = 5
status_of (Full index pages) = 6
status_of BoardFault = 7
status_of SourceFault = 8
status_of FolderFault = 9
status_of (ShortBuffer part need given) = 10
status_of TooLong = 11
status_of (Damaged count) = 12
status_of (BadName at) = 13
status_of (Tight free) = 14
status_of (NoSuchId id) = 17
status_of SourceChipFault = 18
status_of (Differ differ) = 21

-- the word for a part of the lent memory
abbrev pub part_word : Part → List ℕ
part_word Work = codes "work"
part_word Slots = codes "slots"
part_word Cache = codes "cache"
part_word Check = codes "check"
part_word Window = codes "window"
part_word Line = codes "line"

-- how much of a part is needed and given
abbrev pub short_text : Part → ℕ → ℕ → List ℕ
short_text part need given = codes "! short buffer " ++ part_word part ++ (codes " need " ++ decimal need) ++ (codes " given " ++ decimal given)

-- the number of the page, then the wanted id and span, then the found ones
abbrev pub differ_text : Differs → List ℕ
differ_text d = (codes "! differ " ++ decimal d.page) ++ (codes " " ++ decimal d.wanted.id) ++ (codes " " ++ decimal d.wanted.span)
    ++ (codes " " ++ decimal d.found.id) ++ (codes " " ++ decimal d.found.span)

-- how many blocks lack their magic
abbrev pub spoiled_text : ℕ → List ℕ
spoiled_text spoiled = (codes "! not a volume, " ++ decimal spoiled) ++ codes " blocks without magic"

-- index pages and data pages for which there is no room
abbrev pub full_text : (index pages : ℕ) → List ℕ
full_text index pages = (codes "! full, index " ++ decimal index) ++ (codes " data " ++ decimal pages)

-- the closing line, without the byte that ends it; none where all was done, and where the board failed
abbrev pub closing_of : Ending → List ℕ
closing_of Done = []
closing_of Usage = codes "! usage"
closing_of (Geometry why) = codes "! geometry " ++ decimal (code_of why)
closing_of (ShortBuffer part need given) = short_text part need given
closing_of (NotAFs spoiled) = spoiled_text spoiled
closing_of (Mixed blocks) = codes "! mixed blocks " ++ decimal blocks
closing_of (BadLine number) = codes "! bad line " ++ decimal number
closing_of (Full index pages) = full_text index pages
closing_of BoardFault = []
closing_of SourceFault = codes "! script fault"
closing_of FolderFault = codes "! folder fault"
closing_of TooLong = codes "! script longer than 16777216 bytes"
closing_of (Damaged count) = codes "! damaged " ++ decimal count
closing_of (BadName at) = codes "! bad name " ++ decimal at
closing_of (Tight free) = codes "! free blocks " ++ decimal free
closing_of (NoSuchId id) = codes "! no id " ++ decimal id
closing_of SourceChipFault = codes "! source chip fault"
closing_of (Differ differ) = differ_text differ

-- a line with the byte that ends it, if there is one
abbrev pub ended : List ℕ → List ℕ
ended [] = []
ended (b ∷ bs) = (b ∷ bs) ++ (10 ∷ [])

-- the whole closing line
abbrev pub closing_line_of : Ending → List ℕ
closing_line_of ending = ended (closing_of ending)
