-- The lines of what is found.
use Rattle.std.specs.Prelude.{ℕ, List, [], ◌∷◌, ◌++◌, ◌==◌, if◌then◌else◌, codes, decimal, nat_lt}
use Rattle.std.specs.List.{flat_map}
use Rattle.geometry.specs.declared.magic.MagicKind.{MagicKind}
use Rattle.geometry.specs.declared.magic.MagicKind.TheVariants.{Plain, Length}
use Rattle.volume_detect.specs.Places.{byte_of}
use Rattle.volume_rank.specs.declared.found.Found.{Found}

-- the word for what a magic tells
abbrev pub kind_word : MagicKind → List ℕ
kind_word Plain = codes "plain"
kind_word Length = codes "len"

-- the last of several numbers of meta bytes, behind the first; nothing where there is one alone
abbrev pub last_text : (first last : ℕ) → List ℕ
last_text first last = if first == last then [] else codes "-" ++ decimal last

-- the byte at which a candidate begins, the bytes of its page and block, and its blocks
unfoldable pub place_text : Found → List ℕ
place_text f = (codes "at " ++ decimal (byte_of f.place)) ++ (codes " page " ++ decimal f.volume.page) ++ (codes " block " ++ decimal f.volume.block)
    ++ (codes " blocks " ++ decimal f.volume.blocks)

-- the numbers of meta bytes by which most files are whole, what the magic tells, how many files are whole, and how many ids are damaged
unfoldable pub counts_text : Found → List ℕ
counts_text f = (codes " meta " ++ decimal f.volume.meta) ++ last_text f.volume.meta f.last_meta ++ codes " magic " ++ kind_word f.volume.magic
    ++ (codes " files " ++ decimal f.counts.whole) ++ (codes " damaged " ++ decimal f.counts.damaged)

-- how many there are of what a volume has none of, or one; nothing then
abbrev pub several_text : List ℕ → ℕ → List ℕ
several_text word count = if nat_lt count 2 then [] else word ++ decimal count

-- the line of a candidate: where it is, what it reads, how many blocks lack their magic, and how many ids are doubled, each if these are two or more
unfoldable pub found_line : Found → List ℕ
found_line f = place_text f ++ counts_text f ++ several_text (codes " spoiled ") f.spoiled ++ several_text (codes " doubled ") f.doubled ++ 10 ∷ []

-- the lines of candidates
unfoldable pub found_lines : List Found → List ℕ
found_lines list = flat_map found_line list

-- what is said where these are all candidates: their lines, or a closing line where there is none
abbrev pub detect_text : List Found → List ℕ
detect_text [] = codes "! no volume found, try list with the numbers of the firmware\n"
detect_text (f ∷ list) = found_lines (f ∷ list)

-- the status then
abbrev pub detect_status : List Found → ℕ
detect_status [] = 3
detect_status (f ∷ list) = 0
