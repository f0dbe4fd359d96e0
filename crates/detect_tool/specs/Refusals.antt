-- What is refused before the chip is read: words, then lent memory.
use Rattle.std.specs.Prelude.{ℕ, ◌≢◌, List, [], ◌∷◌, ◌++◌, Option, Some, None, if◌then◌else◌, codes, decimal}
use Rattle.nor_core.specs.declared.state.NorState.{Ghosts as NorOf}
use Rattle.tool_parts.specs.Endings.{ClosesWith}
use Rattle.detect_tool.specs.declared.memory.Lengths.{Lengths}
use Rattle.detect_tool.specs.declared.memory.Part.{Part}
use Rattle.detect_tool.specs.declared.memory.Part.TheVariants.{Chip, Words, Work, Check, Found}
use Rattle.detect_tool.specs.declared.refusing.Refusal.{Refusal}
use Rattle.detect_tool.specs.declared.refusing.Refusal.TheVariants.{Usage, Short}
use Rattle.detect_tool.specs.Words.{is_command}
use Rattle.detect_tool.specs.Lent.{length_refusal}

-- why the command is refused on a chip of so many bytes
abbrev pub refusal_of : (words : List (List ℕ)) (size : ℕ) → Lengths → Option Refusal
refusal_of words size lent = if is_command words then length_refusal size lent else Some Usage

-- the status of a refusal
abbrev pub refusal_status : Refusal → ℕ
refusal_status Usage = 1
refusal_status (Short part need given) = 10

-- the word for a part of the lent memory
abbrev pub part_word : Part → List ℕ
part_word Chip = codes "chip"
part_word Words = codes "words"
part_word Work = codes "work"
part_word Check = codes "check"
part_word Found = codes "found"

-- how much of a part is needed and given
unfoldable pub short_line : Part → (need given : ℕ) → List ℕ
short_line part need given = codes "! short buffer " ++ part_word part ++ (codes " need " ++ decimal need) ++ (codes " given " ++ decimal given) ++ 10 ∷ []

-- the closing line of a refusal
abbrev pub refusal_line : Refusal → List ℕ
refusal_line Usage = codes "! usage\n"
refusal_line (Short part need given) = short_line part need given

-- A command that is refused only says its closing line; another has none of the statuses of a refusal.
abbrev pub RefusesIf : {D : Type 0} (nor : NorOf D) (old new : D) (refusal : Option Refusal) (status : ℕ) → Type 0
RefusesIf nor old new None status = (status ≢ 1) × (status ≢ 10)
RefusesIf nor old new (Some refusal) status = ClosesWith nor old new (refusal_line refusal) (refusal_status refusal) status
