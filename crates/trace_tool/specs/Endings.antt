-- The status and the closing line of each ending.
use Rattle.std.specs.Prelude.{ℕ, List, [], ◌++◌, codes, decimal}
use Rattle.flash_trace.specs.declared.verdict.Verdict.{Verdict}
use Rattle.flash_trace.specs.declared.verdict.Verdict.TheVariants.{Legal as IsLegal, Outside, WrongBits, BadCut, TooLarge as IsTooLarge}
use Rattle.trace_tool.specs.declared.ending.TraceEnding.{TraceEnding}
use Rattle.trace_tool.specs.declared.ending.TraceEnding.TheVariants.{Legal, NotLegal, TooLarge, NoMemory, BoardFault, ScriptFault}

-- the status that the command answers
abbrev pub ending_status : TraceEnding → ℕ
ending_status (Legal events replies) = 0
ending_status BoardFault = 7
ending_status ScriptFault = 8
ending_status NoMemory = 15
ending_status (NotLegal at) = 19
ending_status TooLarge = 20

-- how many events there were, and how many replies
abbrev pub legal_line : (events replies : ℕ) → List ℕ
legal_line events replies = (codes "legal " ++ decimal events) ++ (codes " events " ++ decimal replies) ++ codes " replies\n"

-- the number of the first event that is wrong, or before which something wrong stands
abbrev pub event_line : ℕ → List ℕ
event_line at = (codes "! event " ++ decimal at) ++ codes "\n"

-- the closing line, with the byte that ends it; none where the board failed
abbrev pub ending_line : TraceEnding → List ℕ
ending_line (Legal events replies) = legal_line events replies
ending_line BoardFault = []
ending_line ScriptFault = codes "! script fault\n"
ending_line NoMemory = codes "! memory\n"
ending_line (NotLegal at) = event_line at
ending_line TooLarge = codes "! trace too large\n"

-- how a trace ends on which that is the verdict
abbrev pub ending_of : Verdict → TraceEnding
ending_of (IsLegal events replies) = Legal events replies
ending_of (Outside at) = NotLegal at
ending_of (WrongBits at) = NotLegal at
ending_of (BadCut at) = NotLegal at
ending_of IsTooLarge = TooLarge
