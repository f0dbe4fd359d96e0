-- A command that only reads, with its closing line.
use Rattle.std.proofs.Common.{◌≡◌, ℕ, List}
use Rattle.geometry.specs.declared.geometry.Geometry.{Geometry}
use Rattle.nor_core.specs.declared.state.NorState.{Ghosts as NorOf}
use Rattle.nor_core.specs.Count.{Rose}
use Rattle.tool_parts.specs.declared.ending.Ending.{Ending}
use Rattle.tool_parts.specs.declared.ending.Ending.TheVariants.{BoardFault}
use Rattle.tool_parts.specs.Endings.{OnlyCloses}
use Rattle.tool_parts.specs.Reads.{ReadsOnce}
use Rattle.tool_parts.specs.Telling.{OnlyTells, OnlyConcludes}
use Rattle.tool_parts.proofs.Reading.{reads_said}
use Rattle.tool_parts.proofs.Speaking.{concludes, says_closed}

pub only_concludes : {D : Type 0} {nor : NorOf D} {g : Geometry} {old mid new : D} {text : List ℕ} {ending : Ending} (cache : ℕ) (result : Ending) (status : ℕ) → OnlyTells nor old mid text ending result → (result ≡ BoardFault → Rose (nor.faults old) (nor.faults mid)) → ReadsOnce nor g cache old mid → OnlyCloses nor mid new result status → OnlyConcludes nor g cache old new text ending status
only_concludes {D} {nor} {g} {old} {mid} {new} {text} {ending} cache result status told cause reads closes = record {
  says = says_closed text ending result status told.says told.speaks closes;
  told = λ tells. concludes text ending result status (told.says.cuts.told tells) told.says.cuts.faults cause (told.speaks tells) closes;
  reads = reads_said cache reads closes.says closes.cuts.faults;
}
