-- Which endings a command may have, whatever its board tells. Of a page that reads otherwise than it was written, two tags are told that
-- differ.
use Rattle.std.specs.Prelude.{ℕ, ◌≢◌, List}
use Rattle.nor_core.specs.declared.state.NorState.{Ghosts as NorOf}
use Rattle.nor_core.specs.Device.{Leaves}
use Rattle.tool_parts.specs.declared.ending.Ending.{Ending}
use Rattle.tool_parts.specs.declared.ending.Ending.TheVariants.{Done, NotAFs, Mixed, BoardFault, Tight, Differ}
use Rattle.tool_parts.specs.Endings.{OnlyCloses}

-- where a volume isn't mounted and checked
abbrev pub MayEndCheck : Ending → Type 0
MayEndCheck (NotAFs spoiled) = Unit {0}
MayEndCheck (Mixed blocks) = Unit {0}
MayEndCheck BoardFault = Unit {0}
MayEndCheck (Differ differ) = differ.wanted ≢ differ.found
MayEndCheck _ = ⊥

-- where it isn't worked on
abbrev pub MayEndBegin : Ending → Type 0
MayEndBegin (NotAFs spoiled) = Unit {0}
MayEndBegin (Mixed blocks) = Unit {0}
MayEndBegin BoardFault = Unit {0}
MayEndBegin (Tight free) = Unit {0}
MayEndBegin (Differ differ) = differ.wanted ≢ differ.found
MayEndBegin _ = ⊥

-- where it is, by calls of which none is of a script
abbrev pub MayEndWork : Ending → Type 0
MayEndWork Done = Unit {0}
MayEndWork (NotAFs spoiled) = Unit {0}
MayEndWork (Mixed blocks) = Unit {0}
MayEndWork BoardFault = Unit {0}
MayEndWork (Tight free) = Unit {0}
MayEndWork (Differ differ) = differ.wanted ≢ differ.found
MayEndWork _ = ⊥

-- A command came to one of these endings. From then on only the closing line of that is said, and the status is that of the ending, or 7 where a
-- fault of the board rose in it.
pub record EndsAmong {D : Type 0} (nor : NorOf D) (May : Ending → Type 0) (old new : D) (status : ℕ) : Type 0 where
  pub ending : Ending
  pub may : May ending
  pub before : D
  pub goes : Leaves nor old before (λ image count. Unit {0})
  pub closes : OnlyCloses nor before new ending status
