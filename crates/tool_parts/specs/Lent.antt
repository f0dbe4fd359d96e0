-- What the top call is handed, by its parameters.
use Rattle.std.specs.Prelude.{ℕ, List, length}
use Rattle.nor_core.specs.declared.state.NorState.{Ghosts as NorOf}
use Rattle.tool_parts.specs.declared.buffers.Buffers.{Buffers}
use Rattle.tool_parts.specs.declared.buffers.Lengths.{Lengths}
use Rattle.tool_parts.specs.Asked.{Asked, asked_by}

-- the lengths of what is lent
abbrev pub lengths_of : Buffers → Lengths
lengths_of bufs = record {
  work = length bufs.work.now;
  slots = length bufs.slots.now;
  cache = length bufs.cache.now;
  check = length bufs.check.now;
  window = length bufs.window.now;
  line = length bufs.line.now;
}

-- the words, and what a device and the lent memory are
abbrev pub asked_of : {D : Type 0} (nor : NorOf D) (words : List (List ℕ)) → D → Buffers → Asked
asked_of nor words board bufs = asked_by words (nor.unit board) (nor.size board) (lengths_of bufs)
