-- The bytes before a place are written, where the size is the file's.
use Rattle.std.proofs.Common.{◌≡◌, ◌+◌, ◌-◌, ◌≤◌, length, Ok}
use Rattle.table_model.specs.Table.{File}
use Rattle.geometry.specs.Numbers.{body}
use Rattle.file_calls.specs.Collecting.{refusing}
use Rattle.file_calls.specs.Cleans.{Turned, NeedsNoTail}
use Rattle.file_calls.specs.Writings.{CanWrite}
use Rattle.file_calls.proofs.WriteLoop.{writing_to, ends_to}
use Rattle.file_calls.proofs.writing.write_sized.Given as goal

abbrev pub invariant-loop-from : goal.invariant-loop-from
invariant-loop-from g l = record {
  low : l.at ≤ l.from;
  high : l.from ≤ l.end;
  end : l.end ≡ l.at + length l.bytes;
  step : (f : File) → (g.N.NorState.tells l.fn.v.nor.now → CanWrite l.fn.v.geometry (g.N.NorState.bytes l.fn.v.nor.now) l.id l.at l.bytes f → l.size ≡ length f.bytes) →
      Turned refusing (NeedsNoTail l.id (length f.bytes) l.from) (length (ends_to (body l.fn.v.geometry) (length f.bytes) l.at (length l.bytes) l.from)) l.fn.v l.v (Ok tt) (writing_to l.id l.at l.from l.bytes f);
}

abbrev pub decreases-loop-from : goal.decreases-loop-from
decreases-loop-from g l = l.end - l.from
