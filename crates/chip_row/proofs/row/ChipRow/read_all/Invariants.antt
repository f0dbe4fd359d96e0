use Rattle.std.proofs.Common.{◌≡◌, ◌+◌, ◌≤◌, ◌-◌, length, take, Ok}
use Rattle.std.specs.List.{slice_range}
use Rattle.nor_core.specs.Device.{OnlyReads}
use Rattle.chip_row.specs.contracts.row.ChipRowNorState.TheImpl.{ghosts}
use Rattle.chip_row.specs.Asks.{Asks, HoldsSome}
use Rattle.chip_row.proofs.Pieces.{AtChip}
use Rattle.chip_row.proofs.row.ChipRow.read_all.Given as goal

abbrev pub decreases-loop-done : goal.decreases-loop-done
decreases-loop-done g l = length l.into - l.done

abbrev pub invariant-loop-done : goal.invariant-loop-done
invariant-loop-done g l =
    let nor = (ghosts g.row.C g.C.Chip g.C.Chip-dict g.C.ChipState g.C.ChipState-dict g.C.Destruct-dict) in
    let was = l.fn.self in
    record {
      only_reads : OnlyReads nor was l.self;
      size : length l.into ≡ length l.fn.into;
      read : nor.tells was → take l.done l.into ≡ slice_range (nor.bytes was) l.at (l.at + l.done);
      within : l.done ≤ length l.fn.into;
      at_chip : AtChip l.at l.done (length l.fn.into) was.numbers.chip_size;
      asks : Asks g.C.ChipState (HoldsSome was.numbers.chip_size l.at l.done) was l.self (Ok tt) ⊥;
      reads : l.self.reads ≡ was.reads;
    }
