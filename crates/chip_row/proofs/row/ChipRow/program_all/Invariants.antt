use Rattle.std.proofs.Common.{◌≡◌, ◌≤◌, ◌-◌, length, take, Ok}
use Rattle.nor_core.specs.Device.{Changes}
use Rattle.nor_core.specs.Flash.{programmed, HalfProgrammed}
use Rattle.chip_row.specs.contracts.row.ChipRowNorState.TheImpl.{ghosts}
use Rattle.chip_row.specs.Asks.{Asks, HoldsSome}
use Rattle.chip_row.proofs.Pieces.{AtChip}
use Rattle.chip_row.proofs.row.ChipRow.program_all.Given as goal

abbrev pub decreases-loop-done : goal.decreases-loop-done
decreases-loop-done g l = length l.from - l.done

abbrev pub invariant-loop-done : goal.invariant-loop-done
invariant-loop-done g l =
    let nor = (ghosts g.row.C g.C.Chip g.C.Chip-dict g.C.ChipState g.C.ChipState-dict g.C.Destruct-dict) in
    let was = l.fn.self in
    record {
      changes : Changes nor was l.self (HalfProgrammed l.at (take l.done l.from));
      bytes : nor.tells was → nor.bytes l.self ≡ programmed (nor.bytes was) l.at (take l.done l.from);
      within : l.done ≤ length l.from;
      at_chip : AtChip l.at l.done (length l.from) was.numbers.chip_size;
      asks : Asks g.C.ChipState (HoldsSome was.numbers.chip_size l.at l.done) was l.self (Ok tt) ⊥;
      reads : l.self.reads ≡ was.reads;
      writes : l.self.writes ≡ was.writes;
    }
