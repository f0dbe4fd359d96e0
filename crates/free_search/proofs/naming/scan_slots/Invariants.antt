-- The pages of the slots before `from` were looked at.
use Rattle.std.proofs.Common.{◌+◌, ◌-◌, ◌/◌, ◌≤◌, length}
use Rattle.flash_view.specs.Same.{OnlyLooks}
use Rattle.free_search.specs.Ids.{bits_at}
use Rattle.free_search.specs.Naming.{Scanned, AreSlots, first_entry}
use Rattle.free_search.proofs.naming.scan_slots.Given as goal

abbrev pub decreases-slots : goal.decreases-slots
decreases-slots g l = length l.bytes / 2 - l.from

abbrev pub invariant-slots : goal.invariant-slots
invariant-slots g l = record {
  looks : OnlyLooks l.fn.v l.v;
  most : l.from ≤ length l.bytes / 2;
  told :
      (let image = g.N.NorState.bytes l.fn.v.nor.now in
      g.N.NorState.tells l.fn.v.nor.now → AreSlots l.fn.v.geometry image l.bytes l.block l.start (length l.bytes / 2) →
      Scanned l.fn.v.geometry image (bits_at l.fn.v.geometry l.fn.v.work.now) l.name (first_entry l.fn.v.geometry l.block + l.start) →
      Scanned l.fn.v.geometry image (bits_at l.fn.v.geometry l.v.work.now) l.name (first_entry l.fn.v.geometry l.block + l.start + l.from));
}
