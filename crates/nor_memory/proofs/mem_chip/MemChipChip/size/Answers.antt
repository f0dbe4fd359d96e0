use Rattle.nor_memory.proofs.ChipCalls.{honest_chip}
use Rattle.nor_memory.proofs.mem_chip.MemChipChip.size.Goals as goal

pub returns-clause-honest : goal.returns-clause-honest
returns-clause-honest c = honest_chip c.args.self.now
