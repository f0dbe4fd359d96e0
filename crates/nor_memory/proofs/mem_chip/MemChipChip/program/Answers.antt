use Rattle.std.proofs.Common.{refl, inl, ◌≤◌}
use Rattle.nor_core.proofs.Programs.{half_none}
use Rattle.nor_memory.specs.Moments.{IsProgram}
use Rattle.chip_row.proofs.Parts.{below_program}
use Rattle.nor_memory.proofs.ChipCalls.{honest_chip, newest_after, chip_called, chip_possible, in_program, program_in}
use Rattle.nor_memory.proofs.mem_chip.MemChipChip.program.Goals as goal

pub invariant_of-self-clause-below : goal.invariant_of-self-clause-below
invariant_of-self-clause-below c = below_program _ _ _ _ c.program_noted-answer.ensures.half c.args.self.now.below

pub invariant_of-self-clause-newest : goal.invariant_of-self-clause-newest
invariant_of-self-clause-newest c = newest_after _ _ _ _ _ _ _ _ _ _ c.requires.later c.args.self.now.newest c.program_noted-answer.ensures.noted

pub returns-clause-changes : goal.returns-clause-changes
returns-clause-changes c =
    let done = c.program_noted-answer.ensures in
    let faults : c.args.self.now.faults ≤ c.faults_after-self.result = c.faults_after-self.ensures.never_falls in
    chip_called _ _ _ _ _ c.args.self.now _ c.requires.later done.half.outside c.requires.inside done.noted done.unit faults done.reads refl
    (λ asked image is inside. in_program asked _ _ _ _ image is inside) (half_none _ _ _) done.half

pub returns-clause-honest : goal.returns-clause-honest
returns-clause-honest c = honest_chip _

pub returns-clause-possible : goal.returns-clause-possible
returns-clause-possible c = λ more image half.
    (let done = c.program_noted-answer.ensures in
    chip_possible _ _ _ (IsProgram c.args.from.now) c.args.self.now.board _ _ _ done.half.outside c.requires.inside done.noted more image (inl (λ asked is. program_in asked _ _ _ _ image is half)))
