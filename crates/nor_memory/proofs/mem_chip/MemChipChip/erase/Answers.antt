use Rattle.std.proofs.Common.{refl, inl, inr, ⊎_elim, ◌≤◌}
use Rattle.chip_row.specs.Chips.{ErasesUnit, HalfErasesUnit, InUnitErase}
use Rattle.nor_memory.specs.Moments.{IsErase}
use Rattle.chip_row.proofs.Parts.{below_erase, erase_outside, unit_within}
use Rattle.nor_memory.proofs.ChipCalls.{honest_chip, newest_after, chip_called, chip_possible, in_erase, erase_in}
use Rattle.nor_memory.proofs.mem_chip.MemChipChip.erase.Goals as goal

pub invariant_of-self-clause-below : goal.invariant_of-self-clause-below
invariant_of-self-clause-below c =
    let done = c.erase_noted-answer.ensures in
    let within = unit_within _ _ _ c.args.self.now.board.unit_is c.args.self.now.board.whole c.requires.inside in
    below_erase _ _ _ _ _ _ within done.done done.half c.args.self.now.below

pub invariant_of-self-clause-newest : goal.invariant_of-self-clause-newest
invariant_of-self-clause-newest c = newest_after _ _ _ _ _ _ _ _ _ _ c.requires.later c.args.self.now.newest c.erase_noted-answer.ensures.noted

pub returns-clause-done : goal.returns-clause-done
unfolding ErasesUnit
returns-clause-done c = λ tells. c.erase_noted-answer.ensures.done

pub returns-clause-half : goal.returns-clause-half
unfolding HalfErasesUnit
returns-clause-half c = λ tells. c.erase_noted-answer.ensures.half

pub returns-clause-changes : goal.returns-clause-changes
unfolding InUnitErase
returns-clause-changes c =
    let done = c.erase_noted-answer.ensures in
    let faults : c.args.self.now.faults ≤ c.faults_after-self.result = c.faults_after-self.ensures.never_falls in
    let within = unit_within _ _ _ c.args.self.now.board.unit_is c.args.self.now.board.whole c.requires.inside in
    let outside = erase_outside _ _ _ _ _ _ within done.done done.half in
    chip_called _ _ _ _ _ c.args.self.now _ c.requires.later outside within done.noted done.unit faults done.reads refl
    (λ asked image is inside. inl (in_erase asked _ _ _ _ image is inside)) (inl (inl refl)) (inr refl)

pub returns-clause-honest : goal.returns-clause-honest
returns-clause-honest c = honest_chip _

pub returns-clause-possible : goal.returns-clause-possible
returns-clause-possible c = λ more image half.
    (let done = c.erase_noted-answer.ensures in
    let within = unit_within _ _ _ c.args.self.now.board.unit_is c.args.self.now.board.whole c.requires.inside in
    let outside = erase_outside _ _ _ _ _ _ within done.done done.half in
    chip_possible _ _ _ (IsErase c.args.mark) c.args.self.now.board _ _ _ outside within done.noted more image (⊎_elim (λ within_it. inl (λ asked is. erase_in asked _ _ _ _ image is within_it)) (λ stands. inr stands) half))
