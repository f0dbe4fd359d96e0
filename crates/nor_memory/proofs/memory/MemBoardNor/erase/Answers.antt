use Rattle.std.proofs.Common.{◌≤◌, refl, arith}
use Rattle.nor_memory.proofs.MemoryLemmas.{erase_noted, erase_possible, erase_stands, erase_spoken, erase_size}
use Rattle.nor_memory.proofs.memory.MemBoardNor.erase.Goals as goal

pub invariant_of-self-clause-stands : goal.invariant_of-self-clause-stands
invariant_of-self-clause-stands c = erase_stands _ _ _ _ _ _ _ _ _ c.args.self.now.stands c.note_erase-answer.ensures.noted

pub invariant_of-self-clause-spoken : goal.invariant_of-self-clause-spoken
invariant_of-self-clause-spoken c = erase_spoken _ _ _ _ _ _ _ _ _ c.args.self.now.spoken c.note_erase-answer.ensures.noted

pub returns-clause-changes : goal.returns-clause-changes
returns-clause-changes c =
    let noted = c.note_erase-answer.ensures.noted in
    let faults : c.args.self.now.faults ≤ c.faults_after-self.result = c.faults_after-self.ensures.never_falls in
    let reads : c.args.self.now.reads ≤ c.args.self.now.reads = omega arith in
    let writes : c.args.self.now.writes ≤ c.saturating_add-self.result = omega (arith, c.saturating_add-self.ensures) in
    erase_noted _ _ (record { unit = refl; first = refl; size = erase_size _ _ _ _ _ _ _ _ noted; faults = faults; reads = reads; writes = writes }) _ _ _ refl noted

pub returns-clause-possible : goal.returns-clause-possible
returns-clause-possible c =
    let noted = c.note_erase-answer.ensures.noted in
    let faults : c.args.self.now.faults ≤ c.faults_after-self.result = c.faults_after-self.ensures.never_falls in
    let reads : c.args.self.now.reads ≤ c.args.self.now.reads = omega arith in
    let writes : c.args.self.now.writes ≤ c.saturating_add-self.result = omega (arith, c.saturating_add-self.ensures) in
    erase_possible _ _ (record { unit = refl; first = refl; size = erase_size _ _ _ _ _ _ _ _ noted; faults = faults; reads = reads; writes = writes }) _ _ _ noted
