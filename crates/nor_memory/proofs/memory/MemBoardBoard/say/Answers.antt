use Rattle.std.proofs.Common.{[], ◌≤◌, refl, arith}
use Rattle.nor_memory.proofs.MemoryLemmas.{say_noted, say_possible, say_stands, say_spoken}
use Rattle.nor_memory.proofs.memory.MemBoardBoard.say.Goals as goal

pub invariant_of-self-clause-stands : goal.invariant_of-self-clause-stands
invariant_of-self-clause-stands c = say_stands _ _ _ _ _ _ _ _ _ c.args.self.now.stands c.note_say-answer.ensures.noted

pub invariant_of-self-clause-spoken : goal.invariant_of-self-clause-spoken
invariant_of-self-clause-spoken c = say_spoken _ 0 _ _ _ [] _ _ c.args.self.now.spoken c.note_say-answer.ensures.noted

pub returns-clause-cuts : goal.returns-clause-cuts
returns-clause-cuts c =
    let noted = c.note_say-answer.ensures.noted in
    let faults : c.args.self.now.faults ≤ c.faults_after-self.result = c.faults_after-self.ensures.never_falls in
    let reads : c.args.self.now.reads ≤ c.args.self.now.reads = omega arith in
    let writes : c.args.self.now.writes ≤ c.args.self.now.writes = omega arith in
    say_noted _ _ (record { unit = refl; first = refl; size = refl; faults = faults; reads = reads; writes = writes }) _ _ refl noted

pub returns-clause-possible : goal.returns-clause-possible
returns-clause-possible c =
    let noted = c.note_say-answer.ensures.noted in
    let faults : c.args.self.now.faults ≤ c.faults_after-self.result = c.faults_after-self.ensures.never_falls in
    let reads : c.args.self.now.reads ≤ c.args.self.now.reads = omega arith in
    let writes : c.args.self.now.writes ≤ c.args.self.now.writes = omega arith in
    say_possible _ _ (record { unit = refl; first = refl; size = refl; faults = faults; reads = reads; writes = writes }) _ _ noted
