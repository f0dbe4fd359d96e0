use Rattle.file_calls.proofs.GcCalls.{gc_done, gc_stuck, gc_broken}
use Rattle.file_calls.proofs.Standing.{stands_collected, stands_uncollected}
use Rattle.file_calls.proofs.collecting.collect_in.Goals as goal

pub returns-in-Ok-false-clause-goes : goal.returns-in-Ok-false-clause-goes
returns-in-Ok-false-clause-goes g c = λ slots into. gc_done slots c.requires.fresh (rw c.in-Ok-false.field-0-test at c.in-Ok-false.ensures)

pub returns-in-Ok-true-clause-goes : goal.returns-in-Ok-true-clause-goes
returns-in-Ok-true-clause-goes g c = λ slots into. gc_stuck slots c.requires.fresh (rw c.in-Ok-true.field-0-test at c.in-Ok-true.ensures)

pub returns-in-Err-clause-goes : goal.returns-in-Err-clause-goes
returns-in-Err-clause-goes g c = rw c.from.ensures (λ slots into. gc_broken slots c.requires.fresh c.in-Err.why c.in-Err.ensures)

pub returns-in-Ok-false-clause-counted : goal.returns-in-Ok-false-clause-counted
returns-in-Ok-false-clause-counted g c = λ slots into. stands_collected slots _ c.in-Ok-false.ensures

pub returns-in-Ok-true-clause-counted : goal.returns-in-Ok-true-clause-counted
returns-in-Ok-true-clause-counted g c = λ slots into. stands_collected slots _ c.in-Ok-true.ensures

pub returns-in-Err-clause-counted : goal.returns-in-Err-clause-counted
returns-in-Err-clause-counted g c = rw c.from.ensures (λ slots into. stands_uncollected slots c.in-Err.why c.in-Err.ensures)
