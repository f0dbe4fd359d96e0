use Rattle.std.proofs.Common.{◌∙◌, ap, arith, ⊎_elim, Some}
use Rattle.volume.specs.Holds.{memory}
use Rattle.tool_parts.proofs.Begun.{memory_begun}
use Rattle.script_run.proofs.Beginning.{begun_ends, early_ends, early_refused}
use Rattle.tool_parts.proofs.Refusals.{not_both}
use Rattle.script_run.proofs.Settling.{works_settled}
use Rattle.script_run.proofs.Working.{early_images, begun_images}
use Rattle.script_run.proofs.Among.{begin_in_run}
use Rattle.script_run.proofs.run.run_volume.Goals as goal

pub returns-in-Err-clause-ends : goal.returns-in-Err-clause-ends
returns-in-Err-clause-ends g c = λ slots closed script tells. early_ends slots (g.S.Source.left c.args.script.now) (g.S.Source.left c.args.script.now) c.in-Err.ending c.begin.ensures.changes tells (c.in-Err.ensures.stops tells)

pub returns-in-Ok-clause-ends : goal.returns-in-Ok-clause-ends
returns-in-Ok-clause-ends g c = λ slots closed script tells. begun_ends (memory c.settle.new.volume) slots (g.S.Source.left c.args.script.now) (g.S.Source.left c.run_script-ending.new.script) c.run_script-ending.result c.settle.result (memory_begun c.args.volume.now c.begin.new.volume slots c.in-Ok.ensures.closed closed) c.begin.ensures.changes tells (c.in-Ok.ensures.begun tells) c.begin.new.volume.geometry c.run_script-ending.new.volume.geometry c.begin.ensures.same.geometry (c.run_script-ending.ensures.same.geometry ∙ c.begin.ensures.same.geometry) (λ m stands. c.run_script-ending.ensures.ends m script stands) c.settle.ensures.settles

pub returns-in-Err-clause-refused : goal.returns-in-Err-clause-refused
returns-in-Err-clause-refused g c = λ tells ending is. early_refused ending c.in-Err.ending c.begin.ensures.changes tells is (c.in-Err.ensures.stops tells)

pub returns-in-Ok-clause-refused : goal.returns-in-Ok-clause-refused
returns-in-Ok-clause-refused g c = λ tells ending is. absurd (not_both (c.in-Ok.ensures.begun tells).takes is)

pub returns-in-Err-clause-begins : goal.returns-in-Err-clause-begins
returns-in-Err-clause-begins g c = λ slots closed tells. early_images c.in-Err.ending (c.in-Err.ensures.stops tells)

pub returns-in-Ok-clause-begins : goal.returns-in-Ok-clause-begins
returns-in-Ok-clause-begins g c = λ slots closed tells. begun_images slots c.settle.result c.begin.new.volume.geometry c.begin.ensures.same.geometry (memory_begun c.args.volume.now c.begin.new.volume slots c.in-Ok.ensures.closed closed) c.begin.ensures.changes tells (c.in-Ok.ensures.begun tells) (works_settled c.run_script-ending.result c.run_script-ending.new.volume.geometry c.run_script-ending.ensures.same.geometry c.run_script-ending.ensures.works c.settle.ensures.settles)

pub returns-in-Ok-clause-cause : goal.returns-in-Ok-clause-cause
returns-in-Ok-clause-cause g c = λ is. ⊎_elim
    (λ before. let rose = c.run_script-ending.ensures.ran.cause (ap Some before) in omega (arith, rose, c.begin.ensures.same.faults, c.settle.ensures.same.faults))
    (λ rose. omega (arith, rose, c.begin.ensures.same.faults, c.run_script-ending.ensures.same.faults))
    (c.settle.ensures.cause is)

pub returns-in-Err-clause-among : goal.returns-in-Err-clause-among
returns-in-Err-clause-among g c = begin_in_run c.in-Err.ending c.in-Err.ensures.among

pub returns-in-Ok-clause-among : goal.returns-in-Ok-clause-among
returns-in-Ok-clause-among g c = c.settle.ensures.among c.run_script-ending.ensures.among
