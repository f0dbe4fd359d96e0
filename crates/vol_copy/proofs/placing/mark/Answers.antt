use Rattle.vol_copy.proofs.Marking.{mark_none, mark_skips, set_cuts, set_done, set_stops}
use Rattle.table_model.specs.Ask.{SetsMeta}
use Rattle.copy_model.specs.Copying.{working}
use Rattle.vol_copy.specs.Went.{done_as}
use Rattle.vol_copy.proofs.Causes.{went-never, done-never}
use Rattle.vol_copy.proofs.placing.mark.Goals as goal

pub returns-then-needs_no_meta-clause-cuts : goal.returns-then-needs_no_meta-clause-cuts
returns-then-needs_no_meta-clause-cuts g c = mark_none c.args.stat.now c.args.to.now

pub returns-then-needs_no_meta-clause-done : goal.returns-then-needs_no_meta-clause-done
returns-then-needs_no_meta-clause-done g c = mark_skips c.args.stat.now c.args.to.now c.as_slice-meta.result.now c.as_slice-meta.ensures.bytes c.needs_no_meta.result c.needs_no_meta.ensures c.if-needs_no_meta.true

pub returns-clause-cuts : goal.returns-clause-cuts
returns-clause-cuts g c = set_cuts c.args.stat.now c.args.to.now c.perform.new.to c.perform.result c.as_slice-meta.result.now c.as_slice-meta.ensures.bytes c.perform.ensures.went c.needs_no_meta.result c.needs_no_meta.ensures c.if-needs_no_meta.false

pub returns-clause-done : goal.returns-clause-done
returns-clause-done g c = set_done c.args.stat.now c.args.to.now c.perform.new.to c.perform.result c.as_slice-meta.result.now c.as_slice-meta.ensures.bytes c.perform.ensures.went c.needs_no_meta.result c.needs_no_meta.ensures c.if-needs_no_meta.false

pub returns-clause-stops : goal.returns-clause-stops
returns-clause-stops g c = set_stops c.args.stat.now c.args.to.now c.perform.new.to c.perform.result c.as_slice-meta.result.now c.as_slice-meta.ensures.bytes c.perform.ensures.went c.needs_no_meta.result c.needs_no_meta.ensures c.if-needs_no_meta.false

pub returns-clause-source : goal.returns-clause-source
returns-clause-source g c = λ is. went-never done_as done-never (SetsMeta working c.as_slice-meta.result.now) c.args.to.now c.perform.new.to c.perform.result c.perform.ensures.went is
