use Rattle.std.proofs.Common.{arith}
use Rattle.plain_promise.proofs.Printing.{steps_none, steps_more}
use Rattle.plain_promise.proofs.text.put_tables.Goals as goal

pub loop-files-init : goal.loop-files-init
loop-files-init c = record { number = omega arith; text = steps_none c.args.text.now.items c.args.line c.args.step c.args.tables.now }

pub loop-files-preserved : goal.loop-files-preserved
loop-files-preserved c = record {
  number = omega (arith, c.in-Some.ensures, c.loop-files.invariant.number);
  text = steps_more c.args.text.now.items c.loop-files.text.items c.put_table.new.text.items c.args.line c.args.step c.loop-files.number c.args.tables.now c.loop-files.files-index c.files-item.result c.loop-files-test.true c.files-item.is
      c.loop-files.invariant.number c.loop-files.invariant.text (rw c.as_slice.ensures.value at c.in_ok-put_table.ensures);
}
