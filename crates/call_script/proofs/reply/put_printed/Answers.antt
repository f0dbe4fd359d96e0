use Rattle.std.proofs.Common.{arith}
use Rattle.call_script.proofs.Putting.{puts_more, puts_none, printed_more, printed_none}
use Rattle.call_script.proofs.reply.put_printed.Goals as goal

pub loop-byte-init : goal.loop-byte-init
loop-byte-init c = (rw printed_none (puts_none _ _), omega arith)

pub loop-byte-preserved : goal.loop-byte-preserved
loop-byte-preserved c =
    (rw (printed_more _ _ c.loop-byte-test.true) (puts_more _ _ _ _ _ _ _ _ c.loop-byte.invariant.0 c.put_printed_byte-end.ensures.put), omega arith)
