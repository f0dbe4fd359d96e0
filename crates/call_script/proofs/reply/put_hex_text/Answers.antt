use Rattle.std.proofs.Common.{arith}
use Rattle.call_script.proofs.Putting.{puts_more, puts_none, hex_text_more, hex_text_none}
use Rattle.call_script.proofs.reply.put_hex_text.Goals as goal

pub loop-byte-init : goal.loop-byte-init
loop-byte-init c = (rw hex_text_none (puts_none _ _), omega arith)

pub loop-byte-preserved : goal.loop-byte-preserved
loop-byte-preserved c =
    (rw (hex_text_more _ _ c.loop-byte-test.true) (puts_more _ _ _ _ _ _ _ _ c.loop-byte.invariant.0 c.put_hex-end.ensures), omega (arith, c.put_hex-end.ensures.end_is))
