use Rattle.plain_promise.proofs.Printing.{files_none, files_more}
use Rattle.plain_promise.proofs.text.put_files.Goals as goal

pub loop-f-init : goal.loop-f-init
loop-f-init c = files_none c.args.text.now.items c.args.files.now

pub loop-f-preserved : goal.loop-f-preserved
loop-f-preserved c = files_more c.args.text.now.items c.loop-f.text.items c.put_file.new.text.items c.args.files.now c.loop-f.f-index c.f-item.result c.loop-f-test.true c.f-item.is c.loop-f.invariant c.in_ok-put_file.ensures
