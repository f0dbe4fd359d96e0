use Rattle.std.proofs.Common.{◌≡◌, sym, refl, rules}
use Rattle.volume.specs.Holds.{memory}
use Rattle.table_model.specs.Ask.{asked}
use Rattle.call_script.specs.Lines.{of_line, NoCall, Asks, Bad}
use Rattle.run_model.proofs.Chain.{reached_none}
use Rattle.script_run.proofs.LineWork.{no_call, none_good, same_reached}
use Rattle.script_run.proofs.OneLine.{reply_did, stop_did}
use Rattle.script_run.proofs.Working.{works_stop, works_reply, works_none, works_end}
use Rattle.tool_parts.specs.declared.ending.Ending.TheVariants.{BadLine}
use Rattle.script_run.proofs.script.answer.Goals as goal

pub returns-in_default-clause-did : goal.returns-in_default-clause-did
returns-in_default-clause-did g c = λ m stands.
    let p : Bad ≡ of_line c.args.line.now = search rules in
    (sym p, refl, reached_none c.args.volume.now.nor.now (memory c.args.volume.now) m stands)

pub returns-in_default-parsed-clause-did : goal.returns-in_default-parsed-clause-did
returns-in_default-parsed-clause-did g c = λ m stands.
    let p : NoCall ≡ of_line c.args.line.now = search rules in
    (none_good c.args.line.now (sym p), same_reached (no_call c.args.line.now (sym p)) (reached_none c.args.volume.now.nor.now (memory c.args.volume.now) m stands))

pub returns-in-Ok-apply-clause-did : goal.returns-in-Ok-apply-clause-did
returns-in-Ok-apply-clause-did g c = λ m stands.
    let ask = asked c.in-Some.call in
    let p : Asks ask ≡ of_line c.args.line.now = search rules in
    let ok = c.in-Ok-apply.ensures.does.answers m stands in
    rw c.say_reply.ensures.memory (reply_did c.say_reply.result c.args.line.now c.args.number ask (sym p) (c.apply.ensures.does.changes m) stands ok (rw c.reply.ensures.shows at c.say_reply.ensures.says) (rw c.reply.ensures.shows at c.say_reply.ensures.cuts) c.say_reply.ensures.fault ((rw c.reply.ensures.shows at c.say_reply.ensures.done) ok.stands.stands.tells))

pub returns-in-Err-clause-did : goal.returns-in-Err-clause-did
returns-in-Err-clause-did g c = λ m stands.
    let ask = asked c.in-Some.call in
    let p : Asks ask ≡ of_line c.args.line.now = search rules in
    stop_did c.in-Err.ending (memory c.apply.new.volume) c.args.line.now c.args.number ask (sym p) (c.apply.ensures.does.changes m) stands (c.in-Err.ensures.does.stops m stands)

pub returns-in_default-clause-works : goal.returns-in_default-clause-works
returns-in_default-clause-works g c = works_end (BadLine c.args.number) c.args.volume.now.nor.now (memory c.args.volume.now) (λ here. here)

pub returns-in_default-parsed-clause-works : goal.returns-in_default-parsed-clause-works
returns-in_default-parsed-clause-works g c = works_none c.args.volume.now.nor.now (memory c.args.volume.now)

pub returns-in-Ok-apply-clause-works : goal.returns-in-Ok-apply-clause-works
returns-in-Ok-apply-clause-works g c = rw c.say_reply.ensures.memory (works_reply c.say_reply.result c.in-Ok-apply.ensures.does c.say_reply.ensures.says c.say_reply.ensures.cuts c.say_reply.ensures.fault)

pub returns-in-Err-clause-works : goal.returns-in-Err-clause-works
returns-in-Err-clause-works g c = works_stop c.in-Err.ending c.in-Err.ensures.does
