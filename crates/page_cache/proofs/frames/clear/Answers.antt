use Rattle.std.proofs.Common.{arith}
use Rattle.std.proofs.lemmas.Grind.{common_steps}
use Rattle.page_cache.specs.Frames.{IsFree}
use Rattle.page_cache.proofs.Places.{count_same}
use Rattle.page_cache.proofs.Loops.{changed_none, changed_more, changed_all}
use Rattle.page_cache.proofs.frames.clear.Goals as goal

pub loop-f-init : goal.loop-f-init
loop-f-init c = changed_none c.args.g.now IsFree c.args.frames.now

pub clear_one-requires : goal.clear_one-requires
clear_one-requires c = omega (arith, count_same c.args.g.now c.args.frames.now c.loop-f.frames c.loop-f.auto.frames, c.loop-f-test.true)

pub loop-f-preserved : goal.loop-f-preserved
loop-f-preserved c = changed_more c.args.g.now IsFree c.args.frames.now c.loop-f.frames c.clear_one.new.frames c.loop-f.f c.loop-f.invariant c.clear_one.ensures.here c.clear_one.ensures.others

pub returns : goal.returns
returns c = changed_all c.args.g.now IsFree c.args.frames.now c.loop-f.frames c.loop-f.f (grind (arith, common_steps)) c.loop-f.invariant
