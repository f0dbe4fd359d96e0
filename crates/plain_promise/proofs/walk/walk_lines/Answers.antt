use Rattle.std.proofs.Common.{[], subst, get_or}
use Rattle.call_script.specs.Lines.{lines}
use Rattle.plain_table.specs.Seen.{files_of}
use Rattle.plain_table.specs.Moments.{moment_of, geometry_of}
use Rattle.promise_model.specs.Lines.{sort_of}
use Rattle.promise_model.specs.Places.{places}
use Rattle.plain_promise.specs.declared.walk.Turn.{Turn}
use Rattle.plain_promise.specs.Walks.{Turns}
use Rattle.plain_promise.proofs.Over.{walking_on, walking_broken}
use Rattle.plain_promise.proofs.walk.walk_lines.Goals as goal

pub returns-in-Broken : goal.returns-in-Broken
returns-in-Broken c =
    walking_broken (places (geometry_of c.args.first) (moment_of c.args.first) [] 1 (lines c.args.script.now)) c.args.ends.now c.args.script.now c.loop-text.at c.loop-text.walk c.loop-text.invariant
    c.in-Some.text.now c.in-Some.behind c.in-Some.ensures.some c.args.first.settled c.in-Broken.broken
    (subst (λ (t : Turn). Turns (sort_of c.in-Some.text.now) (files_of (get_or c.args.ends.now c.loop-text.walk.ended c.args.first.settled)) c.loop-text.walk t) c.in-Broken.is (c.in_ok-broken.ensures c.args.first.settled))

pub loop-text-preserved : goal.loop-text-preserved
loop-text-preserved c =
    walking_on (places (geometry_of c.args.first) (moment_of c.args.first) [] 1 (lines c.args.script.now)) c.args.ends.now c.args.script.now c.loop-text.at c.loop-text.walk c.loop-text.invariant
    c.in-Some.text.now c.in-Some.behind c.in-Some.ensures.some c.args.first.settled c.in-On.next
    (subst (λ (t : Turn). Turns (sort_of c.in-Some.text.now) (files_of (get_or c.args.ends.now c.loop-text.walk.ended c.args.first.settled)) c.loop-text.walk t) c.in-On.is (c.in_ok-broken.ensures c.args.first.settled))
