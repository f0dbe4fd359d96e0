use Rattle.std.proofs.Common.{rules}
use Rattle.script_run.proofs.Beginning.{runs_as, images_as}
use Rattle.tool_parts.proofs.Reading.{reads_once, reads_as, behind_as}
use Rattle.script_run.proofs.run.run.Goals as goal

pub returns-clause-few : goal.returns-clause-few
returns-clause-few g c =
    let made = c.new-volume.ensures in
    let few = c.run_volume.ensures.same.few in
    let here = rw (made.geometry, made.nor) at few in
    reads_as _ (reads_once _ _ _ here made.empty made.cache_size) (search rules)

pub returns-clause-behind : goal.returns-clause-behind
returns-clause-behind g c =
    let made = c.new-volume.ensures in
    let here = rw (made.geometry, made.nor) at c.run_volume.ensures.same.behind in
    behind_as here (search rules)

pub returns-clause-ends : goal.returns-clause-ends
returns-clause-ends g c = λ script tells.
    let made = c.new-volume.ensures in
    let ends = c.run_volume.ensures.ends _ made.closed in
    let here = rw (made.geometry, made.nor) at ends in
    runs_as _ _ (search rules) (here script tells)

pub returns-clause-begins : goal.returns-clause-begins
returns-clause-begins g c = λ tells.
    let made = c.new-volume.ensures in
    let begins = c.run_volume.ensures.begins _ made.closed in
    let here = rw (made.geometry, made.nor) at begins in
    images_as _ _ _ (returns-clause-few g c) (search rules) (here tells)
