use Rattle.std.proofs.Common.{◌≡◌, rules, refl, take}
use Rattle.volume.proofs.RunSettling.{any_file, writes_on, writes_at}
use Rattle.volume.proofs.settling.settle_on.Goals as goal

pub returns-clause-kept : goal.returns-clause-kept
returns-clause-kept g c = let same = (c.write_all-result.ensures any_file).steps.framed.same in search (rules, same)

pub returns-clause-behind : goal.returns-clause-behind
returns-clause-behind g c = let same = (c.write_all-result.ensures any_file).steps.framed.same in search (rules, same.behind)

pub returns-clause-few : goal.returns-clause-few
returns-clause-few g c = let same = (c.write_all-result.ensures any_file).steps.framed.same in search (rules, same.few)

pub returns-clause-faults : goal.returns-clause-faults
returns-clause-faults g c = let same = (c.write_all-result.ensures any_file).steps.framed.same in search (rules, same.faults)

pub returns-clause-asked : goal.returns-clause-asked
returns-clause-asked g c = λ w. let same = (c.write_all-result.ensures any_file).steps.framed.same in search (rules, same.asked refl w)

pub returns-clause-writes : goal.returns-clause-writes
returns-clause-writes g c =
    let kept : c.kept.result.now ≡ take c.args.held.now.taken c.args.bytes.now = rw c.requires.used at c.kept.ensures in
    λ f. let step = rw kept at (c.write_all-result.ensures f) in writes_at (writes_on step refl) (search rules)

pub returns-clause-table : goal.returns-clause-table
returns-clause-table g c = λ on. let same = (c.write_all-result.ensures any_file).steps.framed.same in search (rules, same, c.write_all-result.new.v.table on)
