use Rattle.std.proofs.Common.{◌≡◌, rules, refl}
use Rattle.volume.specs.Cleaning.{CleansOn}
use Rattle.volume.proofs.Cleanings.{cleans_on}
use Rattle.volume.proofs.collecting.clean_on.Goals as goal

pub returns-clause-kept : goal.returns-clause-kept
returns-clause-kept g c = let same = c.clean_for-result.ensures.framed.same in search (rules, same)

pub returns-clause-behind : goal.returns-clause-behind
returns-clause-behind g c = let same = c.clean_for-result.ensures.framed.same in search (rules, same.behind)

pub returns-clause-few : goal.returns-clause-few
returns-clause-few g c = let same = c.clean_for-result.ensures.framed.same in search (rules, same.few)

pub returns-clause-faults : goal.returns-clause-faults
returns-clause-faults g c = let same = c.clean_for-result.ensures.framed.same in search (rules, same.faults)

pub returns-clause-asked : goal.returns-clause-asked
returns-clause-asked g c = λ w. let same = c.clean_for-result.ensures.framed.same in search (rules, same.asked refl w)

pub returns-clause-cleans : goal.returns-clause-cleans
returns-clause-cleans g c =
    let made = cleans_on {nor = g.N.NorState} c.clean_for-result.ensures refl in
    let given_back : (d : _) → d ≡ c.clean_for-result.new.v.nor.now → CleansOn g.N.NorState c.args.g c.args.aim c.args.nor.now d c.clean_for-result.new.v.wrote c.clean_for-result.result = λ d e. rw e made in
    given_back _ (search rules)

pub returns-clause-table : goal.returns-clause-table
returns-clause-table g c = λ on. let same = c.clean_for-result.ensures.framed.same in search (rules, same, c.clean_for-result.new.v.table on)
