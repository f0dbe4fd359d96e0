use Rattle.std.proofs.Common.{◌≡◌, rules, refl, arith}
use Rattle.image_model.specs.Places.{IsImage}
use Rattle.volume.specs.Scrubs.{ScrubsOn}
use Rattle.volume.proofs.Scrubbings.{scrubs_on}
use Rattle.volume.proofs.scrubbing.scrub_on.Goals as goal

pub returns-clause-kept : goal.returns-clause-kept
returns-clause-kept g c = let same = c.scrub_step-result.ensures.step.framed.same in search (rules, same)

pub returns-clause-behind : goal.returns-clause-behind
returns-clause-behind g c = let same = c.scrub_step-result.ensures.step.framed.same in search (rules, same.behind)

pub returns-clause-few : goal.returns-clause-few
returns-clause-few g c = let same = c.scrub_step-result.ensures.step.framed.same in search (rules, same.few)

pub returns-clause-faults : goal.returns-clause-faults
returns-clause-faults g c = let same = c.scrub_step-result.ensures.step.framed.same in search (rules, same.faults)

pub returns-clause-asked : goal.returns-clause-asked
returns-clause-asked g c = λ w. let same = c.scrub_step-result.ensures.step.framed.same in search (rules, same.asked refl w)

pub returns-clause-scrubs : goal.returns-clause-scrubs
returns-clause-scrubs g c =
    let step = c.scrub_step-result.ensures.step in
    let image : g.N.NorState.tells c.args.nor.now → IsImage c.args.g (g.N.NorState.bytes c.args.nor.now) = λ tells. record { len = (let sized = g.met.N.Nor.sized _ tells in omega (arith, sized, c.requires.fits)) } in
    let made = scrubs_on {nor = g.N.NorState} image step refl c.scrub_step-result.ensures.idle in
    let given_back : (d : _) → d ≡ c.scrub_step-result.new.v.nor.now → ScrubsOn g.N.NorState c.args.g c.args.limit c.args.nor.now d c.scrub_step-result.new.v.wrote c.scrub_step-result.result = λ d e. rw e made in
    given_back _ (search rules)

pub returns-clause-table : goal.returns-clause-table
returns-clause-table g c = λ on. let same = c.scrub_step-result.ensures.step.framed.same in search (rules, same, c.scrub_step-result.new.v.table on)
