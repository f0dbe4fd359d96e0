use Rattle.std.proofs.Common.{rules}
use Rattle.meta_guess.proofs.Reading.{reads_once, reads_as}
use Rattle.meta_guess.proofs.counting.count_if_damaged.Goals as goal

pub returns-clause-few : goal.returns-clause-few
returns-clause-few g c =
    let made = c.new-v.ensures in
    let few = c.count_view_if.ensures.looks.same.few in
    let here = rw (made.geometry, made.nor) at few in
    reads_as _ (reads_once _ _ _ here made.empty made.cache_size) (search rules)
