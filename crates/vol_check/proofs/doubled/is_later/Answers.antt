use Rattle.std.proofs.Common.{◌∙◌}
use Rattle.vol_check.proofs.Doubles.{index_told}
use Rattle.vol_check.proofs.Noting.{noted_told, searched_told}
use Rattle.vol_check.proofs.doubled.is_later.Goals as goal

pub returns-in-Some-clause-told : goal.returns-in-Some-clause-told
returns-in-Some-clause-told g c = λ tells notes index. let n = c.in-Some.ensures in noted_told _ _ _ _ notes _ _ index.is index.index n.0 n.2 _ c.requires.page.below n.1

pub returns-clause-told : goal.returns-clause-told
returns-clause-told g c = λ tells notes index.
    let n = c.in_default.ensures in
    let found = rw c.object.ensures at (c.in_ok-find_index.ensures.told tells) in
    rw n.0 (searched_told _ _ _ _ notes _ _ index.is (c.ne.ensures ∙ index_told _ _ _ _ _ index.is index.index found) n.1)
