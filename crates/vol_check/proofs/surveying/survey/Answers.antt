use Rattle.std.proofs.Common.{◌+◌, ◌==◌, ◌∙◌, ℕ, ap, refl}
use Rattle.vol_check.proofs.Passing.{from_bool_is}
use Rattle.vol_check.proofs.TallySums.{tallied_survey}
use Rattle.vol_check.proofs.surveying.survey.Goals as goal

pub returns-clause-told : goal.returns-clause-told
returns-clause-told g c = λ tells.
    let marked = c.in_ok-mark_uses.ensures in
    let all = rw (marked.looks.same.geometry, marked.looks.reads.bytes) at (c.in_ok-all.ensures.told (marked.looks.reads.told tells) (rw (marked.looks.same.geometry, marked.looks.reads.bytes) (c.requires.owned tells)) (rw (marked.looks.same.geometry, marked.looks.reads.bytes) (marked.told tells))) in
    tallied_survey _ _ c.in_ok-all.all _ all refl refl refl (ap (λ (n : ℕ). c.in_ok-all.all.free + n) (c.from.ensures ∙ (from_bool_is (c.in_ok-all.all.spoiled == 1)).0))
