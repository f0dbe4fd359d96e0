use Rattle.std.proofs.lemmas.Result.{on_ok_weaker}
use Rattle.vol_check.proofs.Listed.{marked_listed}
use Rattle.vol_check.proofs.WantedPages.{marks_uses}
use Rattle.vol_check.proofs.marking.mark_uses.Goals as goal

pub returns-clause-told : goal.returns-clause-told
returns-clause-told g c = λ tells.
    let heads = c.in_ok-survey.ensures in
    let adds = rw (heads.looks.same.geometry, heads.looks.reads.bytes) at (c.mark_files.ensures.told (heads.looks.reads.told tells) (rw (heads.looks.same.geometry, heads.looks.reads.bytes) (marked_listed _ _ _ (heads.told tells)))) in
    on_ok_weaker c.mark_files.result (λ added. marks_uses _ _ _ _ (heads.told tells) added) adds
