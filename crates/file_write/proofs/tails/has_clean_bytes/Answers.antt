use Rattle.std.proofs.Common.{sym, ◌∙◌}
use Rattle.file_write.proofs.TailLooks.{ones_none, other_none}
use Rattle.file_write.proofs.tails.has_clean_bytes.Goals as goal

pub returns-in-Some-clause-told : goal.returns-in-Some-clause-told
returns-in-Some-clause-told g c = λ tells tidy.
    let found = c.in_ok-header.ensures in
    rw (found.looks.same.geometry, found.looks.reads.bytes) at (c.is_clean_by.ensures.told (found.looks.reads.told tells) (rw (found.looks.same.geometry, found.looks.reads.bytes) tidy) (rw (found.looks.same.geometry, found.looks.reads.bytes) (sym (found.told tells tidy) ∙ c.in-Some.is)))

pub returns-in-Some-clause-other : goal.returns-in-Some-clause-other
returns-in-Some-clause-other g c = λ tells tidy.
    let found = c.in_ok-header.ensures in
    rw (found.looks.same.geometry, found.looks.reads.bytes) at (c.is_clean_by.ensures.other (found.looks.reads.told tells) (rw (found.looks.same.geometry, found.looks.reads.bytes) tidy) (rw (found.looks.same.geometry, found.looks.reads.bytes) (sym (found.told tells tidy) ∙ c.in-Some.is)))

pub returns-in-None-clause-told : goal.returns-in-None-clause-told
returns-in-None-clause-told g c = λ tells tidy. ones_none _ _ _ _ (sym (c.in_ok-header.ensures.told tells tidy) ∙ c.in-None.is) _

pub returns-in-None-clause-other : goal.returns-in-None-clause-other
returns-in-None-clause-other g c = λ tells tidy. other_none _ _ _ _ (sym (c.in_ok-header.ensures.told tells tidy) ∙ c.in-None.is) _
