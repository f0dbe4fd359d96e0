use Rattle.std.proofs.Common.{◌∙◌, ◌≤◌, ℕ, length, sym, subst}
use Rattle.std.proofs.lemmas.Result.{IfOk-weaker}
use Rattle.meta_guess.proofs.Needs.{same_needs}
use Rattle.meta_guess.proofs.guessing.count_by.Goals as goal

pub count_files-requires-clause-unit : goal.count_files-requires-clause-unit
count_files-requires-clause-unit g c = c.requires.unit ∙ sym c.with_meta.ensures.same.phys_is

pub count_files-requires-clause-fits : goal.count_files-requires-clause-fits
count_files-requires-clause-fits g c = let same = c.with_meta.ensures.same in rw (same.blocks_is, same.block_is) c.requires.fits

pub count_files-requires-clause-work : goal.count_files-requires-clause-work
count_files-requires-clause-work g c = subst (λ (n : ℕ). n ≤ length c.args.work.now) (sym (same_needs _ _ c.with_meta.ensures.same).0) c.requires.work

pub count_files-requires-clause-cache : goal.count_files-requires-clause-cache
count_files-requires-clause-cache g c = let same = c.with_meta.ensures.same in rw same.page_is c.requires.cache

pub count_files-requires-clause-check : goal.count_files-requires-clause-check
count_files-requires-clause-check g c = subst (λ (n : ℕ). n ≤ length c.args.marks.now) (sym (same_needs _ _ c.with_meta.ensures.same).1) c.requires.check

pub returns-clause-told : goal.returns-clause-told
returns-clause-told g c = λ tells.
    IfOk-weaker c.count_files.result _ _ (λ counts is. record { volume = c.with_meta.result; is = c.with_meta.ensures; counts_are = is }) (c.count_files.ensures.told tells)
