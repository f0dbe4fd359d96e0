use Rattle.std.proofs.Common.{refl, ◌∙◌}
use Rattle.table_model.specs.Ask.{Informs}
use Rattle.file_calls.proofs.Going.{err_is, goes_refused, goes_shown}
use Rattle.file_calls.proofs.Showing.{flat_info}
use Rattle.file_calls.proofs.looking.tell_info.Goals as goal

pub returns-in_err-info-clause-goes : goal.returns-in_err-info-clause-goes
returns-in_err-info-clause-goes g c =
    let looked = c.in_err-info.ensures in
    rw (err_is c.from_residual.result c.from_residual.ensures.1) (λ slots into. goes_refused {T = Unit {0}} Informs _ c.info_of_all.new.v.wrote (looked.looks.wrote ∙ c.requires.fresh) looked.looks.reads refl refl refl (λ e. looked.cause) (λ s here no_fault. absurd (no_fault refl)))

pub returns-clause-goes : goal.returns-clause-goes
returns-clause-goes g c =
    let looked = c.in_ok-info.ensures in
    λ slots into. goes_shown Informs _ c.info_of_all.new.v.wrote (looked.looks.wrote ∙ c.requires.fresh) looked.looks.reads refl refl refl refl (λ bytes e. absurd (cc))
    (λ s here. flat_info c.args.v.now.geometry _ s _ c.in_ok-info.info here.table (looked.told here.tells here.tidy))
