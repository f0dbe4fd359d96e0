use Rattle.std.proofs.Common.{refl, sym, ◌∙◌}
use Rattle.table_model.specs.Ask.{NextAbove}
use Rattle.file_calls.proofs.Going.{err_is, goes_refused, goes_shown}
use Rattle.file_calls.proofs.Showing.{flat_next}
use Rattle.file_calls.proofs.looking.tell_next.Goals as goal

pub returns-in_err-stat-clause-goes : goal.returns-in_err-stat-clause-goes
returns-in_err-stat-clause-goes g c =
    let looked = c.in_err-stat.ensures in
    rw (err_is c.from_residual.result c.from_residual.ensures.1) (λ slots into. goes_refused {T = Unit {0}} (NextAbove c.args.after) _ c.stat_above.new.v.wrote (looked.looks.wrote ∙ c.requires.fresh) looked.looks.reads refl refl refl (λ e. looked.cause) (λ s here no_fault. absurd (no_fault refl)))

pub returns-in-Some-clause-goes : goal.returns-in-Some-clause-goes
returns-in-Some-clause-goes g c =
    let looked = c.in_ok-stat.ensures in
    λ slots into. goes_shown (NextAbove c.args.after) _ c.stat_above.new.v.wrote (looked.looks.wrote ∙ c.requires.fresh) looked.looks.reads refl refl refl refl (λ bytes e. absurd (cc))
    (λ s here. flat_next c.args.v.now.geometry _ s c.args.after _ _ here.table (sym c.in-Some.is ∙ looked.told here.tells here.tidy))

pub returns-in-None-clause-goes : goal.returns-in-None-clause-goes
returns-in-None-clause-goes g c =
    let looked = c.in_ok-stat.ensures in
    λ slots into. goes_shown (NextAbove c.args.after) _ c.stat_above.new.v.wrote (looked.looks.wrote ∙ c.requires.fresh) looked.looks.reads refl refl refl refl (λ bytes e. absurd (cc))
    (λ s here. flat_next c.args.v.now.geometry _ s c.args.after _ _ here.table (sym c.in-None.is ∙ looked.told here.tells here.tidy))
