use Rattle.std.proofs.Common.{refl, sym, ◌∙◌}
use Rattle.nor_core.proofs.Cuts.{reads_none}
use Rattle.table_model.specs.Ask.{Stats}
use Rattle.file_calls.proofs.Going.{err_is, goes_named, goes_refused, goes_shown}
use Rattle.file_calls.proofs.Showing.{flat_stat, flat_no_stat}
use Rattle.file_calls.proofs.looking.tell_stat.Goals as goal

pub returns-in_err-accept-clause-goes : goal.returns-in_err-accept-clause-goes
returns-in_err-accept-clause-goes g c =
    let bad = c.in_err-accept.ensures in
    rw (err_is c.from_residual.result c.from_residual.ensures.1) (λ slots into. goes_named (Stats c.args.name.now) _ c.args.v.now.wrote c.requires.fresh (reads_none c.args.v.now.nor.now) refl refl bad.among bad.refused)

pub returns-in_err-stat-clause-goes : goal.returns-in_err-stat-clause-goes
returns-in_err-stat-clause-goes g c =
    let looked = c.in_err-stat.ensures in
    rw (err_is c.from_residual-in_err-stat.result c.from_residual-in_err-stat.ensures.1) (λ slots into. goes_refused {T = Unit {0}} (Stats c.args.name.now) _ c.stat_named.new.v.wrote (looked.looks.wrote ∙ c.requires.fresh) looked.looks.reads refl c.in_ok-accept.ensures.fine refl (λ e. looked.cause) (λ s here no_fault. absurd (no_fault refl)))

pub returns-in-Some-clause-goes : goal.returns-in-Some-clause-goes
returns-in-Some-clause-goes g c =
    let looked = c.in_ok-stat.ensures in
    let fine = c.in_ok-accept.ensures.fine in
    λ slots into. goes_shown (Stats c.args.name.now) _ c.stat_named.new.v.wrote (looked.looks.wrote ∙ c.requires.fresh) looked.looks.reads refl fine refl refl (λ bytes e. absurd (cc))
    (λ s here. flat_stat c.args.v.now.geometry _ s c.args.name.now _ c.in-Some.stat fine here.table (sym c.in-Some.is ∙ looked.told here.tells here.tidy))

pub returns-in-None-clause-goes : goal.returns-in-None-clause-goes
returns-in-None-clause-goes g c =
    let looked = c.in_ok-stat.ensures in
    let fine = c.in_ok-accept.ensures.fine in
    λ slots into. goes_refused {T = Unit {0}} (Stats c.args.name.now) _ c.stat_named.new.v.wrote (looked.looks.wrote ∙ c.requires.fresh) looked.looks.reads refl fine refl (λ e. absurd (cc))
    (λ s here no_fault. flat_no_stat c.args.v.now.geometry _ s c.args.name.now _ fine here.table (sym c.in-None.is ∙ looked.told here.tells here.tidy))
