use Rattle.std.proofs.Common.{List, Result, sym, ◌∙◌}
use Rattle.table_model.specs.Table.{File}
use Rattle.copy_model.specs.declared.err.Copied.{Copied}
use Rattle.copy_model.specs.declared.err.CopyErr.{CopyErr}
use Rattle.vol_copy.specs.Ends.{TellsFiles, alike_of, EndsFrom}
use Rattle.vol_copy.proofs.Exits.{passed_as}
use Rattle.vol_copy.proofs.Fitting.{reader_image}
use Rattle.vol_copy.proofs.Ending.{as_copy, first_cuts, ends_first, ends_unread, ends_bad, ready_cuts, ends_ready, all_cuts, ends_all}
use Rattle.volume.proofs.Staying.{same_then}
use Rattle.vol_copy.proofs.Readers.{reader_then}
use Rattle.vol_copy.proofs.copying.copy_all.Goals as goal

pub returns-in_err-check_room-clause-cuts : goal.returns-in_err-check_room-clause-cuts
returns-in_err-check_room-clause-cuts g c =
    as_copy c.args.from.now (reader_image c.args.from.now (λ tells. g.met.N.Nor.sized _ tells)) c.args.to.now c.check_room.new.to
    (first_cuts c.args.from.now (reader_image c.args.from.now (λ tells. g.met.N.Nor.sized _ tells)) c.args.to.now c.check_room.new.to c.check_room.ensures.cuts c.check_room.ensures.idle)

pub returns-in_err-check_room-clause-ends : goal.returns-in_err-check_room-clause-ends
returns-in_err-check_room-clause-ends g c =
    passed_as (λ (r : Result Copied CopyErr). (source : List File) → TellsFiles g.N.NorState c.args.from.now source → EndsFrom (alike_of c.args.from.now.geometry c.args.to.now.geometry) source c.args.to.now c.check_room.new.to r) c.from_residual.result _ c.from_residual.ensures.1
    (ends_first c.args.from.now (reader_image c.args.from.now (λ tells. g.met.N.Nor.sized _ tells)) c.args.to.now c.check_room.new.to c.check_room.ensures.cuts c.check_room.ensures.idle _ c.in_err-check_room.ensures.stops)

pub returns-in_err-at-clause-cuts : goal.returns-in_err-at-clause-cuts
returns-in_err-at-clause-cuts g c =
    as_copy c.args.from.now (reader_image c.args.from.now (λ tells. g.met.N.Nor.sized _ tells)) c.args.to.now c.check_room.new.to
    (first_cuts c.args.from.now (reader_image c.args.from.now (λ tells. g.met.N.Nor.sized _ tells)) c.args.to.now c.check_room.new.to c.check_room.ensures.cuts c.check_room.ensures.idle)

pub returns-in_err-at-clause-ends : goal.returns-in_err-at-clause-ends
returns-in_err-at-clause-ends g c =
    passed_as (λ (r : Result Copied CopyErr). (source : List File) → TellsFiles g.N.NorState c.args.from.now source → EndsFrom (alike_of c.args.from.now.geometry c.args.to.now.geometry) source c.args.to.now c.check_room.new.to r) c.from_residual-in_err-at.result _ c.from_residual-in_err-at.ensures.1
    (ends_unread c.args.from.now (reader_image c.args.from.now (λ tells. g.met.N.Nor.sized _ tells)) c.args.to.now c.check_room.new.to c.check_room.ensures.cuts c.check_room.ensures.idle _ c.in_err-at.ensures.only)

pub returns-in-Some-clause-cuts : goal.returns-in-Some-clause-cuts
returns-in-Some-clause-cuts g c =
    as_copy c.args.from.now (reader_image c.args.from.now (λ tells. g.met.N.Nor.sized _ tells)) c.args.to.now c.check_room.new.to
    (first_cuts c.args.from.now (reader_image c.args.from.now (λ tells. g.met.N.Nor.sized _ tells)) c.args.to.now c.check_room.new.to c.check_room.ensures.cuts c.check_room.ensures.idle)

pub returns-in-Some-clause-ends : goal.returns-in-Some-clause-ends
returns-in-Some-clause-ends g c =
    ends_bad c.args.from.now (reader_image c.args.from.now (λ tells. g.met.N.Nor.sized _ tells)) c.args.to.now c.check_room.new.to c.check_room.ensures.cuts c.check_room.ensures.idle
    c.in_ok-check_room.ensures.done c.in-Some.at (λ source tells. sym c.in-Some.is ∙ c.in_ok-at.ensures.told source tells)

pub returns-in_err-remove_working-in-None-clause-cuts : goal.returns-in_err-remove_working-in-None-clause-cuts
returns-in_err-remove_working-in-None-clause-cuts g c =
    as_copy c.args.from.now (reader_image c.args.from.now (λ tells. g.met.N.Nor.sized _ tells)) c.args.to.now c.remove_working.new.to
    (ready_cuts c.args.from.now (reader_image c.args.from.now (λ tells. g.met.N.Nor.sized _ tells)) c.args.to.now c.check_room.new.to c.check_room.ensures.cuts c.check_room.ensures.idle
    c.in_ok-check_room.ensures.done (λ source tells. sym c.in-None.is ∙ c.in_ok-at.ensures.told source tells)
    c.remove_working.new.to c.remove_working.ensures.cuts c.remove_working.ensures.idle)

pub returns-in_err-remove_working-in-None-clause-ends : goal.returns-in_err-remove_working-in-None-clause-ends
returns-in_err-remove_working-in-None-clause-ends g c =
    passed_as (λ (r : Result Copied CopyErr). (source : List File) → TellsFiles g.N.NorState c.args.from.now source → EndsFrom (alike_of c.args.from.now.geometry c.args.to.now.geometry) source c.args.to.now c.remove_working.new.to r) c.from_residual-in_err-remove_working-in-None.result _ c.from_residual-in_err-remove_working-in-None.ensures.1
    (ends_ready c.args.from.now (reader_image c.args.from.now (λ tells. g.met.N.Nor.sized _ tells)) c.args.to.now c.check_room.new.to c.check_room.ensures.cuts c.check_room.ensures.idle
    c.in_ok-check_room.ensures.done (λ source tells. sym c.in-None.is ∙ c.in_ok-at.ensures.told source tells)
    c.remove_working.new.to c.remove_working.ensures.cuts c.remove_working.ensures.idle _ c.in_err-remove_working-in-None.ensures.stops)

pub returns-in_ok-remove_working-in-None-clause-cuts : goal.returns-in_ok-remove_working-in-None-clause-cuts
returns-in_ok-remove_working-in-None-clause-cuts g c =
    as_copy c.args.from.now (reader_image c.args.from.now (λ tells. g.met.N.Nor.sized _ tells)) c.args.to.now c.copy_each.new.to
    (all_cuts c.args.from.now (reader_image c.args.from.now (λ tells. g.met.N.Nor.sized _ tells)) c.args.to.now c.check_room.new.to c.check_room.ensures.cuts c.check_room.ensures.idle
    c.in_ok-check_room.ensures.done (λ source tells. sym c.in-None.is ∙ c.in_ok-at.ensures.told source tells)
    c.remove_working.new.to c.remove_working.ensures.cuts c.remove_working.ensures.idle
    c.in_ok-remove_working-in-None.ensures.done c.first_working.new.from c.first_working.ensures.reads c.first_working.ensures.same c.copy_each.new.to c.copy_each.ensures.cuts c.copy_each.ensures.idle)

pub returns-in_ok-remove_working-in-None-clause-ends : goal.returns-in_ok-remove_working-in-None-clause-ends
returns-in_ok-remove_working-in-None-clause-ends g c =
    ends_all c.args.from.now (reader_image c.args.from.now (λ tells. g.met.N.Nor.sized _ tells)) c.args.to.now c.check_room.new.to c.check_room.ensures.cuts c.check_room.ensures.idle
    c.in_ok-check_room.ensures.done (λ source tells. sym c.in-None.is ∙ c.in_ok-at.ensures.told source tells)
    c.remove_working.new.to c.remove_working.ensures.cuts c.remove_working.ensures.idle
    c.in_ok-remove_working-in-None.ensures.done c.first_working.new.from c.first_working.ensures.reads c.first_working.ensures.same c.copy_each.new.to c.copy_each.ensures.cuts c.copy_each.ensures.idle c.copy_each.result c.copy_each.ensures.done c.copy_each.ensures.stops

pub returns-in_ok-remove_working-in-None-clause-same_from : goal.returns-in_ok-remove_working-in-None-clause-same_from
returns-in_ok-remove_working-in-None-clause-same_from g c = reader_then c.first_working.ensures.same c.copy_each.ensures.same_from

pub returns-in_ok-remove_working-in-None-clause-same_to : goal.returns-in_ok-remove_working-in-None-clause-same_to
returns-in_ok-remove_working-in-None-clause-same_to g c = same_then (same_then c.check_room.ensures.same c.remove_working.ensures.same) c.copy_each.ensures.same_to
