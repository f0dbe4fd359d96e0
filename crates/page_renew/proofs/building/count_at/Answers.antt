use Rattle.std.proofs.Common.{sym, ◌∙◌, ap}
use Rattle.flash_view.proofs.Looking.{looks_then}
use Rattle.geometry.specs.declared.geometry.Geometry.{Geometry}
use Rattle.table_model.specs.Room.{data_pages}
use Rattle.page_renew.proofs.IndexCopies.{count_none, count_some}
use Rattle.page_renew.proofs.building.count_at.Goals as goal

pub returns-in_default-clause-told : goal.returns-in_default-clause-told
returns-in_default-clause-told g c = λ tells.
    count_none c.args.v.now.geometry (g.N.NorState.bytes c.args.v.now.nor.now) c.args.id (sym c.in_default.is ∙ c.in_ok-header.ensures.told tells)

pub returns-clause-told : goal.returns-clause-told
returns-clause-told g c = λ tells.
    let first = c.in_ok-header.ensures in
    let both = looks_then first.looks c.in_ok-size.ensures.looks in
    c.data_pages.ensures.pages ∙ ap (λ (x : Geometry). data_pages x c.in_ok-size.size) both.same.geometry
    ∙ count_some c.args.v.now.geometry (g.N.NorState.bytes c.args.v.now.nor.now) c.args.id c.in-Some.header c.in_ok-size.size (sym c.in-Some.is ∙ first.told tells)
    (rw (first.looks.same.geometry, first.looks.reads.bytes) at (c.in_ok-size.ensures.told (first.looks.reads.told tells)))
