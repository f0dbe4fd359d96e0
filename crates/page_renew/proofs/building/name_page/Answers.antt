use Rattle.std.proofs.Common.{drop, arith, length-take-le}
use Rattle.page_renew.proofs.DataBuilding.{named_by}
use Rattle.page_renew.proofs.building.name_page.Goals as goal

pub returns-clause-named : goal.returns-clause-named
returns-clause-named g c =
    let v = c.args.v.now in
    let fits = v.work_fits in
    named_by v.geometry c.args.span c.args.to c.page-len.result v.work.now c.name_data.new.page (drop c.page-len.result v.work.now) c.page-len.ensures
    (length-take-le v.geometry.page v.work.now (omega (arith, fits))) c.name_data.ensures.entry c.name_data.ensures.others c.name_data.ensures.bytes
