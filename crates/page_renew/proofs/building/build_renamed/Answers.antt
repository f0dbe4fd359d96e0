use Rattle.std.proofs.Common.{drop}
use Rattle.page_renew.proofs.DataBuilding.{renamed_by}
use Rattle.page_renew.proofs.building.build_renamed.Goals as goal

pub returns-clause-told : goal.returns-clause-told
returns-clause-told g c = λ tells index.
    let same = c.in_ok-build_copy.ensures.looks.same.geometry in
    let whole = g.met.N.Nor.sized c.args.v.now.nor.now tells in
    renamed_by c.args.v.now.geometry (g.N.NorState.bytes c.args.v.now.nor.now) c.args.index c.args.span c.args.to c.in_ok-build_copy.field-0 c.page-len.result c.build_copy.new.v.work.now c.name_data.new.page
    (drop c.page-len.result c.build_copy.new.v.work.now) (record { len = rw whole c.args.v.now.volume }) (c.in_ok-build_copy.ensures.told tells index)
    (rw same at c.page-len.ensures) (rw same at c.name_data.ensures.entry) (rw same at c.name_data.ensures.others) c.name_data.ensures.bytes
