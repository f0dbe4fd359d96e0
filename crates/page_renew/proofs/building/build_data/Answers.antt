use Rattle.std.proofs.Common.{◌∙◌, ap, take}
use Rattle.geometry.specs.declared.geometry.Geometry.{Geometry}
use Rattle.page_renew.proofs.DataBuilding.{loaded_by}
use Rattle.page_renew.proofs.building.build_data.Goals as goal

pub returns-clause-told : goal.returns-clause-told
returns-clause-told g c = λ tells.
    loaded_by c.args.v.now.geometry (g.N.NorState.bytes c.args.v.now.nor.now) c.args.page c.load.new.self.work.now c.built.result.now (c.in_ok-load.ensures.told tells)
    (c.built.ensures.bytes ∙ ap (λ (x : Geometry). take x.page c.load.new.self.work.now) c.in_ok-load.ensures.looks.same.geometry) c.see_bytes.ensures
