use Rattle.flash_view.proofs.OneIndex.{header_only}
use Rattle.flash_view.proofs.Stepped.{view_image}
use Rattle.flash_view.proofs.view.View.hinted_header.Goals as goal

pub returns-clause-told : goal.returns-clause-told
returns-clause-told g c = λ tells tidy.
    let view = c.args.self.now in
    header_only view.geometry (g.N.NorState.bytes view.nor.now) (view_image view (g.met.N.Nor.sized _) tells) tidy c.args.id c.hint-hinted.result (c.in_ok-is_header_of.ensures.told tells c.if-not-branch.false)
