use Rattle.std.proofs.Common.{arith}
use Rattle.flash_view.proofs.Stepped.{fails, stepped_then, view_image}
use Rattle.file_drop.specs.Removals.{HeaderDropped}
use Rattle.file_drop.proofs.Marking.{one_page}
use Rattle.file_drop.proofs.Passing.{header_first, pages_then}
use Rattle.file_drop.proofs.remove.drop_by.Goals as goal

pub returns-in_err-drop_header-clause-step : goal.returns-in_err-drop_header-clause-step
returns-in_err-drop_header-clause-step g c = fails c.in_err-drop_header.ensures.step c.from_residual.ensures.0 (λ tells can. header_first _ _ _ _ can)

pub returns-clause-step : goal.returns-clause-step
returns-clause-step g c = stepped_then c.in_ok-drop_header.ensures.step c.drop_pages.ensures.step (λ tells can. header_first _ _ _ _ can) (λ tells can s. pages_then _ _ _ _ _ s)

pub returns-in_err-drop_header-clause-few : goal.returns-in_err-drop_header-clause-few
returns-in_err-drop_header-clause-few g c = λ tells can. omega (arith, c.in_err-drop_header.ensures.few, one_page _ _ _ c.args.header (view_image c.args.v.now (g.met.N.Nor.sized _) tells) can)

pub returns-in_err-drop_header-clause-most : goal.returns-in_err-drop_header-clause-most
returns-in_err-drop_header-clause-most g c = omega (arith, c.in_err-drop_header.ensures.few)

pub returns-clause-few : goal.returns-clause-few
returns-clause-few g c = λ tells can.
    let first = c.in_ok-drop_header.ensures.step in
    let gone : HeaderDropped c.args.v.now.geometry (g.N.NorState.bytes c.args.v.now.nor.now) c.args.id (g.N.NorState.bytes c.drop_header.new.v.nor.now) = first.ends tells can in
    let rest = rw first.framed.same.geometry at (c.drop_pages.ensures.few (first.cuts.cuts.told tells)) in
    let kills = rest gone.left in
    omega (arith, kills, gone.fewer, c.in_ok-drop_header.ensures.few)

pub returns-clause-most : goal.returns-clause-most
returns-clause-most g c =
    let rest = rw c.in_ok-drop_header.ensures.step.framed.same.geometry at c.drop_pages.ensures.most in
    omega (arith, rest, c.in_ok-drop_header.ensures.few)
