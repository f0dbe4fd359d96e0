use Rattle.std.proofs.Common.{rules, ◌+◌, ◌*◌, ◌≤◌, arith}
use Rattle.flash_view.specs.Same.{StaysBehind}
use Rattle.flash_view.proofs.Behind.{behind_erase}
use Rattle.flash_view.proofs.view.View.erase.Goals as goal

pub returns-clause-same : goal.returns-clause-same
returns-clause-same g c =
    let view = c.args.self.now in
    let step = c.erase_through.ensures in
    let inside : (c.args.unit_ix + 1) * g.N.NorState.unit view.nor.now ≤ view.geometry.blocks * view.geometry.block = rw view.unit c.requires.inside in
    let behind : StaysBehind g.N.NorState view.geometry view.nor.now c.erase_through.new.nor =
    behind_erase view.geometry c.args.unit_ix c.args.mark c.erase_through.result inside (λ tells. omega (arith, g.met.N.Nor.sized view.nor.now tells, view.volume)) step.done step.half step.changes in
    search rules
