use Rattle.std.proofs.Common.{◌*◌, ◌≤◌, arith, rules}
use Rattle.vol_mount.proofs.Blanks.{formatted}
use Rattle.vol_mount.proofs.formatting.format.Goals as goal

pub returns-clause-done : goal.returns-clause-done
returns-clause-done g c = λ tells.
    let fits : c.args.g.now.blocks * c.args.g.now.block ≤ g.N.NorState.size c.args.nor.now = search rules in
    formatted c.args.g.now (g.N.NorState.bytes c.args.nor.now) (g.N.NorState.bytes c.format_blocks.new.nor) (omega (arith, fits, g.met.N.Nor.sized c.args.nor.now tells)) (c.in_ok-format_blocks.ensures.done tells)
