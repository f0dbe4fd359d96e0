use Rattle.std.proofs.Common.{◌&&◌, ◌==◌}
use Rattle.block_gc.specs.declared.choice.Scored.{Scored}
use Rattle.block_gc.specs.Totals.{score_by}
use Rattle.block_gc.specs.Best.{candidate_by}
use Rattle.block_gc.proofs.Judged.{bests_are}
use Rattle.block_gc.proofs.Firsts.{below_more}
use Rattle.block_gc.proofs.choice.with_block.Goals as goal

pub returns-clause-told : goal.returns-clause-told
returns-clause-told g c = λ tells tidy totals next.
    let geometry = c.args.v.now.geometry in
    let image = g.N.NorState.bytes c.args.v.now.nor.now in
    rw c.rated.ensures (bests_are geometry image c.args.block c.in_ok-c.c c.args.all.now tidy c.requires.block (c.in_ok-c.ensures.looks.told tells) totals c.args.next c.args.bests.now next)

pub returns-clause-below : goal.returns-clause-below
returns-clause-below g c =
    let geometry = c.args.v.now.geometry in
    let fits = candidate_by geometry c.in_ok-c.c c.args.all.now in
    let scored : Scored = record { block = c.args.block; score = score_by c.in_ok-c.c c.args.next } in
    rw c.rated.ensures (record {
      any = below_more geometry.blocks fits c.args.bests.now.any scored c.requires.block c.requires.below.any;
      plain = below_more geometry.blocks (fits && (c.in_ok-c.c.data_live == 0)) c.args.bests.now.plain scored c.requires.block c.requires.below.plain;
    })
