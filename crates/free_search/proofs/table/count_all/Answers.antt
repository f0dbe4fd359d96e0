use Rattle.flash_view.specs.Counts.{AreCounts}
use Rattle.flash_view.proofs.Looking.{looks_counts, counts_then}
use Rattle.free_search.proofs.Rowed.{rows_on}
use Rattle.free_search.proofs.table.count_all.Goals as goal

pub loop-block-preserved : goal.loop-block-preserved
loop-block-preserved g c =
    let was = c.loop-block.invariant in
    let found = c.in_ok-counts.ensures in
    let put = c.put_row.ensures in
    let geometry = c.args.v.now.geometry in
    let image = g.N.NorState.bytes c.args.v.now.nor.now in
    record {
      counts = counts_then was.counts (counts_then (looks_counts found.looks.only) put.counts);
      end = was.end;
      down = put.down;
      room = rw (put.size, found.looks.only.rows) was.room;
      summed = (rw (found.looks.only.same.geometry, was.counts.same.geometry, found.looks.only.rows) at put.summed) was.summed;
      told = λ tells.
          let here : AreCounts geometry image c.loop-block.block c.in_ok-counts.counts = rw (was.counts.same.geometry, was.counts.reads.bytes) at (found.looks.told (was.counts.reads.told tells)) in
          rows_on geometry image c.loop-block.v.rows.now _ c.loop-block.block c.in_ok-counts.counts here put.row (λ k other. rw found.looks.only.rows at (put.others k other)) (was.told tells);
    }
