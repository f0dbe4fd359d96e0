use Rattle.std.proofs.Common.{◌≡◌, ◌∙◌, true, refl, arith}
use Rattle.page_put.proofs.Recounted.{table_freshens}
use Rattle.page_put.proofs.rows.count_fresh.Goals as goal

pub invariant_of-v-2-clause-table : goal.invariant_of-v-2-clause-table
invariant_of-v-2-clause-table g c = λ on.
    let p = c.put_row.ensures in
    let stood : c.args.stood ≡ true = cc (c.if-not-stood.false) in
    record {
      room = rw p.counts.same.geometry (omega (arith, c.requires.room stood, p.size));
      told = λ tells.
          rw (p.counts.same.geometry, p.device) (table_freshens c.args.v.now.geometry c.args.block c.args.erases c.args.v.now.rows.now c.put_row.new.self.rows.now _ c.requires.block (c.requires.was stood (rw p.device at tells))
          (p.row ∙ rw c.entries.ensures.count refl) p.others p.summed);
    }
