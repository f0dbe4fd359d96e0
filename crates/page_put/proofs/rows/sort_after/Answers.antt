use Rattle.std.proofs.Common.{◌∙◌, arith}
use Rattle.flash_view.proofs.Sorts.{used_sort}
use Rattle.page_put.proofs.rows.sort_after.Goals as goal

pub returns-clause-told : goal.returns-clause-told
returns-clause-told g c = λ tells.
    let e = c.in_ok-entry.ensures in
    let view = c.args.v.now in
    let image = g.N.NorState.bytes view.nor.now in
    let told = rw (e.looks.same.geometry, e.looks.reads.bytes) at (c.in_ok-sort.ensures.told (e.looks.reads.told tells)) in
    record {
      word = omega (arith, e.told tells);
      used = λ ones. c.if-entry.false (e.told tells ∙ ones);
      sort_is = used_sort view.geometry image c.args.page c.in_ok-entry.entry c.in_ok-sort.sort c.if-entry.false (e.told tells) (told (e.told tells));
    }
