use Rattle.flash_view.proofs.Looking.{looks_then}
use Rattle.block_gc.proofs.BatchCalls.{ok_then}
use Rattle.block_gc.proofs.batch.build_named.Goals as goal

pub returns-clause-told : goal.returns-clause-told
returns-clause-told g c = λ tells index was most cs has.
    let built = c.in_ok-build_copy in
    let looks = built.ensures.looks in
    let named = rw (looks.same.geometry, looks.reads.bytes) at (c.name_all.ensures.told (looks.reads.told tells)) in
    ok_then c.name_all.result _ _ (λ named. record { tag = built.field-0; plain = c.build_copy.new.v.work.now; built = built.ensures.told tells index; named = named }) (named was most cs has)
