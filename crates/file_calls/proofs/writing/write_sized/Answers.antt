use Rattle.std.proofs.Common.{◌≡◌, length, refl, rules, Err, arith}
use Rattle.std.proofs.lemmas.Bool.{ltb-true}
use Rattle.geometry.specs.Numbers.{body}
use Rattle.file_write.specs.Appends.{append_room}
use Rattle.flash_view.proofs.Looking.{looks_none}
use Rattle.flash_view.proofs.Stepped.{looked, ends_as}
use Rattle.file_calls.proofs.TurnsBy.{turned_none, turned_as, turned_passes}
use Rattle.file_calls.proofs.WriteLoop.{is_part, write_stays, write_starts, write_ends, write_few, few_part, write_turn}
use Rattle.file_calls.proofs.writing.write_sized.Goals as goal

pub returns-in_default : goal.returns-in_default
returns-in_default g c = λ f sized.
    turned_none (looks_none c.args.v.now) (looked (looks_none c.args.v.now) (λ e. absurd (cc)) c.no_header.ensures.apart (λ tells can. (write_stays _ _ _ _ _ _ can, absurd (c.in_default.ensures.all (write_few _ _ _ _ _ _ can) refl))))

pub loop-from-init : goal.loop-from-init
loop-from-init g c =
    let end = c.in-Some.ensures.some in
    record {
      low = omega arith;
      high = omega (arith, end);
      end = end;
      step = λ f sized. turned_none (looks_none c.args.v.now) (looked (looks_none c.args.v.now) (λ e. absurd (cc)) tt (λ tells can. (write_stays _ _ _ _ _ _ can, write_starts _ _ _ _ _ _ can)));
    }

pub returns-in_err-write_part : goal.returns-in_err-write_part
returns-in_err-write_part g c = λ f sized.
    let so_far = c.loop-from.invariant in
    let end = c.part_end-to.ensures in
    let is : c.from_residual.result ≡ Err c.in_err-write_part.field-0.0 = search rules in
    let part = is_part (body c.loop-from.v.geometry) (append_room c.loop-from.v.geometry c.loop-from.from) c.args.size c.args.at (length c.args.bytes.now) c.loop-from.from c.part_end-to.result c.in-Some.end so_far.low so_far.end end.behind end.within end.page end.room end.old end.is in
    turned_passes (write_turn c.args.id c.args.at c.loop-from.from c.part_end-to.result c.args.size c.max.result _ c.args.bytes.now f part (let most = c.max.ensures in omega (arith, most)) sized (λ is. ltb-true c.args.size c.loop-from.from is) (so_far.step f sized) c.in_err-write_part.ensures) is
    (λ tells can. record { needs = can; cut = λ d cut. cut })
    (λ tells can n few. few_part _ _ c.args.id (body c.args.v.now.geometry) (length f.bytes) c.args.at (length c.args.bytes.now) c.part_end-to.result n part.within few)

pub loop-from-preserved : goal.loop-from-preserved
loop-from-preserved g c =
    let so_far = c.loop-from.invariant in
    let end = c.part_end-to.ensures in
    let part = is_part (body c.loop-from.v.geometry) (append_room c.loop-from.v.geometry c.loop-from.from) c.args.size c.args.at (length c.args.bytes.now) c.loop-from.from c.part_end-to.result c.in-Some.end so_far.low so_far.end end.behind end.within end.page end.room end.old end.is in
    record {
      low = let low = so_far.low in let some = end.behind in omega (arith, low, some);
      high = end.within;
      end = so_far.end;
      step = λ f sized. write_turn c.args.id c.args.at c.loop-from.from c.part_end-to.result c.args.size c.max.result _ c.args.bytes.now f part (let most = c.max.ensures in omega (arith, most)) sized (λ is. ltb-true c.args.size c.loop-from.from is) (so_far.step f sized) c.in_ok-write_part.ensures;
    }

pub returns : goal.returns
returns g c = λ f sized.
    let so_far = c.loop-from.invariant in
    let high = so_far.high in
    let end = so_far.end in
    let done = so_far.step f sized in
    turned_as done (ends_as done.steps (λ tells can. record { needs = can; cut = λ d cut. cut })
    (λ tells can written. write_ends _ _ _ _ _ _ can c.loop-from.from (let low = c.loop-from-test.false in omega (arith, high, low, end)) _ written))
    (λ tells can. can) (λ tells can n few. few_part _ _ c.args.id (body c.args.v.now.geometry) (length f.bytes) c.args.at (length c.args.bytes.now) c.loop-from.from n (omega (arith, high, end)) few) (λ e. e)
