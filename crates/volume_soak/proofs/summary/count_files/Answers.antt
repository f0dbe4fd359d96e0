use Rattle.std.proofs.Common.{◌≡◌, ◌<◌, ◌^◌, Option, Some, subst, arith, rules}
use Rattle.std.specs.Option.{IfSome}
use Rattle.table_model.specs.declared.reply.Stat.{Stat}
use Rattle.volume_run.proofs.Moving.{moved_then}
use Rattle.volume_run.proofs.Stopping.{stops_passed}
use Rattle.volume_soak.proofs.Walking.{counting_none, counting_more, counted_all, never_many, stops_counting}
use Rattle.volume_soak.proofs.summary.count_files.Goals as goal

-- the bounds of a record that is there
bounds_of : (found : Option Stat) (stat : Stat) → found ≡ Some stat → IfSome found (λ s. (s.id < 2 ^ 16) × (s.size < 2 ^ 32)) → (stat.id < 2 ^ 16) × (stat.size < 2 ^ 32)
bounds_of found stat is bounds = subst (λ (o : Option Stat). IfSome o (λ s. (s.id < 2 ^ 16) × (s.size < 2 ^ 32))) is bounds

pub loop-files-init : goal.loop-files-init
loop-files-init g c = record {
  few = omega arith;
  small = omega arith;
  bounds = c.in_ok-found.ensures.bounds;
  moved = c.in_ok-found.ensures.moved;
  counting = counting_none c.in_ok-found.found c.in_ok-found.ensures.found;
}

pub overflow_add-bytes : goal.overflow_add-bytes
overflow_add-bytes g c =
    let bounds = bounds_of c.loop-files.found c.in-Some.stat c.in-Some.is c.loop-files.invariant.bounds in
    omega (arith, c.loop-files.invariant.small, c.loop-files-test.true, c.from-bytes.ensures, bounds.1)

pub returns-in_err-found-2-clause-moved : goal.returns-in_err-found-2-clause-moved
returns-in_err-found-2-clause-moved g c = moved_then c.loop-files.invariant.moved c.in_err-found-2.ensures.moved

pub returns-in_err-found-2-clause-stops : goal.returns-in_err-found-2-clause-stops
returns-in_err-found-2-clause-stops g c =
    stops_passed c.from_residual-in_err-found-2.result _ c.from_residual-in_err-found-2.ensures.1 (stops_counting c.loop-files.found c.loop-files.files c.loop-files.bytes _ c.loop-files.invariant.counting c.in_err-found-2.ensures.stops)

pub loop-files-preserved : goal.loop-files-preserved
loop-files-preserved g c =
    let was = c.loop-files.invariant in
    let stat = c.in-Some.stat in
    let bounds = bounds_of c.loop-files.found stat c.in-Some.is was.bounds in
    record {
      few = omega (arith, c.loop-files-test.true);
      small = omega (arith, was.small, c.from-bytes.ensures, bounds.1);
      bounds = c.in_ok-found-2.ensures.bounds;
      moved = moved_then was.moved c.in_ok-found-2.ensures.moved;
      counting = rw c.from-bytes.ensures
          (counting_more stat c.loop-files.found c.in_ok-found-2.found c.loop-files.files c.loop-files.bytes (omega (arith, bounds.0)) c.in-Some.is was.counting c.in_ok-found-2.ensures.found);
    }

pub returns-after-loop-files-clause-counted : goal.returns-after-loop-files-clause-counted
returns-after-loop-files-clause-counted g c = never_many c.loop-files.found c.loop-files.files c.loop-files.bytes (omega (arith, c.loop-files-test.false)) c.loop-files.invariant.counting

pub returns-in_default-clause-counted : goal.returns-in_default-clause-counted
returns-in_default-clause-counted g c = counted_all c.loop-files.found c.loop-files.files c.loop-files.bytes (search rules) c.loop-files.invariant.counting
