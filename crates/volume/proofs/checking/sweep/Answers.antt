use Rattle.std.proofs.Common.{refl, ◌∙◌, ap, inl, inr, Err}
use Rattle.nor_core.proofs.Cuts.{wider}
use Rattle.trim_laws.proofs.Wears.{cuts_whole}
use Rattle.block_gc.specs.declared.room.RoomErr.{RoomErr}
use Rattle.block_gc.specs.declared.room.RoomErr.TheVariants.{Step}
use Rattle.vol_check.specs.Checks.{as_check_err}
use Rattle.block_gc.proofs.Cleanings.{none_more, reserve_ready}
use Rattle.file_calls.proofs.GcCalls.{step_fault}
use Rattle.volume.proofs.Clearing.{stop_means, stop_fault, same_err}
use Rattle.volume.proofs.checking.sweep.Goals as goal

pub returns-in-Ok : goal.returns-in-Ok
returns-in-Ok g c =
    let made = c.in-Ok.ensures in
    record {
      framed = record { same = made.same; wrote = made.wrote; untouched = made.untouched };
      cause = λ is. absurd (cc);
      means = tt;
      cuts = wider made.changes (λ tells image cut tidy. (cut tidy).keeps);
      upkeep = made.upkeep;
      worn = λ tells tidy. cuts_whole _ _ _ (made.upkeep.now tells tidy).wears (made.done tells tidy).tidy.magic;
      stands = made.stands;
      ends = λ tells tidy. let now = made.done tells tidy in record { tidy = now.tidy; table = now.table; swept = now.swept; lower = now.lower; needed = none_more _ _ now.swept.through (reserve_ready _) now.needed; stopped = inl now.ready.reserve; mended = λ can. now.ready.reserve };
    }

pub returns-in-Err-Tight : goal.returns-in-Err-Tight
returns-in-Err-Tight g c =
    let short = c.in-Err-Tight.ensures in
    let is = c.in-Err-Tight.field-0-is in
    record {
      framed = record { same = short.same; wrote = short.wrote; untouched = short.untouched };
      cause = λ is. absurd (cc);
      means = tt;
      cuts = wider short.changes (λ tells image cut tidy. (cut tidy).keeps);
      upkeep = short.upkeep;
      worn = λ tells tidy. cuts_whole _ _ _ (short.upkeep.now tells tidy).wears (short.tight tells tidy (ap (λ (w : RoomErr). Err w) is)).tidy.magic;
      stands = λ tells tidy stood. rw is at (short.stands tells tidy stood);
      ends = λ tells tidy. let now = short.tight tells tidy (ap (λ (w : RoomErr). Err w) is) in record { tidy = now.tidy; table = now.table; swept = now.swept; lower = now.lower; needed = none_more _ _ now.swept.through (reserve_ready _) now.needed; stopped = inr now.none; mended = λ can. absurd (short.mended tells can refl refl is) };
    }

pub returns-in-Err-Step : goal.returns-in-Err-Step
returns-in-Err-Step g c =
    let failed = c.in-Err-Step.ensures in
    let why = c.in-Err-Step.why in
    let is = c.in-Err-Step.field-0-is in
    rw c.from.ensures (record {
      framed = record { same = failed.same; wrote = failed.wrote; untouched = failed.untouched };
      cause = λ fault. failed.cause (ap (λ (w : RoomErr). Err w) (is ∙ ap Step (stop_fault why (same_err (as_check_err why) _ fault))));
      means = stop_means why (rw is at failed.differs);
      cuts = wider failed.changes (λ tells image cut tidy. (cut tidy).keeps);
      upkeep = failed.upkeep;
      worn = λ tells tidy. tt;
      stands = λ tells tidy stood. tt;
      ends = λ tells tidy. ap as_check_err (step_fault why (rw is at (failed.undamaged tells tidy)));
    })
