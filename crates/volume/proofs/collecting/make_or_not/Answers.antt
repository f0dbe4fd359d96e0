use Rattle.std.proofs.Common.{◌∙◌, ap, Err}
use Rattle.trim_laws.proofs.Wears.{cuts_whole}
use Rattle.block_gc.specs.declared.room.RoomErr.{RoomErr}
use Rattle.block_gc.specs.declared.room.RoomErr.TheVariants.{Step}
use Rattle.file_calls.proofs.GcCalls.{room_cuts, step_fault, step_same}
use Rattle.volume.proofs.collecting.make_or_not.Goals as goal

pub returns-in-Ok : goal.returns-in-Ok
returns-in-Ok g c =
    let made = c.in-Ok.ensures in
    record {
      framed = record { same = made.same; wrote = made.wrote; untouched = made.untouched };
      cause = λ is. absurd (cc);
      means = tt;
      cuts = room_cuts c.args.v.now (g.met.N.Nor.sized _) made.changes;
      upkeep = made.upkeep;
      worn = λ tells tidy. cuts_whole _ _ _ (made.upkeep.now tells tidy).wears (made.done tells tidy).tidy.magic;
      stands = made.stands;
      ends = λ tells tidy.
          let room = made.done tells tidy in
          record { leads = (room, made.swept tells tidy); tidy = room.tidy; reserve = λ reserve. room.ready.reserve };
    }

pub returns-in-Err-Tight : goal.returns-in-Err-Tight
returns-in-Err-Tight g c =
    let short = c.in-Err-Tight.ensures in
    let is = c.in-Err-Tight.field-0-is in
    record {
      framed = record { same = short.same; wrote = short.wrote; untouched = short.untouched };
      cause = λ fault. absurd (cc);
      means = tt;
      cuts = room_cuts c.args.v.now (g.met.N.Nor.sized _) short.changes;
      upkeep = short.upkeep;
      worn = λ tells tidy. cuts_whole _ _ _ (short.upkeep.now tells tidy).wears (short.tight tells tidy (ap (λ (w : RoomErr). Err w) is)).tidy.magic;
      stands = λ tells tidy stood. rw is at (short.stands tells tidy stood);
      ends = λ tells tidy.
          let tight = short.tight tells tidy (ap (λ (w : RoomErr). Err w) is) in
          record { leads = (tight, rw is at (short.swept tells tidy), λ can room. short.never_tight tells can room is); tidy = tight.tidy; reserve = tight.reserve };
    }

pub returns-in-Err-Step : goal.returns-in-Err-Step
returns-in-Err-Step g c =
    let failed = c.in-Err-Step.ensures in
    let is = c.in-Err-Step.field-0-is in
    record {
      framed = record { same = failed.same; wrote = failed.wrote; untouched = failed.untouched };
      cause = λ fault. failed.cause (ap (λ (w : RoomErr). Err w) (is ∙ ap Step (step_same c.in-Err-Step.why _ fault)));
      means = rw is at failed.differs;
      cuts = room_cuts c.args.v.now (g.met.N.Nor.sized _) failed.changes;
      upkeep = failed.upkeep;
      worn = λ tells tidy. tt;
      stands = λ tells tidy stood. tt;
      ends = λ tells tidy. step_fault c.in-Err-Step.why (rw is at (failed.undamaged tells tidy));
    }
