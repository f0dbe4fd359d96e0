use Rattle.std.proofs.Common.{◌∙◌, ap, Err}
use Rattle.trim_laws.proofs.Wears.{cuts_whole}
use Rattle.block_gc.specs.declared.room.RoomErr.{RoomErr}
use Rattle.block_gc.specs.declared.room.RoomErr.TheVariants.{Step}
use Rattle.file_calls.proofs.GcCalls.{view_can, room_cuts, step_fault, step_same}
use Rattle.file_calls.proofs.collecting.pack.Goals as goal

pub returns-in-Ok : goal.returns-in-Ok
returns-in-Ok g c =
    let packed = c.in-Ok.ensures in
    record {
      framed = record { same = packed.same; wrote = packed.wrote; untouched = packed.untouched };
      cause = λ is. absurd (cc);
      means = tt;
      cuts = room_cuts c.args.v.now (g.met.N.Nor.sized _) packed.changes;
      upkeep = packed.upkeep;
      worn = λ tells tidy. cuts_whole _ _ _ (packed.upkeep.now tells tidy).wears (packed.done tells tidy).tidy.magic;
      stands = packed.stands;
      ends = λ tells tidy. (packed.done tells tidy, packed.swept tells tidy);
    }

pub returns-in-Err-Tight : goal.returns-in-Err-Tight
returns-in-Err-Tight g c =
    let short = c.in-Err-Tight.ensures in
    record {
      framed = record { same = short.same; wrote = short.wrote; untouched = short.untouched };
      cause = λ is. absurd (cc);
      means = tt;
      cuts = room_cuts c.args.v.now (g.met.N.Nor.sized _) short.changes;
      upkeep = short.upkeep;
      worn = λ tells tidy. cuts_whole _ _ _ (short.upkeep.now tells tidy).wears (short.tight tells tidy (ap (λ (w : RoomErr). Err w) c.in-Err-Tight.field-0-is)).tidy.magic;
      stands = λ tells tidy stood. rw c.in-Err-Tight.field-0-is at (short.stands tells tidy stood);
      ends = λ tells tidy. (record { stuck = short.tight tells tidy (ap (λ (w : RoomErr). Err w) c.in-Err-Tight.field-0-is); short = λ reserve. short.never_tight tells (view_can c.args.v.now (g.met.N.Nor.sized _) tells tidy reserve) c.in-Err-Tight.field-0-is }, rw c.in-Err-Tight.field-0-is at (short.swept tells tidy));
    }

pub returns-in-Err-Step : goal.returns-in-Err-Step
returns-in-Err-Step g c =
    let failed = c.in-Err-Step.ensures in
    let is = c.in-Err-Step.field-0-is in
    record {
      framed = record { same = failed.same; wrote = failed.wrote; untouched = failed.untouched };
      cause = λ fault. failed.cause (ap (λ (w : RoomErr). Err w) (is ∙ ap Step (step_same c.in-Err-Step.why _ fault)));
      means = rw is at failed.differs;
      cuts = room_cuts c.args.v.now (g.met.N.Nor.sized _) failed.changes;
      upkeep = failed.upkeep;
      worn = λ tells tidy. tt;
      stands = λ tells tidy stood. tt;
      ends = λ tells tidy. step_fault c.in-Err-Step.why (rw is at (failed.undamaged tells tidy));
    }
