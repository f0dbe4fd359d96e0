use Rattle.std.proofs.Common.{refl, ◌∙◌, ap, Err}
use Rattle.nor_core.proofs.Cuts.{wider}
use Rattle.trim_laws.proofs.Wears.{cuts_whole}
use Rattle.block_gc.specs.declared.room.RoomErr.{RoomErr}
use Rattle.block_gc.specs.declared.room.RoomErr.TheVariants.{Step}
use Rattle.flash_view.specs.Steps.{as_fs_err}
use Rattle.file_calls.proofs.Going.{err_same, step_stops, fault_is}
use Rattle.file_calls.proofs.GcCalls.{view_can, room_cuts, room_cleans, step_fault}
use Rattle.file_calls.proofs.collecting.take_pages.Goals as goal

pub returns-in-Ok : goal.returns-in-Ok
returns-in-Ok g c =
    let made = c.in-Ok.ensures in
    let cuts = room_cuts c.args.v.now (g.met.N.Nor.sized _) made.changes in
    record {
      steps = record {
        framed = record { same = made.same; wrote = made.wrote; untouched = made.untouched };
        cause = λ is. absurd (cc);
        means = tt;
        cuts = wider cuts (λ tells image cut need. cut need.tidy);
        upkeep = wider made.upkeep (λ tells image kept need. kept need.tidy);
        worn = λ tells need. cuts_whole _ _ _ (made.upkeep.now tells need.tidy).wears (made.done tells need.tidy).tidy.magic;
        stands = λ tells need stood. made.stands tells need.tidy stood;
        ends = λ tells need. made.done tells need.tidy;
      };
      cleans = λ tells need. room_cleans c.args.v.now cuts need.tidy need.reserve (made.idle tells need.tidy) (λ whole. made.swept tells need.tidy);
    }

pub returns-in-Err-Tight : goal.returns-in-Err-Tight
returns-in-Err-Tight g c =
    let short = c.in-Err-Tight.ensures in
    let cuts = room_cuts c.args.v.now (g.met.N.Nor.sized _) short.changes in
    record {
      steps = record {
        framed = record { same = short.same; wrote = short.wrote; untouched = short.untouched };
        cause = λ is. absurd (cc);
        means = tt;
        cuts = wider cuts (λ tells image cut need. cut need.tidy);
        upkeep = wider short.upkeep (λ tells image kept need. kept need.tidy);
        worn = λ tells need. tt;
        stands = λ tells need stood. tt;
        ends = λ tells need. absurd (short.never_tight tells (view_can c.args.v.now (g.met.N.Nor.sized _) tells need.tidy need.reserve) need.room c.in-Err-Tight.field-0-is);
      };
      cleans = λ tells need. room_cleans c.args.v.now cuts need.tidy need.reserve (short.idle tells need.tidy) (λ whole. absurd (whole refl));
    }

pub returns-in-Err-Step : goal.returns-in-Err-Step
returns-in-Err-Step g c =
    let failed = c.in-Err-Step.ensures in
    let why = c.in-Err-Step.why in
    let is = c.in-Err-Step.field-0-is in
    let cuts = room_cuts c.args.v.now (g.met.N.Nor.sized _) failed.changes in
    rw c.from.ensures (record {
      steps = record {
        framed = record { same = failed.same; wrote = failed.wrote; untouched = failed.untouched };
        cause = λ fault. failed.cause (ap (λ (w : RoomErr). Err w) (is ∙ ap Step (fault_is why (err_same (as_fs_err why) _ fault))));
        means = step_stops why (rw is at failed.differs);
        cuts = wider cuts (λ tells image cut need. cut need.tidy);
        upkeep = wider failed.upkeep (λ tells image kept need. kept need.tidy);
        worn = λ tells need. tt;
        stands = λ tells need stood. tt;
        ends = λ tells need. ap as_fs_err (step_fault why (rw is at (failed.undamaged tells need.tidy)));
      };
      cleans = λ tells need. room_cleans c.args.v.now cuts need.tidy need.reserve (failed.idle tells need.tidy) (λ whole. absurd (whole refl));
    })
