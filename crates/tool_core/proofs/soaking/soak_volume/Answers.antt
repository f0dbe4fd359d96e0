use Rattle.std.proofs.Common.{◌≡◌, ◌∙◌, refl, subst, ℕ, List}
use Rattle.std.specs.Prelude.{min}
use Rattle.volume_soak.specs.Turns.{empty}
use Rattle.tool_parts.proofs.Begun.{memory_begun}
use Rattle.tool_core.proofs.Formatting.{tidy_stops, empty_ready}
use Rattle.tool_core.proofs.FillEnds.{speaks_none, speaks_after}
use Rattle.tool_core.proofs.SoakEnds.{speaks_soaked}
use Rattle.tool_parts.proofs.Among.{check_in_work}
use Rattle.tool_core.proofs.soaking.soak_volume.Goals as goal

pub returns-in-Err-clause-soaks : goal.returns-in-Err-clause-soaks
returns-in-Err-clause-soaks g c = λ slots closed tells files. speaks_none c.in-Err.ending c.mount_and_check.ensures.changes.said (tidy_stops c.in-Err.ending files.tidy (c.in-Err.ensures.stops tells))

pub returns-in-Ok-clause-soaks : goal.returns-in-Ok-clause-soaks
returns-in-Ok-clause-soaks g c = λ slots closed tells files.
    let h = c.args.volume.now.geometry in
    let checked = c.mount_and_check.ensures in
    let memory = memory_begun c.args.volume.now c.mount_and_check.new.volume (min 65535 slots) c.in_default.ensures.closed closed in
    let ready = empty_ready c.args.volume.now c.mount_and_check.new.volume h slots c.in_default.field-0 checked.same.geometry c.in_default.ensures.taken c.requires.writable memory files checked.changes tells (c.in_default.ensures.reported tells) in
    let told = c.in-Ok.ensures.soaked h (empty slots) ready in
    let line = c.as_slice.ensures.value ∙ c.summary_line.ensures in
    let spoken = rw line at c.finish.ensures.speaks h _ told.ready in
    speaks_after (c.soak.ensures.moved.goes.said ∙ checked.changes.said) (speaks_soaked slots c.args.seed c.args.turns c.in-Ok.summary told spoken)

pub returns-in-Err-Fault-clause-soaks : goal.returns-in-Err-Fault-clause-soaks
returns-in-Err-Fault-clause-soaks g c = λ slots closed tells files. speaks_none _ (c.soak.ensures.moved.goes.said ∙ c.mount_and_check.ensures.changes.said) refl

pub returns-in-Err-Differ-clause-soaks : goal.returns-in-Err-Differ-clause-soaks
returns-in-Err-Differ-clause-soaks g c = λ slots closed tells files.
    let h = c.args.volume.now.geometry in
    let checked = c.mount_and_check.ensures in
    let memory = memory_begun c.args.volume.now c.mount_and_check.new.volume (min 65535 slots) c.in_default.ensures.closed closed in
    let ready = empty_ready c.args.volume.now c.mount_and_check.new.volume h slots c.in_default.field-0 checked.same.geometry c.in_default.ensures.taken c.requires.writable memory files checked.changes tells (c.in_default.ensures.reported tells) in
    let stops = c.in-Err-Differ.ensures.stops h (empty slots) ready in
    let bad = rw c.in-Err-Differ.field-0-is at stops in
    absurd (cc)

pub returns-in-Err-clause-among : goal.returns-in-Err-clause-among
returns-in-Err-clause-among g c = check_in_work c.in-Err.ending c.in-Err.ensures.among

pub returns-in-Err-Differ-clause-among : goal.returns-in-Err-Differ-clause-among
returns-in-Err-Differ-clause-among g c = let apart = rw c.in-Err-Differ.field-0-is at c.in-Err-Differ.ensures.apart in apart
