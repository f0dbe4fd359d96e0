use Rattle.std.proofs.Common.{◌≡◌, ◌∙◌}
use Rattle.tool_core.specs.Checking.{report_text}
use Rattle.tool_core.proofs.CheckEnds.{check_stopped, check_reported, check_broken}
use Rattle.tool_core.proofs.Among.{check_in_report, said_in_report}
use Rattle.tool_core.proofs.checking.check_volume.Goals as goal

pub returns-in-Err-clause-checks : goal.returns-in-Err-clause-checks
returns-in-Err-clause-checks g c = check_stopped c.in-Err.ending c.mount_and_check.ensures.changes c.mount_and_check.ensures.idle c.in-Err.ensures.stops

pub returns-in-Ok-say-clause-checks : goal.returns-in-Ok-say-clause-checks
returns-in-Ok-say-clause-checks g c =
    let r = c.in-Ok.report in
    let line : c.as_slice.result.now ≡ report_text r.erased r.killed r.damaged r.free_blocks = c.as_slice.ensures.value ∙ c.report_line.ensures in
    check_reported c.end_of_check.result r line c.end_of_check.ensures.ending c.mount_and_check.ensures.changes c.mount_and_check.ensures.idle c.in-Ok.ensures.reported c.say.ensures.says c.say.ensures.cuts c.in-Ok-say.ensures.done

pub returns-in-Err-say-clause-checks : goal.returns-in-Err-say-clause-checks
returns-in-Err-say-clause-checks g c =
    let r = c.in-Ok.report in
    let line : c.as_slice.result.now ≡ report_text r.erased r.killed r.damaged r.free_blocks = c.as_slice.ensures.value ∙ c.report_line.ensures in
    check_broken r line c.mount_and_check.ensures.changes c.mount_and_check.ensures.idle c.in-Ok.ensures.reported c.say.ensures.says c.say.ensures.cuts

pub returns-in-Err-clause-among : goal.returns-in-Err-clause-among
returns-in-Err-clause-among g c = check_in_report c.in-Err.ending c.in-Err.ensures.among

pub returns-in-Ok-say-clause-among : goal.returns-in-Ok-say-clause-among
returns-in-Ok-say-clause-among g c = rw c.end_of_check.ensures.ending (said_in_report c.in-Ok.report.damaged c.in-Ok.report.free_blocks)
