use Rattle.std.proofs.Common.{◌≤◌, length, arith}
use Rattle.volume_detect.specs.Places.{place_count}
use Rattle.detect_tool.proofs.Counting.{not_more}
use Rattle.detect_tool.proofs.finding.find_all.Goals as goal

pub returns-in-Err-clause-all : goal.returns-in-Err-clause-all
returns-in-Err-clause-all c =
    let room : place_count c.args.chip.now ≤ length c.collect.new.found = omega (arith, c.requires.room, c.collect.auto.found) in
    absurd (not_more c.args.chip.now c.collect.new.found c.in-Err.ensures.more room)
