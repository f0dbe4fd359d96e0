use Rattle.std.proofs.Common.{◌≡◌}
use Rattle.call_script.specs.Lines.{NoCall, Bad, of_line}
use Rattle.flash_trace.proofs.Linewise.{skips_more}
use Rattle.flash_trace.proofs.Turning.{found_end, found_bad}
use Rattle.flash_trace.proofs.place.look_ahead.Goals as goal

pub loop-text-preserved : goal.loop-text-preserved
loop-text-preserved c =
    let blank : of_line c.in-Some.text.now ≡ NoCall = rw c.in-Blank.is at c.in_ok-kind_of.ensures in
    skips_more c.args.case.now.script.now c.args.at c.args.line c.loop-text.place c.loop-text.number c.in-Some.text.now c.in-Some.behind c.loop-text.invariant c.in-Some.ensures.some blank

pub returns-in-Bad : goal.returns-in-Bad
returns-in-Bad c =
    let outside : of_line c.in-Some.text.now ≡ Bad = rw c.in-Bad.is at c.in_ok-kind_of.ensures in
    found_bad _ _ c.args.case.now.script.now c.args.at c.args.line c.loop-text.place c.loop-text.number c.loop-text.invariant c.in-Some.text.now c.in-Some.behind c.in-Some.ensures.some outside

pub returns : goal.returns
returns c = found_end _ _ c.args.case.now.script.now c.args.at c.args.line c.loop-text.place c.loop-text.number c.loop-text.invariant c.in_default.ensures.none
