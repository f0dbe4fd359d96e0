use Rattle.tool_parts.specs.Lent.{lengths_of}
use Rattle.script_run.proofs.RunDoes.{run_does}
use Rattle.tool_parts.proofs.Among.{ends_among}
use Rattle.script_run.specs.Among.{MayEndRun}
use Rattle.script_run.proofs.run.run_on.Goals as goal

pub returns-clause-does : goal.returns-clause-does
returns-clause-does g c =
    let ran = c.run-ending.ensures in
    run_does (lengths_of c.args.bufs.now) c.run-ending.result c.conclude.result ran.ends ran.refused ran.begins ran.behind ran.board_faults ran.board_cause ran.few c.conclude.ensures

pub returns-clause-ends : goal.returns-clause-ends
returns-clause-ends g c =
    let ran = c.run-ending.ensures in
    ends_among MayEndRun c.run-ending.result c.conclude.result ran.among ran.behind.cuts c.conclude.ensures
