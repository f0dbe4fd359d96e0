use Rattle.std.proofs.Common.{rules}
use Rattle.nor_core.proofs.Cuts.{reads_then}
use Rattle.vol_copy.proofs.Readers.{reader_then}
use Rattle.copy_tool.proofs.Surveys.{mount_survey, count_survey}
use Rattle.copy_tool.proofs.Begins.{source_among}
use Rattle.copy_tool.proofs.surveying.survey.Goals as goal

pub returns-in-Err-clause-stops : goal.returns-in-Err-clause-stops
returns-in-Err-clause-stops g c = λ tells. rw c.source_ending.ensures.ends (mount_survey c.args.from.now.geometry _ c.in-Err.why (c.in-Err.ensures.spoiled tells))

pub returns-in-Ok-clause-told : goal.returns-in-Ok-clause-told
returns-in-Ok-clause-told g c = λ tells. count_survey c.mount.new.self.geometry c.in-Ok.damaged c.mount.ensures.same.geometry c.mount.ensures.looks (search rules) (c.in-Ok.ensures.told (c.mount.ensures.looks.told tells))

pub returns-in-Ok-clause-reads : goal.returns-in-Ok-clause-reads
returns-in-Ok-clause-reads g c = reads_then c.mount.ensures.looks c.count_damaged.ensures.reads

pub returns-in-Ok-clause-same : goal.returns-in-Ok-clause-same
returns-in-Ok-clause-same g c = reader_then c.mount.ensures.same c.count_damaged.ensures.same

pub returns-in-Err-clause-among : goal.returns-in-Err-clause-among
returns-in-Err-clause-among g c = rw c.source_ending.ensures.ends (source_among c.in-Err.why)
