use Rattle.std.proofs.Common.{◌≡◌, ◌∙◌}
use Rattle.volume.proofs.Staying.{same_then}
use Rattle.vol_copy.proofs.Readers.{reader_then}
use Rattle.copy_tool.specs.Endings.{copied_text}
use Rattle.copy_tool.proofs.Says.{changes_as, unsurveyed, stopped_copy, copy_said, copy_broken}
use Rattle.copy_tool.proofs.Begins.{said_among}
use Rattle.copy_tool.proofs.copying.copy_volumes.Goals as goal

pub returns-in-Err-clause-copies : goal.returns-in-Err-clause-copies
returns-in-Err-clause-copies g c = unsurveyed c.args.to.now.nor.now c.in-Err.ending c.in-Err.ensures.stops

pub returns-in-Err-copy_files-clause-copies : goal.returns-in-Err-copy_files-clause-copies
returns-in-Err-copy_files-clause-copies g c =
    let survey = c.survey.ensures in
    let files = rw (survey.same.geometry, survey.reads.bytes) at c.copy_files.ensures.idle in
    let ends = rw (survey.same.geometry, survey.reads.bytes) at c.in-Err-copy_files.ensures.copies in
    stopped_copy c.in-Ok.damaged c.in-Err-copy_files.ending c.in-Ok.ensures.told (changes_as c.survey.new.from.geometry survey.same.geometry survey.reads c.copy_files.ensures.changes)
    (λ source_tells tells. ends (survey.reads.told source_tells) tells)
    (λ source_tells tells all. files (survey.reads.told source_tells) tells all) c.copy_files.ensures.kept

pub returns-in-Ok-say-clause-copies : goal.returns-in-Ok-say-clause-copies
returns-in-Ok-say-clause-copies g c =
    let survey = c.survey.ensures in
    let files = rw (survey.same.geometry, survey.reads.bytes) at c.copy_files.ensures.idle in
    let ends = rw (survey.same.geometry, survey.reads.bytes) at c.in-Ok-copy_files.ensures.copies in
    let line : c.as_slice.result.now ≡ copied_text c.in-Ok-copy_files.copied.copied c.in-Ok-copy_files.copied.kept = c.as_slice.ensures.value ∙ c.copied_line.ensures in
    copy_said c.in-Ok.damaged c.in-Ok-copy_files.copied c.end_of_copy.result line c.end_of_copy.ensures.ends c.in-Ok.ensures.told (changes_as c.survey.new.from.geometry survey.same.geometry survey.reads c.copy_files.ensures.changes)
    (λ source_tells tells. ends (survey.reads.told source_tells) tells)
    (λ source_tells tells all. files (survey.reads.told source_tells) tells all) c.copy_files.ensures.kept c.say.ensures.says c.say.ensures.cuts c.in-Ok-say.ensures.done

pub returns-in-Err-say-clause-copies : goal.returns-in-Err-say-clause-copies
returns-in-Err-say-clause-copies g c =
    let survey = c.survey.ensures in
    let files = rw (survey.same.geometry, survey.reads.bytes) at c.copy_files.ensures.idle in
    let ends = rw (survey.same.geometry, survey.reads.bytes) at c.in-Ok-copy_files.ensures.copies in
    let line : c.as_slice.result.now ≡ copied_text c.in-Ok-copy_files.copied.copied c.in-Ok-copy_files.copied.kept = c.as_slice.ensures.value ∙ c.copied_line.ensures in
    copy_broken c.in-Ok.damaged c.in-Ok-copy_files.copied line c.in-Ok.ensures.told (changes_as c.survey.new.from.geometry survey.same.geometry survey.reads c.copy_files.ensures.changes)
    (λ source_tells tells. ends (survey.reads.told source_tells) tells)
    (λ source_tells tells all. files (survey.reads.told source_tells) tells all) c.copy_files.ensures.kept c.say.ensures.says c.say.ensures.cuts

pub returns-in-Err-copy_files-clause-same_source : goal.returns-in-Err-copy_files-clause-same_source
returns-in-Err-copy_files-clause-same_source g c = reader_then c.survey.ensures.same c.copy_files.ensures.same_source

pub returns-in-Ok-say-clause-same_source : goal.returns-in-Ok-say-clause-same_source
returns-in-Ok-say-clause-same_source g c = reader_then c.survey.ensures.same c.copy_files.ensures.same_source

pub returns-in-Err-say-clause-same_source : goal.returns-in-Err-say-clause-same_source
returns-in-Err-say-clause-same_source g c = reader_then c.survey.ensures.same c.copy_files.ensures.same_source

pub returns-in-Ok-say-clause-same : goal.returns-in-Ok-say-clause-same
returns-in-Ok-say-clause-same g c = same_then c.copy_files.ensures.same c.say.ensures.same

pub returns-in-Ok-say-clause-among : goal.returns-in-Ok-say-clause-among
returns-in-Ok-say-clause-among g c = rw c.end_of_copy.ensures.ends (said_among c.in-Ok.damaged)

pub returns-in-Err-say-clause-same : goal.returns-in-Err-say-clause-same
returns-in-Err-say-clause-same g c = same_then c.copy_files.ensures.same c.say.ensures.same
