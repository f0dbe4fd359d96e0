use Rattle.flash_view.proofs.Looking.{same_then}
use Rattle.image_tool.proofs.Files.{extracts_after, none_put}
use Rattle.image_tool.proofs.Speaking.{says_after, front_none}
use Rattle.image_tool.proofs.extracting.extract.Goals as goal

pub returns-in_default-clause-told : goal.returns-in_default-clause-told
returns-in_default-clause-told g c = λ tells. none_put c.args.folder.now (front_none _ c.survey.ensures.looks.reads)

pub returns-clause-told : goal.returns-clause-told
returns-clause-told g c = λ tells.
    let looks = c.survey.ensures.looks in
    extracts_after g.B.NorState g.F.FolderState _ _ _ _ looks.same.geometry looks.reads.bytes _ _ _ _ _ c.extract_marked.result looks.reads (c.extract_marked.ensures.told (looks.reads.told tells))

pub returns-clause-says : goal.returns-clause-says
returns-clause-says g c =
    let looks = c.survey.ensures.looks in
    says_after looks.reads (rw (looks.same.geometry, looks.reads.bytes) at c.extract_marked.ensures.says)

pub returns-clause-same : goal.returns-clause-same
returns-clause-same g c = same_then c.survey.ensures.looks.same c.extract_marked.ensures.same
