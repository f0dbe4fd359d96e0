use Rattle.flash_view.proofs.Looking.{same_then}
use Rattle.image_tool.proofs.Speaking.{says_after}
use Rattle.image_tool.proofs.listing.list.Goals as goal

pub returns-in_err-list_marked-clause-says : goal.returns-in_err-list_marked-clause-says
returns-in_err-list_marked-clause-says g c =
    let looks = c.survey.ensures.looks in
    says_after looks.reads (rw (looks.same.geometry, looks.reads.bytes) at c.list_marked.ensures.says)

pub returns-clause-says : goal.returns-clause-says
returns-clause-says g c =
    let looks = c.survey.ensures.looks in
    says_after looks.reads (rw (looks.same.geometry, looks.reads.bytes) at c.list_marked.ensures.says)

pub returns-clause-same : goal.returns-clause-same
returns-clause-same g c = same_then c.survey.ensures.looks.same c.list_marked.ensures.same
