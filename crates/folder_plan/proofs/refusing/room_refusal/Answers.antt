use Rattle.std.proofs.Common.{sym, ◌∙◌}
use Rattle.folder_plan.proofs.Deciding.{has_some, has_none}
use Rattle.folder_plan.proofs.refusing.room_refusal.Goals as goal

pub returns-then-have_room-clause-refusal : goal.returns-then-have_room-clause-refusal
returns-then-have_room-clause-refusal g c =
    let pages = c.in_ok-pages in
    has_some c.args.g.now (g.F.FolderState.entries c.args.folder.now) pages.pages.index_pages pages.pages.data_pages pages.ensures.index_pages pages.ensures.data_pages (sym c.have_room.ensures ∙ c.if-have_room.true)

pub returns-clause-refusal : goal.returns-clause-refusal
returns-clause-refusal g c =
    let pages = c.in_ok-pages in
    has_none c.args.g.now (g.F.FolderState.entries c.args.folder.now) pages.pages.index_pages pages.pages.data_pages pages.ensures.index_pages pages.ensures.data_pages (sym c.have_room.ensures ∙ c.if-have_room.false)
