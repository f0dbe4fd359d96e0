use Rattle.std.proofs.Common.{sym, ap, ◌∙◌}
use Rattle.folder_plan.specs.Refusals.{first_bad}
use Rattle.folder_plan.proofs.Deciding.{by_name, by_room}
use Rattle.folder_plan.proofs.refusing.refusal_of.Goals as goal

pub returns-in-Some-clause-refusal : goal.returns-in-Some-clause-refusal
returns-in-Some-clause-refusal g c =
    by_name c.args.g.now (g.F.FolderState.entries c.args.folder.now) c.in-Some.at (sym c.in-Some.is ∙ c.in_ok-at.ensures.first ∙ ap first_bad c.in_ok-count.ensures.kept.entries)

pub returns-in-None-clause-refusal : goal.returns-in-None-clause-refusal
returns-in-None-clause-refusal g c =
    by_room c.args.g.now (g.F.FolderState.entries c.args.folder.now) _ c.room_refusal.result (sym c.in-None.is ∙ c.in_ok-at.ensures.first ∙ ap first_bad c.in_ok-count.ensures.kept.entries) (c.in_ok-at.ensures.kept.entries ∙ c.in_ok-count.ensures.kept.entries) c.room_refusal.ensures.refusal
