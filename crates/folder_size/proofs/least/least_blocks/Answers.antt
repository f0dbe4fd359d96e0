use Rattle.std.proofs.Common.{sym, subst}
use Rattle.folder_size.specs.Needs.{IsNeed}
use Rattle.folder_size.proofs.Numbers.{none_at_all, shaped}
use Rattle.folder_size.proofs.Needing.{needs}
use Rattle.folder_size.proofs.least.least_blocks.Goals as goal

pub returns-in-Err-clause-need : goal.returns-in-Err-clause-need
returns-in-Err-clause-need g c =
    let refused = c.in-Err.ensures.refused in
    record { why_is = refused; none = none_at_all c.args.shape c.in-Err.why refused }

pub returns-clause-need : goal.returns-clause-need
returns-clause-need g c =
    let files = g.F.FolderState.entries c.args.folder.now in
    let least = c.in-Ok.g in
    let made = c.in-Ok.ensures.made in
    subst (IsNeed c.args.shape files) (sym c.need_by_refusal.ensures)
    (needs least c.args.shape files (shaped least c.args.shape 4 _ made) made.blocks_is c.in-Ok.ensures.accepted c.in_ok-why.why c.in_ok-why.ensures.refusal)
