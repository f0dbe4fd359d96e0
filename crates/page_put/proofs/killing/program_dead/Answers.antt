use Rattle.std.proofs.Common.{◌*◌, ◌+◌, arith}
use Rattle.flash_view.proofs.Heads.{entry_page_told}
use Rattle.page_put.proofs.Changing.{page_changes, entry_changes, changes_then}
use Rattle.page_put.proofs.killing.program_dead.Goals as goal

pub returns-in_err-program_in-clause-only : goal.returns-in_err-program_in-clause-only
returns-in_err-program_in-clause-only g c = λ tells.
    let g' = c.args.v.now.geometry in
    page_changes g' c.args.page (entry_page_told g' c.args.page c.requires.page) (c.args.page * g'.page + 4) 1 _ _ (omega arith) (omega (arith, g'.valid.page_least)) (c.in_err-program_in.ensures.changes.now tells).outside

pub returns-clause-only : goal.returns-clause-only
returns-clause-only g c = λ tells.
    let g' = c.args.v.now.geometry in
    let first = c.in_ok-program_in.ensures in
    let last = c.program_entry.ensures in
    let page = entry_page_told g' c.args.page c.requires.page in
    changes_then g' c.args.page _ _ _ (page_changes g' c.args.page page (c.args.page * g'.page + 4) 1 _ _ (omega arith) (omega (arith, g'.valid.page_least)) (first.changes.now tells).outside)
    (entry_changes g' c.args.page page _ _ (rw first.same.geometry at (last.changes.now (first.changes.cuts.told tells)).outside))

pub returns-in_err-program_in-clause-few : goal.returns-in_err-program_in-clause-few
returns-in_err-program_in-clause-few g c = omega (arith, c.program_in.ensures.writes.writes)

pub returns-clause-few : goal.returns-clause-few
returns-clause-few g c = omega (arith, c.program_in.ensures.writes.writes, c.program_entry.ensures.writes.writes)
