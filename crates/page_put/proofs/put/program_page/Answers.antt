use Rattle.std.proofs.Common.{◌∙◌, ap, length, arith}
use Rattle.std.proofs.lemmas.Result.{on_ok_weaker}
use Rattle.page_put.proofs.Placed.{header_bytes, cut1, cut2, cut3, done3}
use Rattle.flash_view.proofs.Heads.{entry_page_told}
use Rattle.page_put.proofs.Changing.{entry_changes, changes_then, header_changes, rest_changes}
use Rattle.page_put.proofs.put.program_page.Goals as goal

pub returns-in_err-program_entry-clause-changes : goal.returns-in_err-program_entry-clause-changes
returns-in_err-program_entry-clause-changes g c =
    cut1 c.args.v.now.geometry c.args.page c.args.kind c.args.tag c.args.v.now.work.now _ c.placed-head.ensures.id (omega (arith, c.placed-head.type_inv)) c.program_entry.ensures.changes

pub returns-in_err-program_in-clause-changes : goal.returns-in_err-program_in-clause-changes
returns-in_err-program_in-clause-changes g c =
    cut2 c.args.v.now.geometry c.args.page c.args.kind c.args.tag c.args.v.now.work.now _ c.placed-head.ensures.id (omega (arith, c.placed-head.type_inv)) c.program_entry.ensures.changes c.in_ok-program_entry.ensures.done
    _ c.program_entry.ensures.same.geometry _ (header_bytes c.args.kind c.args.tag _ _ c.fill_header.ensures c.placed-head.ensures.id c.placed-head.ensures.span c.placed-head.ensures.flags) c.program_in.ensures.changes

pub returns-clause-changes : goal.returns-clause-changes
returns-clause-changes g c =
    cut3 c.args.v.now.geometry c.args.page c.args.kind c.args.tag c.args.v.now.work.now _ c.placed-head.ensures.id (omega (arith, c.placed-head.type_inv)) c.program_entry.ensures.changes c.in_ok-program_entry.ensures.done
    _ c.program_entry.ensures.same.geometry _ (header_bytes c.args.kind c.args.tag _ _ c.fill_header.ensures c.placed-head.ensures.id c.placed-head.ensures.span c.placed-head.ensures.flags) c.program_in.ensures.changes c.in_ok-program_in.ensures.done
    _ (c.program_in.ensures.same.geometry ∙ c.program_entry.ensures.same.geometry) _ (c.program_in.ensures.work ∙ c.program_entry.ensures.work) c.program_build.ensures.changes

pub returns-clause-done : goal.returns-clause-done
returns-clause-done g c = λ tells. on_ok_weaker _
    (λ is. done3 c.args.v.now.geometry c.args.page c.args.kind c.args.tag c.args.v.now.work.now _ c.placed-head.ensures.id (omega (arith, c.placed-head.type_inv)) c.program_entry.ensures.changes c.in_ok-program_entry.ensures.done
    _ c.program_entry.ensures.same.geometry _ (header_bytes c.args.kind c.args.tag _ _ c.fill_header.ensures c.placed-head.ensures.id c.placed-head.ensures.span c.placed-head.ensures.flags) c.program_in.ensures.changes c.in_ok-program_in.ensures.done
    _ (c.program_in.ensures.same.geometry ∙ c.program_entry.ensures.same.geometry) _ (c.program_in.ensures.work ∙ c.program_entry.ensures.work) c.program_build.ensures.changes tells is)
    (c.program_build.ensures.done (c.program_in.ensures.changes.cuts.told (c.program_entry.ensures.changes.cuts.told tells)))

pub returns-in_err-program_entry-clause-only : goal.returns-in_err-program_entry-clause-only
returns-in_err-program_entry-clause-only g c = λ tells.
    let g' = c.args.v.now.geometry in
    entry_changes g' c.args.page (entry_page_told g' c.args.page c.requires.page) _ _ (c.in_err-program_entry.ensures.changes.now tells).outside

pub returns-in_err-program_in-clause-only : goal.returns-in_err-program_in-clause-only
returns-in_err-program_in-clause-only g c = λ tells.
    let g' = c.args.v.now.geometry in
    let first = c.in_ok-program_entry.ensures in
    let last = c.in_err-program_in.ensures in
    header_changes g' _ first.same.geometry c.args.page (entry_page_told g' c.args.page c.requires.page) _ _ _ _ (first.changes.now tells).outside (last.changes.now (first.changes.cuts.told tells)).outside (ap length c.fill_header.ensures)

pub returns-clause-only : goal.returns-clause-only
returns-clause-only g c = λ tells.
    let g' = c.args.v.now.geometry in
    let first = c.in_ok-program_entry.ensures in
    let next = c.in_ok-program_in.ensures in
    let last = c.program_build.ensures in
    let two = header_changes g' _ first.same.geometry c.args.page (entry_page_told g' c.args.page c.requires.page) _ _ _ _ (first.changes.now tells).outside (next.changes.now (first.changes.cuts.told tells)).outside (ap length c.fill_header.ensures) in
    changes_then g' c.args.page _ _ _ two (rest_changes g' _ (next.same.geometry ∙ first.same.geometry) c.args.page (entry_page_told g' c.args.page c.requires.page) c.program_in.new.self.work.now _ _ (last.changes.now (next.changes.cuts.told (first.changes.cuts.told tells))).outside)

pub returns-in_err-program_entry-clause-few : goal.returns-in_err-program_entry-clause-few
returns-in_err-program_entry-clause-few g c = omega (arith, c.program_entry.ensures.writes.writes)

pub returns-in_err-program_in-clause-few : goal.returns-in_err-program_in-clause-few
returns-in_err-program_in-clause-few g c = omega (arith, c.program_entry.ensures.writes.writes, c.program_in.ensures.writes.writes)

pub returns-clause-few : goal.returns-clause-few
returns-clause-few g c = omega (arith, c.program_entry.ensures.writes.writes, c.program_in.ensures.writes.writes, c.program_build.ensures.writes.writes)
