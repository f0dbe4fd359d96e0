use Rattle.std.proofs.Common.{drop}
use Rattle.page_renew.proofs.Edited.{has_edited}
use Rattle.page_renew.proofs.edits.build_edited.Goals as goal

pub returns-clause-told : goal.returns-clause-told
returns-clause-told g c = λ tells.
    let same = c.in_ok-load.ensures.looks.same.geometry in
    has_edited c.args.v.now.geometry (g.N.NorState.bytes c.args.v.now.nor.now) c.args.header c.args.edit c.page-len.result c.load.new.self.work.now c.edit_page.new.page (drop c.page-len.result c.load.new.self.work.now)
    (c.in_ok-load.ensures.told tells) (rw same at c.page-len.ensures) (rw same at c.edit_page.ensures.edited) c.edit_page.ensures.old_bytes c.edit_page.ensures.new_bytes
