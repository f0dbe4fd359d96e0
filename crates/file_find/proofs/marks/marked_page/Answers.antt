use Rattle.std.proofs.Common.{◌≡◌, false}
use Rattle.geometry.specs.Numbers.{page_count}
use Rattle.file_find.specs.Ids.{is_noted}
use Rattle.file_find.proofs.Noting.{not_noted}
use Rattle.file_find.proofs.marks.marked_page.Goals as goal

pub returns-then-not-is_noted-clause-told : goal.returns-then-not-is_noted-clause-told
returns-then-not-is_noted-clause-told g c = λ tells.
    let geo = c.args.v.now.geometry in
    let clear : is_noted c.args.marks.now (page_count geo) c.args.id ≡ false = cc (c.is_noted.ensures, c.from.ensures, c.pages-pages.ensures.count, c.if-not-is_noted.true) in
    not_noted geo (g.N.NorState.bytes c.args.v.now.nor.now) c.args.marks.now c.args.id (c.requires.marked tells) clear
