use Rattle.std.proofs.Common.{◌∙◌, sym}
use Rattle.file_find.proofs.Holders.{listed_none, unlisted_some}
use Rattle.file_find.proofs.Noting.{head_marked}
use Rattle.file_find.proofs.Stepping.{file_headless, file_damaged, file_whole}
use Rattle.file_find.proofs.listing.find_file.Goals as goal

pub returns-in_default-clause-told : goal.returns-in_default-clause-told
returns-in_default-clause-told g c = λ tells.
    file_headless c.args.v.now.geometry (g.N.NorState.bytes c.args.v.now.nor.now) c.args.id (sym c.in_default.is ∙ c.in_ok-header.ensures.told tells)

pub returns-then-is_listed-clause-told : goal.returns-then-is_listed-clause-told
returns-then-is_listed-clause-told g c = λ tells.
    let geo = c.args.v.now.geometry in
    let image = g.N.NorState.bytes c.args.v.now.nor.now in
    let head = sym c.in-Some.is ∙ c.in_ok-header.ensures.told tells in
    let mark = head_marked geo image c.args.marks.now c.args.id c.in-Some.header (c.requires.marked tells) (sym head) in
    file_whole geo image c.args.id c.in-Some.header head (listed_none geo image c.args.id c.in-Some.header _ (sym head) mark (sym c.is_listed.ensures ∙ c.if-is_listed.true))

pub returns-else-is_listed-clause-told : goal.returns-else-is_listed-clause-told
returns-else-is_listed-clause-told g c = λ tells.
    let geo = c.args.v.now.geometry in
    let image = g.N.NorState.bytes c.args.v.now.nor.now in
    let head = sym c.in-Some.is ∙ c.in_ok-header.ensures.told tells in
    let mark = head_marked geo image c.args.marks.now c.args.id c.in-Some.header (c.requires.marked tells) (sym head) in
    let some = unlisted_some geo image c.args.id c.in-Some.header _ (sym head) mark (sym c.is_listed.ensures ∙ c.if-is_listed.false) in
    file_damaged geo image c.args.id c.in-Some.header some.0 head some.1
