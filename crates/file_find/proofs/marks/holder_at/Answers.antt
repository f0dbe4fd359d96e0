use Rattle.std.proofs.Common.{◌≡◌, ◌∙◌, sym}
use Rattle.flash_view.specs.DataPages.{lookup_entry}
use Rattle.file_find.proofs.Holders.{holder_by_entry}
use Rattle.file_find.proofs.marks.holder_at.Goals as goal

pub returns-clause-told : goal.returns-clause-told
returns-clause-told g c = λ tells is.
    let geo = c.args.v.now.geometry in
    let image = g.N.NorState.bytes c.args.v.now.nor.now in
    let named = c.in_ok-has_name.ensures in
    let entry : c.in_ok-lookup_entry.field-0 ≡ lookup_entry geo image c.args.page = rw (named.looks.same.geometry, named.looks.reads.bytes) at (c.in_ok-lookup_entry.ensures.told (named.looks.reads.told tells)) in
    holder_by_entry geo image c.args.name.now c.args.page c.args.mark c.args.sought c.in_ok-lookup_entry.field-0 c.requires.sought is c.if-mark-sought.false (sym (named.told tells) ∙ c.if-not-branch.false) entry
