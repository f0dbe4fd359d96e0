use Rattle.std.proofs.Common.{◌≡◌, ◌∙◌, sym, refl, None}
use Rattle.geometry.specs.Numbers.{page_count}
use Rattle.file_find.specs.Marks.{head_between}
use Rattle.flash_view.proofs.Looking.{looks_then}
use Rattle.flash_view.proofs.Spans.{told_along}
use Rattle.file_find.proofs.Noting.{found_page, found_neither}
use Rattle.file_find.proofs.marks.marked_near.Goals as goal

pub returns-in-Some-clause-told : goal.returns-in-Some-clause-told
returns-in-Some-clause-told g c = λ tells.
    found_page c.args.v.now.geometry (g.N.NorState.bytes c.args.v.now.nor.now) c.args.id _ _ c.in-Some.page (sym c.in-Some.is ∙ c.in_ok-page.ensures.told tells)

pub returns-in-None-clause-looks : goal.returns-in-None-clause-looks
returns-in-None-clause-looks g c = looks_then c.in_ok-page.ensures.looks c.marked_between-in-None.ensures.looks

pub returns-in-None-clause-told : goal.returns-in-None-clause-told
returns-in-None-clause-told g c = λ tells.
    let geo = c.args.v.now.geometry in
    let image = g.N.NorState.bytes c.args.v.now.nor.now in
    let first = c.in_ok-page.ensures in
    let behind : None ≡ head_between geo image c.args.id c.args.near (page_count geo) = rw c.pages-pages.ensures.count at (sym c.in-None.is ∙ first.told tells) in
    let rest = rw (first.looks.same.geometry, first.looks.reads.bytes) at (c.marked_between-in-None.ensures.told (first.looks.reads.told tells)) in
    told_along _ _ _ rest (found_neither geo image c.args.id c.args.near (head_between geo image c.args.id 0 c.args.near) behind refl)
