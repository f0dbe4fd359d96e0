use Rattle.std.proofs.Common.{◌≡◌, refl, sym, ◌∙◌, IfOk}
use Rattle.std.specs.Prelude.{Some, None, IfSome}
use Rattle.image_model.specs.Places.{entry_at}
use Rattle.flash_view.specs.Places.{IsWordAt}
use Rattle.flash_view.proofs.Telling.{if_ok, under, looked, looked_by}
use Rattle.free_search.specs.Free.{the_block, the_first_free, the_free_page}
use Rattle.free_search.proofs.Choosing.{page_fits, page_told}
use Rattle.free_search.proofs.pages.free_page.Goals as goal

pub returns-in-Some-clause-chosen : goal.returns-in-Some-clause-chosen
unfolding the_free_page
returns-in-Some-clause-chosen g c = λ tells frees.
    let geometry = c.args.v.now.geometry in
    let image = g.N.NorState.bytes c.args.v.now.nor.now in
    let first = c.in_ok-block.ensures.looks.only in
    let block : the_block geometry image c.args.kind c.args.keep c.args.not_in ≡ Some c.in-Some.block = sym (c.in_ok-block.ensures.looks.told tells frees) ∙ c.in-Some.is in
    let found : IfOk c.first_free.result (λ found. found ≡ the_first_free geometry image c.in-Some.block) = if_ok _ _ c.first_free.result (λ x told. told frees) (rw (first.same.geometry, first.reads.bytes) at (c.first_free.ensures.looks.told (first.reads.told tells))) in
    rw block found

pub returns-in-Some-clause-looks : goal.returns-in-Some-clause-looks
returns-in-Some-clause-looks g c = looked_by c.in_ok-block.ensures.looks.only c.first_free.ensures.looks (λ tells. under _ c.first_free.result (λ frees.
    let geometry = c.args.v.now.geometry in
    let image = g.N.NorState.bytes c.args.v.now.nor.now in
    let first = c.in_ok-block.ensures.looks.only in
    let word : IfOk c.first_free.result (λ found. IfSome found (λ p. IsWordAt image (entry_at geometry p))) = rw (first.same.geometry, first.reads.bytes) at (c.first_free.ensures.word (first.reads.told tells)) in
    page_told geometry image frees c.args.kind c.args.keep c.args.not_in c.first_free.result (returns-in-Some-clause-chosen g c tells frees) word))

pub returns-in-None-clause-chosen : goal.returns-in-None-clause-chosen
unfolding the_free_page
returns-in-None-clause-chosen g c = λ tells frees.
    let block : the_block c.args.v.now.geometry (g.N.NorState.bytes c.args.v.now.nor.now) c.args.kind c.args.keep c.args.not_in ≡ None = sym (c.in_ok-block.ensures.looks.told tells frees) ∙ c.in-None.is in
    rw block refl

pub returns-in-None-clause-looks : goal.returns-in-None-clause-looks
returns-in-None-clause-looks g c = looked c.in_ok-block.ensures.looks.only (λ tells frees.
    page_fits c.args.v.now.geometry (g.N.NorState.bytes c.args.v.now.nor.now) frees c.args.kind c.args.keep c.args.not_in None (returns-in-None-clause-chosen g c tells frees) tt)
