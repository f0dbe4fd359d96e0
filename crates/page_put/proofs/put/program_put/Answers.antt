use Rattle.image_model.specs.Places.{entry_of}
use Rattle.std.proofs.Common.{◌≢◌, ◌+◌, ◌*◌, sym, ◌∙◌, arith}
use Rattle.std.proofs.lemmas.Result.{on_ok_weaker}
use Rattle.flash_view.proofs.Heads.{entry_page_told}
use Rattle.page_put.proofs.Changing.{placed_used, changes_then, page_changes, entry_stays}
use Rattle.page_put.proofs.put.program_put.Goals as goal

pub returns-clause-only : goal.returns-clause-only
returns-clause-only g c = λ tells.
    let view = c.args.v.now in
    let k = view.geometry in
    let first = c.in_ok-program_page.ensures in
    let last = c.program_final.ensures in
    let page = entry_page_told k c.args.page c.requires.page in
    let outside = rw first.same.geometry at (last.changes.now (first.changes.cuts.told tells)).outside in
    changes_then k c.args.page _ _ _ (first.only tells) (page_changes k c.args.page page (c.args.page * k.page + 4) 1 _ _ (omega arith) (omega (arith, k.valid.page_least)) outside)

pub returns-clause-used : goal.returns-clause-used
returns-clause-used g c = λ tells.
    let view = c.args.v.now in
    let k = view.geometry in
    let first = c.in_ok-program_page.ensures in
    let last = c.program_final.ensures in
    let page = entry_page_told k c.args.page c.requires.page in
    let there = first.changes.cuts.told tells in
    let outside = rw first.same.geometry at (last.changes.now there).outside in
    let placed : entry_of k (g.N.NorState.bytes c.program_page.new.v.nor.now) c.args.page ≢ 65535 = rw (first.done tells) (placed_used k c.args.page page c.args.kind c.args.tag view.work.now (g.N.NorState.bytes view.nor.now) c.requires.id.1) in
    let stays = entry_stays k c.args.page page (c.args.page * k.page + 4) 1 _ _ (omega arith) (omega (arith, k.valid.page_least)) outside in
    let still : entry_of k (g.N.NorState.bytes c.program_final.new.v.nor.now) c.args.page ≢ 65535 = λ free. placed (sym stays ∙ free) in
    on_ok_weaker _ (λ is. still) (last.done there)
