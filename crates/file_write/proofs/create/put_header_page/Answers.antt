use Rattle.std.proofs.Common.{◌<◌, ℕ, List, subst, drop, get_or, Fits, w8, rules, arith}
use Rattle.std.proofs.lemmas.List.Elements.{All-from_get_or}
use Rattle.flash_view.proofs.Stepped.{after_look, rebuilt}
use Rattle.page_layout.specs.Layout.{IsNewHeader}
use Rattle.file_write.proofs.Creating.{puts_head}
use Rattle.file_write.proofs.create.put_header_page.Goals as goal

pub returns-clause-step : goal.returns-clause-step
returns-clause-step g c =
    after_look (rebuilt (search rules)) c.put_page.ensures.step
    (λ tells can. puts_head c.args.v.now.geometry _ c.args.page c.args.id c.args.name.now c.requires.id.0 c.requires.id.1
    (subst (λ (l : List ℕ). IsNewHeader c.args.v.now.geometry c.args.id c.args.name.now l) c.build_header_page.ensures.bytes c.build_header_page.ensures.fields) can c.requires.name.1
    (All-from_get_or (λ (b : ℕ). b < 256) c.args.name.now 0 (λ k within. let fits : Fits w8 (get_or c.args.name.now k 0) = c.type_inv.name k in omega arith))
    c.build_header_page.new.page (drop c.page-len.result c.args.v.now.work.now) c.build_header_page.ensures.bytes)

pub returns-clause-few : goal.returns-clause-few
returns-clause-few g c = omega (arith, c.put_page.ensures.few)
