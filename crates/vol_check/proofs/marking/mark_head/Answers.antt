use Rattle.std.proofs.Common.{◌≡◌, ◌∙◌}
use Rattle.image_model.specs.Places.{page_of}
use Rattle.vol_check.proofs.MarkSteps.{adds_then}
use Rattle.vol_check.proofs.marking.mark_head.Goals as goal

pub returns-clause-told : goal.returns-clause-told
returns-clause-told g c = λ tells.
    let geo = c.args.v.now.geometry in
    let head : c.fetched-head.result.now ≡ page_of geo (g.N.NorState.bytes c.args.v.now.nor.now) c.args.header = rw c.in_ok-fetch.ensures.looks.same.geometry at c.fetched-head.ensures.bytes ∙ c.in_ok-fetch.ensures.told tells in
    rw (c.pages-pages.ensures.count, c.min-near.ensures, c.head_slots.ensures, c.head_slots_at.ensures, c.data_pages-spans.ensures.pages, c.file_size.ensures, head) at (adds_then c.mark.ensures c.mark_named.ensures)
