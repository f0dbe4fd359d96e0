use Rattle.std.proofs.Common.{◌∙◌, sym, refl, rules}
use Rattle.flash_view.proofs.Stepped.{view_image}
use Rattle.file_write.proofs.TailLooks.{free_behind, not_inside}
use Rattle.file_write.proofs.tails.stale_index.Goals as goal
use Rattle.file_write.proofs.tails.stale_index.Goals.{then-free-via-then-free, then-free-via-else-free+then-not-is_entry_page}

pub returns-then-free-clause-told : goal.returns-then-free-clause-told
returns-then-free-clause-told g c = λ tells tidy.
    let looks = c.in_ok-index.ensures.looks in
    let k = c.args.v.now.geometry in
    let image = g.N.NorState.bytes c.args.v.now.nor.now in
    let there = sym c.in-Some.is ∙ c.in_ok-index.ensures.told tells tidy in
    let ones = c.in_ok-free.ensures.told (looks.reads.told tells) in
    elim c.then-free.branch [
      | then-free-via-then-free w ↦ free_behind k image c.args.id c.args.size _ c.in-Some.index (rw (c.wide_index_span.ensures, c.data_pages-count.ensures.pages) refl) there c.entry_place.result
          (view_image c.args.v.now (g.met.N.Nor.sized _) tells) (rw (c.entry_place.ensures.place, c.data_pages-count.ensures.pages) refl)
          (sym (rw looks.same.geometry at (rw looks.reads.bytes at ones)) ∙ search rules)
      | then-free-via-else-free+then-not-is_entry_page w ↦ not_inside k image c.args.id c.args.size _ c.in-Some.index (rw (c.wide_index_span.ensures, c.data_pages-count.ensures.pages) refl) there (search rules)
    ]
