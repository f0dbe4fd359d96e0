-- The search from `span` on gives the answer, and the index page is copied.
use Rattle.std.proofs.Common.{◌≡◌, ◌-◌, ◌*◌, ℕ, take}
use Rattle.std.specs.Prelude.{find, is_none, slice_range}
use Rattle.std.specs.List.{range_with_len}
use Rattle.image_model.specs.Places.{page_of}
use Rattle.image_model.specs.Live.{live_at, own}
use Rattle.flash_view.specs.Same.{OnlyLooks}
use Rattle.file_find.specs.Judging.{entry_data, missing_entry}
use Rattle.file_find.proofs.judging.missing_in.Given as goal

abbrev pub invariant-loop-span : goal.invariant-loop-span
invariant-loop-span g l = record {
  looks : OnlyLooks l.fn.v l.v;
  built : take l.fn.v.geometry.page l.v.work.now ≡ take l.fn.v.geometry.page l.fn.v.work.now;
  fetched : g.N.NorState.tells l.fn.v.nor.now → slice_range l.v.work.now l.fn.v.geometry.page (2 * l.fn.v.geometry.page) ≡ page_of l.fn.v.geometry (g.N.NorState.bytes l.fn.v.nor.now) l.index;
  told :
      (let image = g.N.NorState.bytes l.fn.v.nor.now in
      let pages = own (live_at l.fn.v.geometry image) l.id in
      let page = page_of l.fn.v.geometry image l.index in
      g.N.NorState.tells l.fn.v.nor.now →
      find (λ (s : ℕ). is_none (entry_data pages page l.at l.first s)) (range_with_len l.span (l.end - l.span)) ≡ missing_entry pages page l.at l.first l.end);
}
