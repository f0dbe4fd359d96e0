-- The search from the first span of further index page `k` on gives the answer.
use Rattle.std.proofs.Common.{◌≡◌, ◌+◌, ◌-◌, ◌*◌, ◌/◌, ℕ, List, take}
use Rattle.geometry.specs.Numbers.{head_slots, span_slots}
use Rattle.image_model.specs.Live.{live_at, own}
use Rattle.flash_view.specs.Same.{OnlyLooks}
use Rattle.file_find.specs.Judging.{missing_between}
use Rattle.file_find.proofs.judging.missing_behind.Given as goal

abbrev pub invariant-loop-k : goal.invariant-loop-k
invariant-loop-k g l = record {
  count : l.k-end ≡ (l.spans - head_slots l.fn.v.geometry + span_slots l.fn.v.geometry - 1) / span_slots l.fn.v.geometry;
  looks : OnlyLooks l.fn.v l.v;
  built : take l.fn.v.geometry.page l.v.work.now ≡ take l.fn.v.geometry.page l.fn.v.work.now;
  told :
      (let geo = l.fn.v.geometry in
      let pages = own (live_at geo (g.N.NorState.bytes l.fn.v.nor.now)) l.id in
      g.N.NorState.tells l.fn.v.nor.now → (head : List ℕ) →
      missing_between geo pages head (head_slots geo + l.k * span_slots geo) l.spans ≡ missing_between geo pages head (head_slots geo) l.spans);
}
