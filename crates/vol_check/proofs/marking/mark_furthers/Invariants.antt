-- The first `k` further index pages and what they name are marked.
use Rattle.std.proofs.Common.{◌≡◌, ◌-◌}
use Rattle.geometry.specs.Numbers.{page_count, head_slots, span_slots, ceil}
use Rattle.flash_view.specs.Same.{OnlyLooks}
use Rattle.vol_check.specs.Needed.{AddsMarks, OfFurther, OfFirst}
use Rattle.vol_check.proofs.marking.mark_furthers.Given as goal

abbrev pub invariant-loop-k : goal.invariant-loop-k
invariant-loop-k g l = record {
  count : l.k-end ≡ ceil (l.spans - head_slots l.fn.v.geometry) (span_slots l.fn.v.geometry);
  looks : OnlyLooks l.fn.v l.v;
  told : (g.N.NorState.tells l.fn.v.nor.now → AddsMarks (page_count l.fn.v.geometry) (OfFirst (λ k p. OfFurther l.fn.v.geometry (g.N.NorState.bytes l.fn.v.nor.now) l.id k l.spans p) l.k) l.fn.marks l.marks);
}
