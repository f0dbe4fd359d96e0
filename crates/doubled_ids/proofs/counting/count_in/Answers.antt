use Rattle.std.proofs.Common.{◌≡◌, ◌+◌, ◌∙◌, ℕ, List, length, if◌then◌else◌, ap, sym, subst, arith}
use Rattle.geometry.specs.Numbers.{page_count}
use Rattle.image_model.specs.Live.{live_at}
use Rattle.doubled_ids.specs.Doubled.{doubled_to, doubled_of}
use Rattle.doubled_ids.specs.Notes.{AreNoted, is_second}
use Rattle.doubled_ids.proofs.Noting.{none_noted, noted_more, counted_more, none_counted, few_more}
use Rattle.doubled_ids.proofs.counting.count_in.Goals as goal

pub loop-p-init : goal.loop-p-init
loop-p-init c = record {
  noted = none_noted (live_at c.args.g.now c.args.image.now) c.clear_bytes.new.bytes (c.clear_bytes.ensures.len ∙ c.requires.notes) c.clear_bytes.ensures.zero;
  counted = record { few = omega arith; count_is = none_counted (live_at c.args.g.now c.args.image.now) 0x7FFF };
}

pub loop-p-preserved : goal.loop-p-preserved
loop-p-preserved c =
    let live = live_at c.args.g.now c.args.image.now in
    let p = c.loop-p.p in
    let was = c.loop-p.invariant in
    let is = c.header_id.ensures.id in
    let next : c.count_more-count.result ≡ (if is_second c.loop-p.notes c.header_id.result then c.loop-p.count + 1 else c.loop-p.count) = rw (← c.note_head-second.ensures.second) c.count_more-count.ensures in
    let more = counted_more live p c.loop-p.notes c.header_id.result 0x7FFF c.loop-p.count c.count_more-count.result was.noted is c.header_id.ensures.within (omega arith) was.counted.count_is next in
    record {
      noted = subst (λ (notes : List ℕ). AreNoted live (p + 1) notes) (sym c.note_head-second.ensures.noted) (noted_more live p c.loop-p.notes c.header_id.result was.noted is c.header_id.ensures.within);
      counted = record { few = few_more c.note_head-second.result c.loop-p.count c.count_more-count.result p was.counted.few c.count_more-count.ensures; count_is = more };
    }

pub returns : goal.returns
unfolding doubled_of
returns c =
    let end : c.loop-p.p ≡ page_count c.args.g.now = omega (arith, c.loop-p-test.false, c.pages-p-end.ensures.count, c.loop-p.auto.p-end) in
    c.loop-p.invariant.counted.count_is ∙ ap (λ (p : ℕ). length (doubled_to (live_at c.args.g.now c.args.image.now) p 0x7FFF)) end
