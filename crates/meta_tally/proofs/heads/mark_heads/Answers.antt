use Rattle.std.proofs.Common.{◌≡◌, ◌+◌, ◌<◌, ◌≤◌, ◌∙◌, ℕ, List, sym, subst, arith}
use Rattle.std.specs.Prelude.{is_some}
use Rattle.geometry.specs.Numbers.{page_count}
use Rattle.image_model.specs.Live.{live_at}
use Rattle.plain_image.proofs.Ranges.{count_none, count_all}
use Rattle.meta_tally.specs.Heads.{Seen, head_at, head_count}
use Rattle.meta_tally.proofs.Seeing.{none_seen, seen_more, head_seen, marked_more, mark_is, counted_more}
use Rattle.meta_tally.proofs.heads.mark_heads.Goals as goal

pub loop-p-init : goal.loop-p-init
loop-p-init c = record {
  seen = none_seen (live_at c.args.g.now c.args.image.now) c.clear_bytes.new.bytes (c.clear_bytes.ensures.len ∙ c.requires.ids) c.clear_bytes.ensures.zero;
  marked = λ q low. absurd (omega (arith, low));
  count = count_none (λ (q : ℕ). is_some (head_at c.args.g.now c.args.image.now q)) (page_count c.args.g.now);
}

pub loop-p-preserved : goal.loop-p-preserved
loop-p-preserved c =
    let g = c.args.g.now in
    let image = c.args.image.now in
    let p = c.loop-p.p in
    let was = c.loop-p.invariant in
    let low : p < page_count g = omega (arith, c.loop-p-test.true, c.pages-p-end.ensures.count) in
    let head : c.see-first.result ≡ head_at g image p = c.see-first.ensures.first ∙ head_seen g image p c.loop-p.ids c.said_id.result low was.seen c.said_id.ensures.id in
    record {
      seen = subst (λ (x : List ℕ). Seen (live_at g image) (p + 1) x) (sym c.see-first.ensures.seen) (seen_more g image p c.loop-p.ids c.said_id.result was.seen c.said_id.ensures.id);
      marked = marked_more g image c.loop-p.marks p c.mark_of.result (omega (arith, low, c.requires.marks, c.loop-p.auto.marks)) was.marked (mark_is g image p c.mark_of.result c.see-first.result head c.mark_of.ensures);
      count = counted_more g image p c.loop-p.count c.count_more-count.result c.see-first.result low was.count head c.count_more-count.ensures.some c.count_more-count.ensures.none;
    }

pub returns-clause-count : goal.returns-clause-count
unfolding head_count
returns-clause-count c =
    let end : page_count c.args.g.now ≤ c.loop-p.p = omega (arith, c.loop-p-test.false, c.pages-p-end.ensures.count) in
    count_all (λ (q : ℕ). is_some (head_at c.args.g.now c.args.image.now q)) c.loop-p.count c.loop-p.p (page_count c.args.g.now) end c.loop-p.invariant.count

pub returns-clause-marked : goal.returns-clause-marked
returns-clause-marked c =
    let end : page_count c.args.g.now ≤ c.loop-p.p = omega (arith, c.loop-p-test.false, c.pages-p-end.ensures.count) in
    record {
      len = omega (arith, c.requires.marks, c.loop-p.auto.marks);
      each = λ q low. c.loop-p.invariant.marked q (omega (arith, low, end));
    }
