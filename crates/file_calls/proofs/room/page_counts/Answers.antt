use Rattle.std.proofs.Common.{◌≡◌, refl, arith}
use Rattle.std.specs.Option.{option_map}
use Rattle.page_layout.specs.Layout.{header_at}
use Rattle.geometry.specs.Numbers.{page_count, per_block}
use Rattle.image_model.specs.Live.{live_at}
use Rattle.flash_view.proofs.Looking.{looks_none, looks_then}
use Rattle.file_calls.proofs.Counting.{counting_start, counting_more, few_more}
use Rattle.file_calls.proofs.room.page_counts.Goals as goal

pub loop-page-init : goal.loop-page-init
unfolding page_count per_block
loop-page-init g c = record {
  looks = looks_none c.args.v.now;
  end = c.pages-page-end.ensures.count;
  few_heads = omega arith;
  few_index = omega arith;
  few_pages = omega arith;
  told = λ tells. counting_start c.args.v.now.geometry (g.N.NorState.bytes c.args.v.now.nor.now) c.pages-page-end.result _ c.pages-page-end.ensures.count refl refl refl;
}

pub loop-page-preserved : goal.loop-page-preserved
loop-page-preserved g c =
    let was = c.loop-page.invariant in
    let looked = c.in_ok-head.ensures in
    let more = few_more c.loop-page.counts c.in_ok-head.head in
    record {
      looks = looks_then was.looks looked.looks;
      end = was.end;
      few_heads = rw c.with_page-counts.ensures (omega (arith, more.0, was.few_heads));
      few_index = rw c.with_page-counts.ensures (omega (arith, more.1, was.few_index));
      few_pages = rw c.with_page-counts.ensures (omega (arith, more.2, was.few_pages));
      told = λ tells.
          let geometry = c.args.v.now.geometry in
          let image = g.N.NorState.bytes c.args.v.now.nor.now in
          let head : c.in_ok-head.head ≡ option_map header_at (live_at geometry image c.loop-page.page) = rw (was.looks.same.geometry, was.looks.reads.bytes) at (looked.told (was.looks.reads.told tells)) in
          rw (c.with_page-counts.ensures, head) (counting_more geometry image c.pages-page-end.result c.loop-page.page c.loop-page.counts c.loop-page-test.true (was.told tells));
    }
