use Rattle.std.proofs.Common.{◌≡◌, ◌+◌, ◌*◌, ◌/◌, ◌<◌, ap, sym, ◌∙◌, subst, length, refl, arith}
use Rattle.geometry.specs.Numbers.{per_block, lookups}
use Rattle.geometry.proofs.Bounds.{few_entries, few_in_block}
use Rattle.image_model.specs.Places.{has_magic, block_of}
use Rattle.flash_view.specs.Counts.{one_more}
use Rattle.flash_view.proofs.Looking.{looks_none, looks_then}
use Rattle.flash_view.proofs.Telling.{looked, failed}
use Rattle.flash_view.proofs.Walking.{found_block}
use Rattle.free_search.specs.Counted.{IsCountedTo}
use Rattle.free_search.proofs.Counting.{counted_on, slot_told, slot_word, total_more}
use Rattle.free_search.proofs.blocks.count_slots.Goals as goal

pub loop-i-init : goal.loop-i-init
loop-i-init g c = record {
  end = refl;
  most = omega arith;
  looks = looks_none c.args.v.now;
  few = omega (arith, c.requires.total);
  told = λ tells has slots was. subst (λ n. IsCountedTo c.args.v.now.geometry (g.N.NorState.bytes c.args.v.now.nor.now) c.args.block n c.args.counted) (omega arith) was;
}

pub loop-i-preserved : goal.loop-i-preserved
loop-i-preserved g c =
    let was = c.loop-i.invariant in
    let view = c.args.v.now in
    let geometry = view.geometry in
    let image = g.N.NorState.bytes view.nor.now in
    let bytes = c.args.bytes.now in
    let sort = c.in_ok-sort.ensures in
    let below : c.loop-i.i < length bytes / 2 = omega (arith, was.end, c.loop-i-test.true) in
    record {
      end = was.end;
      most = omega (arith, below);
      looks = looks_then was.looks sort.looks;
      few = rw c.with_one-counts.ensures (omega (arith, total_more c.loop-i.counts c.in_ok-sort.sort, was.few));
      told = λ tells has slots start.
          let place : c.entry_page-page.result ≡ c.args.block * per_block geometry + lookups geometry + (c.args.start + c.loop-i.i) = rw was.looks.same.geometry at c.entry_page-page.ensures.place in
          let entry = slot_told geometry image bytes c.args.block c.args.start (length bytes / 2) c.loop-i.i c.entry_page-page.result c.read_word.result slots c.requires.few below place c.read_word.ensures in
          let here : c.args.block ≡ block_of geometry c.entry_page-page.result = found_block geometry c.args.block (c.args.start + c.loop-i.i) c.entry_page-page.result (omega (arith, c.requires.few, below)) place in
          let magic : c.args.has ≡ has_magic geometry image (block_of geometry c.entry_page-page.result) = has ∙ ap (has_magic geometry image) here in
          let told = (rw (was.looks.same.geometry, was.looks.reads.bytes) at (sort.told (was.looks.reads.told tells))) magic entry in
          let next = counted_on geometry image c.args.block (c.args.start + c.loop-i.i) c.entry_page-page.result c.loop-i.counts c.in_ok-sort.sort (omega (arith, c.requires.few, below)) place told (slot_word geometry image bytes c.args.block c.args.start (length bytes / 2) c.loop-i.i slots below) (was.told tells has slots start) in
          rw c.with_one-counts.ensures (subst (λ n. IsCountedTo geometry image c.args.block n (one_more c.loop-i.counts c.in_ok-sort.sort)) (omega arith) next);
    }

pub overflow_add-start : goal.overflow_add-start
overflow_add-start g c = omega (arith, c.loop-i.invariant.end, c.loop-i-test.true, c.requires.few, few_entries c.args.v.now.geometry, few_in_block c.args.v.now.geometry)

pub overflow_cast-i : goal.overflow_cast-i
overflow_cast-i g c = omega (arith, c.loop-i.invariant.end, c.loop-i-test.true, c.requires.few, few_entries c.args.v.now.geometry, few_in_block c.args.v.now.geometry)

pub with_one-counts-requires : goal.with_one-counts-requires
with_one-counts-requires g c = omega (arith, c.loop-i.invariant.end, c.loop-i.invariant.few, c.loop-i-test.true, c.requires.few, few_entries c.args.v.now.geometry, few_in_block c.args.v.now.geometry)

pub returns-in_err-sort-clause-looks : goal.returns-in_err-sort-clause-looks
returns-in_err-sort-clause-looks g c = failed c.loop-i.invariant.looks c.in_err-sort.ensures.looks c.in_err-sort.ensures.cause c.from_residual.ensures.0

pub returns-clause-looks : goal.returns-clause-looks
returns-clause-looks g c = looked c.loop-i.invariant.looks (λ tells has slots start.
    let was = c.loop-i.invariant in
    let all : c.loop-i.i ≡ length c.args.bytes.now / 2 = omega (arith, was.end, was.most, c.loop-i-test.false) in
    subst (λ n. IsCountedTo c.args.v.now.geometry (g.N.NorState.bytes c.args.v.now.nor.now) c.args.block (c.args.start + n) c.loop-i.counts) all (was.told tells has slots start))

pub returns-clause-total : goal.returns-clause-total
returns-clause-total g c = omega (arith, c.loop-i.invariant.few, c.loop-i.invariant.most)
