use Rattle.std.proofs.Common.{◌≡◌, ◌+◌, ◌*◌, ◌<◌, true, refl, arith}
use Rattle.geometry.specs.Numbers.{per_block, lookups, entries}
use Rattle.image_model.specs.Places.{has_magic, block_of}
use Rattle.image_model.specs.Within.{entry_in}
use Rattle.flash_view.proofs.Looking.{looks_none, looks_then}
use Rattle.vol_check.specs.Used.{IsUse}
use Rattle.vol_check.proofs.UseSums.{uses_start, uses_on, few_on}
use Rattle.vol_check.proofs.uses.block_uses.Goals as goal

pub loop-i-init : goal.loop-i-init
unfolding per_block lookups entries
loop-i-init g c = record {
  looks = looks_none c.args.v.now;
  geometry = refl;
  end = c.entries-i-end.ensures.count;
  few = rw c.no_use-all.ensures (record { index = omega arith; pages = omega arith; free = omega arith });
  told = λ tells owns magic marked. rw c.no_use-all.ensures (uses_start c.args.v.now.geometry (g.N.NorState.bytes c.args.v.now.nor.now) c.args.block);
}

pub loop-i-preserved : goal.loop-i-preserved
loop-i-preserved g c =
    let was = c.loop-i.invariant in
    let turn = c.in_ok-one.ensures in
    let geometry = c.args.v.now.geometry in
    let image = g.N.NorState.bytes c.args.v.now.nor.now in
    record {
      looks = looks_then was.looks turn.looks;
      geometry = refl;
      end = was.end;
      few = rw c.both-all.ensures (few_on c.loop-i.i c.loop-i.all c.in_ok-one.one was.few turn.few);
      told = λ tells owns magic marked.
          let low : c.loop-i.i < entries geometry = omega (arith, was.end, c.loop-i-test.true) in
          let mark = marked c.entry_page-page.result c.entry_page-page.ensures.entry.below in
          let here : block_of geometry c.entry_page-page.result ≡ c.args.block = rw c.entry_page-page.ensures.place (entry_in geometry c.args.block (c.args.block * per_block geometry + lookups geometry + c.loop-i.i) c.requires.block (omega arith) (omega (arith, low))).0 in
          let has : has_magic geometry image (block_of geometry c.entry_page-page.result) ≡ true = rw here magic in
          let read = rw (was.looks.same.geometry, was.looks.reads.bytes) at (turn.told (was.looks.reads.told tells)) in
          let one : IsUse geometry image c.entry_page-page.result c.in_ok-one.one = read owns has (rw c.from.ensures mark) in
          rw c.both-all.ensures (uses_on geometry image c.args.block c.loop-i.i c.entry_page-page.result c.loop-i.all c.in_ok-one.one low c.entry_page-page.ensures.place (was.told tells owns magic marked) one);
    }
