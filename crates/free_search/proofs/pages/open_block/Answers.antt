use Rattle.std.proofs.Common.{◌≡◌, ◌≢◌, ℕ, arith, ◌&&◌, true, false, refl, zero-add, rules, ◌∙◌}
use Rattle.std.specs.Prelude.{Some}
use Rattle.flash_view.proofs.Looking.{looks_none, looks_then}
use Rattle.flash_view.proofs.Telling.{looked}
use Rattle.free_search.specs.Free.{may_choose, is_open_for, the_open_block}
use Rattle.free_search.proofs.Scans.{first_here, first_later}
use Rattle.free_search.proofs.Worn.{may_take, may_not}
use Rattle.free_search.proofs.Summed.{find_low, shut_block}
use Rattle.free_search.proofs.pages.open_block.Goals as goal
use Rattle.free_search.proofs.pages.open_block.Goals.{else-ne-via-then-ne+in_ok-is_open+else-branch, else-ne-via-else-ne}

pub loop-block-init : goal.loop-block-init
unfolding the_open_block
loop-block-init g c = record {
  looks = looks_none c.args.v.now;
  quick = λ counted. refl;
  end = c.blocks-block-end.ensures;
  told = λ tells frees.
      let test = λ (block : ℕ). may_choose c.args.not_in block && is_open_for c.args.v.now.geometry (g.N.NorState.bytes c.args.v.now.nor.now) c.args.kind block in
      let low = c.lowest-first.ensures in
      rw c.blocks-block-end.ensures (find_low test c.args.v.now.geometry.blocks c.lowest-first.result (low.most tells) (λ k less. shut_block c.args.not_in k _ (low.told tells k less)));
}

pub returns-then-branch-clause-looks : goal.returns-then-branch-clause-looks
returns-then-branch-clause-looks g c = looked (looks_then c.loop-block.invariant.looks c.in_ok-is_open.ensures.looks.only) (λ tells frees.
    let was = c.loop-block.invariant in
    let geometry = c.args.v.now.geometry in
    let image = g.N.NorState.bytes c.args.v.now.nor.now in
    let other : Some c.loop-block.block ≢ c.args.not_in = (let h = c.if-ne.ensures in search rules) in
    let told = rw (was.looks.same.geometry, was.looks.reads.bytes) at (c.in_ok-is_open.ensures.looks.told (was.looks.reads.told tells) (rw (was.looks.same.geometry, was.looks.reads.bytes) frees)) in
    let opened : is_open_for geometry image c.args.kind c.loop-block.block ≡ true = cc (told, c.if-branch.true) in
    first_here (λ block. may_choose c.args.not_in block && is_open_for geometry image c.args.kind block) 0 _ c.loop-block.block c.loop-block.block _ c.loop-block-test.true (was.told tells frees) (zero-add c.loop-block.block)
    (rw (may_take c.args.not_in c.loop-block.block other, opened) refl))

pub loop-block-preserved : goal.loop-block-preserved
loop-block-preserved g c =
    let was = c.loop-block.invariant in
    let geometry = c.args.v.now.geometry in
    let image = g.N.NorState.bytes c.args.v.now.nor.now in
    elim c.else-ne.branch [
      | else-ne-via-then-ne+in_ok-is_open+else-branch w ↦ record {
        looks = rw w.v-is (looks_then was.looks w.in_ok-is_open.ensures.looks.only);
        quick = λ counted. rw w.v-is ((w.in_ok-is_open.ensures.quick (was.looks.counted ∙ counted)).1 ∙ was.quick counted);
        end = was.end;
        told = λ tells frees.
            let other : Some c.loop-block.block ≢ c.args.not_in = (let h = w.if-ne.ensures in search rules) in
            let told = rw (was.looks.same.geometry, was.looks.reads.bytes) at (w.in_ok-is_open.ensures.looks.told (was.looks.reads.told tells) (rw (was.looks.same.geometry, was.looks.reads.bytes) frees)) in
            let shut : is_open_for geometry image c.args.kind c.loop-block.block ≡ false = cc (told, w.if-branch.false) in
            first_later (λ block. may_choose c.args.not_in block && is_open_for geometry image c.args.kind block) 0 _ c.loop-block.block c.loop-block.block _ c.loop-block-test.true (was.told tells frees) (zero-add c.loop-block.block)
            (rw (may_take c.args.not_in c.loop-block.block other, shut) refl);
      }
      | else-ne-via-else-ne w ↦ record {
        looks = rw w.v-is was.looks;
        quick = λ counted. rw w.v-is (was.quick counted);
        end = was.end;
        told = λ tells frees.
            first_later (λ block. may_choose c.args.not_in block && is_open_for geometry image c.args.kind block) 0 _ c.loop-block.block c.loop-block.block _ c.loop-block-test.true (was.told tells frees) (zero-add c.loop-block.block)
            (rw (may_not c.args.not_in c.loop-block.block (let h = w.if-ne.ensures in search rules)) refl);
      }
    ]
