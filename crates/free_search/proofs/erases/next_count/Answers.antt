use Rattle.std.proofs.Common.{◌+◌, ℕ, refl, ◌∙◌}
use Rattle.image_model.specs.Places.{has_magic, erase_count, next_count}
use Rattle.flash_view.proofs.Looking.{looks_then}
use Rattle.flash_view.proofs.Telling.{looked}
use Rattle.free_search.proofs.Greatest.{greatest_more, greatest_end}
use Rattle.free_search.proofs.erases.next_count.Goals as goal

pub loop-block-preserved : goal.loop-block-preserved
loop-block-preserved g c =
    let was = c.loop-block.invariant in
    let here = c.in_ok-behind.ensures in
    record {
      looks = looks_then was.looks here.looks.only;
      quick = λ counted. (here.quick (was.looks.counted ∙ counted)).1 ∙ was.quick counted;
      end = was.end;
      told = λ tells.
          let geometry = c.args.v.now.geometry in
          let image = g.N.NorState.bytes c.args.v.now.nor.now in
          let turn = rw (was.looks.same.geometry, was.looks.reads.bytes) at (here.looks.told (was.looks.reads.told tells)) in
          greatest_more (λ (b : ℕ). has_magic geometry image b) (λ (b : ℕ). erase_count geometry image b + 1) c.loop-block.next c.loop-block.block _ _ (was.told tells) _ _ c.loop-block-test.true turn c.max-next.ensures;
    }

pub returns-clause-looks : goal.returns-clause-looks
unfolding next_count
returns-clause-looks g c = looked c.loop-block.invariant.looks (λ tells.
    let was = c.loop-block.invariant in
    let geometry = c.args.v.now.geometry in
    let image = g.N.NorState.bytes c.args.v.now.nor.now in
    let all = greatest_end (λ (b : ℕ). has_magic geometry image b) (λ (b : ℕ). erase_count geometry image b + 1) c.loop-block.next c.loop-block.block _ _ (was.told tells) c.loop-block-test.false in
    rw all refl)
