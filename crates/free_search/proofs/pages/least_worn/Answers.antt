use Rattle.std.proofs.Common.{◌≡◌, rules, arith, ◌∙◌}
use Rattle.flash_view.proofs.Looking.{looks_then}
use Rattle.flash_view.proofs.Telling.{looked}
use Rattle.free_search.proofs.Worn.{worn_more, worn_over, worn_all}
use Rattle.free_search.proofs.pages.least_worn.Goals.{then-ne+in_ok-least, else-ne}
use Rattle.free_search.proofs.pages.least_worn.Goals as goal

pub loop-block-preserved : goal.loop-block-preserved
loop-block-preserved g c =
    let was = c.loop-block.invariant in
    let geometry = c.args.v.now.geometry in
    let image = g.N.NorState.bytes c.args.v.now.nor.now in
    elim c.if-ne.branch [
      | then-ne+in_ok-least w ↦ record {
        looks = rw w.v-is (looks_then was.looks w.in_ok-least.ensures.looks.only);
        quick = λ counted. rw w.v-is ((w.in_ok-least.ensures.quick (was.looks.counted ∙ counted)).1 ∙ was.quick counted);
        end = was.end;
        below = rw (w.least-is, ← was.looks.same.geometry) w.in_ok-least.ensures.below;
        told = λ tells frees. rw w.least-is (rw (rw (was.looks.same.geometry, was.looks.reads.bytes) at (w.in_ok-least.ensures.looks.told (was.looks.reads.told tells) (rw (was.looks.same.geometry, was.looks.reads.bytes) frees))) (worn_more geometry image c.args.not_in c.loop-block.block c.loop-block.least (let h = w.if-ne.ensures in search rules) (was.told tells frees)));
      }
      | else-ne w ↦ record {
        looks = rw w.v-is was.looks;
        quick = λ counted. rw w.v-is (was.quick counted);
        end = was.end;
        below = rw w.least-is was.below;
        told = λ tells frees. rw w.least-is (worn_over geometry image c.args.not_in c.loop-block.block c.loop-block.least (let h = w.if-ne.ensures in search rules) (was.told tells frees));
      }
    ]

pub returns-clause-looks : goal.returns-clause-looks
returns-clause-looks g c = looked c.loop-block.invariant.looks (λ tells frees.
    let was = c.loop-block.invariant in
    let geometry = c.args.v.now.geometry in
    let image = g.N.NorState.bytes c.args.v.now.nor.now in
    let end : c.loop-block.block ≡ geometry.blocks = omega (arith, was.end, c.loop-block-test.false, c.loop-block.auto.block-end) in
    let all = worn_all geometry image c.args.not_in c.loop-block.block c.loop-block.least end (was.told tells frees) in
    let found = c.map.ensures in
    search rules)
