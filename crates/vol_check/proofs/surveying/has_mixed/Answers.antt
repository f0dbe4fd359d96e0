use Rattle.std.proofs.Common.{◌≡◌, ◌<◌, ◌≤◌, false, ⊎_elim, arith}
use Rattle.std.proofs.lemmas.Bool.{cases_lt}
use Rattle.image_model.specs.Kinds.{is_mixed}
use Rattle.flash_view.proofs.Looking.{looks_none, looks_then}
use Rattle.vol_check.proofs.TallySums.{unmixed_all}
use Rattle.vol_check.proofs.surveying.has_mixed.Goals as goal

pub loop-block-init : goal.loop-block-init
loop-block-init g c = record { looks = looks_none c.args.v.now; end = c.blocks-block-end.ensures; told = λ tells b low. absurd (omega (arith, low)) }

pub loop-block-preserved : goal.loop-block-preserved
loop-block-preserved g c =
    let was = c.loop-block.invariant in
    let looked = c.in_ok-is_mixed.ensures in
    record {
      looks = looks_then was.looks looked.looks;
      end = was.end;
      told = λ tells b low.
          let geometry = c.args.v.now.geometry in
          let image = g.N.NorState.bytes c.args.v.now.nor.now in
          let fails : is_mixed geometry image c.loop-block.block ≡ false = cc (looked.told (was.looks.reads.told tells), was.looks.reads.bytes, was.looks.same.geometry, c.if-branch.false) in
          ⊎_elim
          (λ (early : b < c.loop-block.block). was.told tells b early)
          (λ (here : c.loop-block.block ≤ b). let same : b ≡ c.loop-block.block = omega (arith, low, here) in rw same fails)
          (cases_lt b c.loop-block.block);
    }

pub returns-clause-told : goal.returns-clause-told
returns-clause-told g c = λ tells none.
    let was = c.loop-block.invariant in
    unmixed_all _ _ (λ b low. was.told tells b (omega (arith, low, was.end, c.loop-block-test.false)))
