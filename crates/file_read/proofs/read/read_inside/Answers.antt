use Rattle.std.proofs.Common.{◌≡◌, ◌+◌, ◌<◌, ◌≤◌, length, ℕ, arith, sym, ◌∙◌}
use Rattle.std.proofs.lemmas.Grind.{common_steps}
use Rattle.image_model.specs.Places.{IsImage}
use Rattle.flash_view.proofs.Looking.{looks_none, looks_then}
use Rattle.file_read.proofs.Pieces.{index_next, reads_none}
use Rattle.file_read.proofs.Going.{passed}
use Rattle.file_read.proofs.read.read_inside.Goals as goal

pub returns-in_err-index-clause-told : goal.returns-in_err-index-clause-told
returns-in_err-index-clause-told g c = λ tells f file inside first.
    let view = c.args.v.now in
    let image = g.N.NorState.bytes view.nor.now in
    let size = g.met.N.Nor.sized view.nor.now tells in
    let whole : IsImage view.geometry image = record { len = omega (arith, size, view.volume) } in
    let was = c.loop-done.invariant in
    let n = index_next view.geometry image c.args.id f c.args.at c.loop-done.done whole file (grind (arith, c.loop-done-test.true, was.size, inside)) in
    let told = (rw (was.looks.same.geometry, was.looks.reads.bytes, c.body-body.ensures) at c.in_err-index.ensures.told) (was.looks.reads.told tells) n.0 first n.1 in
    passed c.in_err-index.field-0.0 c.from_residual.result _ _ c.from_residual.ensures.0 c.from_residual.ensures.1 told

pub returns-in_err-done-clause-told : goal.returns-in_err-done-clause-told
returns-in_err-done-clause-told g c = λ tells f file inside first.
    let view = c.args.v.now in
    let image = g.N.NorState.bytes view.nor.now in
    let size = g.met.N.Nor.sized view.nor.now tells in
    let whole : IsImage view.geometry image = record { len = omega (arith, size, view.volume) } in
    let was = c.loop-done.invariant in
    let n = index_next view.geometry image c.args.id f c.args.at c.loop-done.done whole file (grind (arith, c.loop-done-test.true, was.size, inside)) in
    let looks = looks_then was.looks c.in_ok-index.ensures.looks in
    let same = (rw (was.looks.same.geometry, was.looks.reads.bytes, c.body-body.ensures) at c.in_ok-index.ensures.told) (was.looks.reads.told tells) n.0 first n.1 in
    let told = (rw (looks.same.geometry, looks.reads.bytes) at c.in_err-done.ensures.told) (looks.reads.told tells) f (was.read tells f file inside first) (rw same n.1) in
    passed c.in_err-done.field-0.0 c.from_residual-in_err-done.result _ _ c.from_residual-in_err-done.ensures.0 c.from_residual-in_err-done.ensures.1 told

pub loop-done-preserved : goal.loop-done-preserved
loop-done-preserved g c =
    let was = c.loop-done.invariant in
    let looks = looks_then was.looks c.in_ok-index.ensures.looks in
    let named = c.in_ok-done.ensures in
    record {
      looks = looks_then looks named.looks;
      size = grind (arith, common_steps, was.size);
      some = grind (arith, common_steps, named.more);
      read = λ tells f file inside first.
          let view = c.args.v.now in
          let image = g.N.NorState.bytes view.nor.now in
          let size = g.met.N.Nor.sized view.nor.now tells in
          let whole : IsImage view.geometry image = record { len = omega (arith, size, view.volume) } in
          let n = index_next view.geometry image c.args.id f c.args.at c.loop-done.done whole file (grind (arith, c.loop-done-test.true, was.size, inside)) in
          let same = (rw (was.looks.same.geometry, was.looks.reads.bytes, c.body-body.ensures) at c.in_ok-index.ensures.told) (was.looks.reads.told tells) n.0 first n.1 in
          (rw (looks.same.geometry, looks.reads.bytes) at named.told) (looks.reads.told tells) f (was.read tells f file inside first) (rw same n.1);
    }
