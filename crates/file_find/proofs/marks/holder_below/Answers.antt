use Rattle.std.proofs.Common.{◌≡◌, ◌∙◌, sym, Some, None, refl, arith}
use Rattle.std.proofs.Math.Nat.{sub-zero}
use Rattle.file_find.specs.Marks.{holder_at, holder_below}
use Rattle.flash_view.proofs.Finds.{first_here, first_later}
use Rattle.flash_view.proofs.Looking.{looks_none, looks_then, built_then}
use Rattle.file_find.proofs.Scanning.{first_skip, first_ended, unheld}
use Rattle.file_find.proofs.marks.holder_below.Goals as goal

pub pages-init : goal.pages-init
unfolding holder_below
pages-init g c = record { most = omega arith; looks = looks_none c.args.v.now; built = refl; told = λ tells marked. rw (sub-zero c.args.end) refl }

pub returns-in-Some-2-clause-told : goal.returns-in-Some-2-clause-told
returns-in-Some-2-clause-told g c = λ tells marked.
    let was = c.pages.invariant in
    let view = c.args.v.now in
    let image = g.N.NorState.bytes view.nor.now in
    let next = c.in-Some.ensures in
    let turn : c.in_ok-id.field-0 ≡ holder_at view.geometry image c.args.name.now c.in-Some.page =
    (rw (was.looks.same.geometry, was.looks.reads.bytes) at (c.in_ok-id.ensures.told (was.looks.reads.told tells))) (marked.each c.in-Some.page next.below) in
    let has : holder_at view.geometry image c.args.name.now c.in-Some.page ≡ Some c.in-Some-2.id = sym turn ∙ c.in-Some-2.is in
    first_here (holder_at view.geometry image c.args.name.now) _ _ _ _ next.below
    (first_skip (holder_at view.geometry image c.args.name.now) c.pages.at c.in-Some.page c.args.end _ next.low (omega (arith, next.below))
    (λ k low less. unheld view.geometry image c.args.marks.now c.args.name.now c.name_mark-sought.result c.args.end k marked c.name_mark-sought.ensures (omega (arith, less, next.below)) (next.passed k low less))
    (was.told tells marked)) has

pub pages-preserved : goal.pages-preserved
pages-preserved g c =
    let was = c.pages.invariant in
    let looked = c.in_ok-id.ensures in
    let next = c.in-Some.ensures in
    record {
      most = omega (arith, next.below);
      looks = looks_then was.looks looked.looks;
      built = built_then was.looks was.built _ looked.built;
      told = λ tells marked.
          let view = c.args.v.now in
          let image = g.N.NorState.bytes view.nor.now in
          let turn : c.in_ok-id.field-0 ≡ holder_at view.geometry image c.args.name.now c.in-Some.page =
          (rw (was.looks.same.geometry, was.looks.reads.bytes) at (looked.told (was.looks.reads.told tells))) (marked.each c.in-Some.page next.below) in
          let has : holder_at view.geometry image c.args.name.now c.in-Some.page ≡ None = sym turn ∙ c.in_default-2.is in
          first_later (holder_at view.geometry image c.args.name.now) _ _ _ next.below
          (first_skip (holder_at view.geometry image c.args.name.now) c.pages.at c.in-Some.page c.args.end _ next.low (omega (arith, next.below))
          (λ k low less. unheld view.geometry image c.args.marks.now c.args.name.now c.name_mark-sought.result c.args.end k marked c.name_mark-sought.ensures (omega (arith, less, next.below)) (next.passed k low less))
          (was.told tells marked)) has;
    }

pub returns-clause-told : goal.returns-clause-told
returns-clause-told g c = λ tells marked.
    let was = c.pages.invariant in
    let view = c.args.v.now in
    let image = g.N.NorState.bytes view.nor.now in
    first_ended (holder_at view.geometry image c.args.name.now) c.pages.at c.args.end _ was.most
    (λ k low less. unheld view.geometry image c.args.marks.now c.args.name.now c.name_mark-sought.result c.args.end k marked c.name_mark-sought.ensures less (c.in_default.ensures k low less))
    (was.told tells marked)
