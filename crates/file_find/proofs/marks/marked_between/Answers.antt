use Rattle.std.proofs.Common.{◌≡◌, ◌∙◌, ℕ, sym, refl, true, false}
use Rattle.image_model.specs.Tidy.{is_number}
use Rattle.file_find.specs.Marks.{marked_id, head_between}
use Rattle.flash_view.proofs.Finds.{find_here, find_later}
use Rattle.flash_view.proofs.Looking.{looks_then, looks_none}
use Rattle.file_find.proofs.marks.marked_between.Goals as goal

pub loop-page-init : goal.loop-page-init
unfolding head_between
loop-page-init g c = record { looks = looks_none c.args.v.now; work = refl; told = λ tells. refl }

pub returns-then-is_same-clause-told : goal.returns-then-is_same-clause-told
returns-then-is_same-clause-told g c = λ tells.
    let was = c.loop-page.invariant in
    let geo = c.args.v.now.geometry in
    let image = g.N.NorState.bytes c.args.v.now.nor.now in
    let turn : c.in_ok-marked_id.field-0 ≡ marked_id geo image c.loop-page.page = rw (was.looks.same.geometry, was.looks.reads.bytes) at (c.in_ok-marked_id.ensures.told (was.looks.reads.told tells)) in
    let passes : is_number (marked_id geo image c.loop-page.page) c.args.id ≡ true = rw turn at (sym c.is_same.ensures ∙ c.if-is_same.true) in
    find_here (λ (p : ℕ). is_number (marked_id geo image p) c.args.id) _ _ _ c.loop-page-test.true (was.told tells) passes

pub loop-page-preserved : goal.loop-page-preserved
loop-page-preserved g c =
    let was = c.loop-page.invariant in
    let looked = c.in_ok-marked_id.ensures in
    record {
      looks = looks_then was.looks looked.looks;
      work = looked.work ∙ was.work;
      told = λ tells.
          let geo = c.args.v.now.geometry in
          let image = g.N.NorState.bytes c.args.v.now.nor.now in
          let turn : c.in_ok-marked_id.field-0 ≡ marked_id geo image c.loop-page.page = rw (was.looks.same.geometry, was.looks.reads.bytes) at (looked.told (was.looks.reads.told tells)) in
          let fails : is_number (marked_id geo image c.loop-page.page) c.args.id ≡ false = rw turn at (sym c.is_same.ensures ∙ c.if-is_same.false) in
          find_later (λ (p : ℕ). is_number (marked_id geo image p) c.args.id) _ _ _ c.loop-page-test.true (was.told tells) fails;
    }
