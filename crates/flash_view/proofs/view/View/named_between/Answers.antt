use Rattle.std.proofs.Common.{◌≡◌, ◌==◌, ◌&&◌, ◌⊎◌, inl, inr, ⊎_elim, Bool, true, false, refl, sym, ◌∙◌, ap, ℕ, List, arith}
use Rattle.std.proofs.lemmas.Bool.{eq-eqb, eqb-true}
use Rattle.std.specs.Prelude.{None}
use Rattle.image_model.specs.Live.{live_at}
use Rattle.image_model.specs.Headers.{name_of}
use Rattle.image_model.specs.Places.{page_of}
use Rattle.flash_view.specs.Found.{named_at, is_name}
use Rattle.flash_view.specs.Walk.{IsNextLive, NextLive}
use Rattle.flash_view.proofs.Looking.{looks_then}
use Rattle.flash_view.proofs.Passed.{passed_named, found_named, found_other, found_unnamed}
use Rattle.flash_view.proofs.Near.{named_here, named_none, from_to, from_and}
use Rattle.flash_view.proofs.view.View.named_between.Goals as goal

pub returns-clause-told : goal.returns-clause-told
returns-clause-told g c = λ tells within.
    let was = c.pages.invariant in
    let view = c.args.self.now in
    let image = g.N.NorState.bytes view.nor.now in
    let last : NextLive view.geometry image c.pages.at 0x8000 0xFFFE None = rw (was.looks.same.geometry, was.looks.reads.bytes, c.in_default.is) at (c.in_ok-page.ensures.told (was.looks.reads.told tells)) in
    named_none view.geometry image c.args.name.now c.args.from c.args.to
    (from_to (λ q. named_at (live_at view.geometry image q) c.args.name.now ≡ None) c.args.from c.pages.at c.args.to (was.told tells) (λ q after before. passed_named view.geometry image q c.args.name.now (last q after (omega (arith, before, within)))))

pub returns-then-from-to-clause-told : goal.returns-then-from-to-clause-told
returns-then-from-to-clause-told g c = λ tells within.
    let was = c.pages.invariant in
    let found = c.in_ok-page.ensures in
    let view = c.args.self.now in
    let image = g.N.NorState.bytes view.nor.now in
    let next : IsNextLive view.geometry image c.pages.at 0x8000 0xFFFE c.in-Some.page c.in-Some.head = rw (was.looks.same.geometry, was.looks.reads.bytes, c.in-Some.is) at (found.told (was.looks.reads.told tells)) in
    named_none view.geometry image c.args.name.now c.args.from c.args.to
    (λ q after before. from_to (λ q. named_at (live_at view.geometry image q) c.args.name.now ≡ None) c.args.from c.pages.at c.in-Some.page (was.told tells) (λ q after before. passed_named view.geometry image q c.args.name.now (next.passed q after before)) q after (omega (arith, before, c.if-from-to.true, c.from.ensures)))

pub pages-smaller : goal.pages-smaller
pages-smaller g c =
    let inside = rw (c.in-Some.is, c.pages.invariant.looks.same.geometry) at c.in_ok-page.ensures.inside in
    omega (arith, inside.0, inside.1.below, c.from-at.ensures)

both_true : (a b : Bool) → (a && b) ≡ true → (a ≡ true) × (b ≡ true)
both_true true true e = (refl, refl)
both_true true false e = absurd (cc)
both_true false b e = absurd (cc)

one_false : (a b : Bool) → (a && b) ≡ false → (a ≡ false) ⊎ (b ≡ false)
one_false true b e = inr e
one_false false b e = inl refl

pub returns-then-has-clause-told : goal.returns-then-has-clause-told
returns-then-has-clause-told g c = λ tells within.
    let was = c.pages.invariant in
    let found = c.in_ok-page.ensures in
    let view = c.args.self.now in
    let image = g.N.NorState.bytes view.nor.now in
    let tells_on = found.looks.reads.told (was.looks.reads.told tells) in
    let next : IsNextLive view.geometry image c.pages.at 0x8000 0xFFFE c.in-Some.page c.in-Some.head = rw (was.looks.same.geometry, was.looks.reads.bytes, c.in-Some.is) at (found.told (was.looks.reads.told tells)) in
    let inside = rw (c.in-Some.is, was.looks.same.geometry) at found.inside in
    let told : c.in_ok-has.has ≡ ((c.in-Some.head.span == 0) && is_name (name_of (page_of view.geometry image c.in-Some.page)) c.args.name.now) = rw (found.looks.same.geometry, was.looks.same.geometry, found.looks.reads.bytes, was.looks.reads.bytes) at (c.in_ok-has.ensures.told tells_on) in
    let both = both_true (c.in-Some.head.span == 0) (is_name (name_of (page_of view.geometry image c.in-Some.page)) c.args.name.now) (sym told ∙ c.if-has.true) in
    named_here view.geometry image c.args.name.now c.args.from c.args.to c.in-Some.page c.object.result (omega (arith, was.low, inside.0)) (omega (arith, c.if-from-to.false, c.from.ensures))
    (rw c.object.ensures (found_named view.geometry image c.pages.at c.in-Some.page c.in-Some.head c.args.name.now next (eqb-true _ _ both.0) both.1))
    (from_to (λ q. named_at (live_at view.geometry image q) c.args.name.now ≡ None) c.args.from c.pages.at c.in-Some.page (was.told tells) (λ q after before. passed_named view.geometry image q c.args.name.now (next.passed q after before)))

pub pages-preserved : goal.pages-preserved
pages-preserved g c =
    let was = c.pages.invariant in
    let found = c.in_ok-page.ensures in
    let named = c.in_ok-has.ensures in
    let inside = rw (c.in-Some.is, was.looks.same.geometry) at found.inside in
    record {
      looks = looks_then (looks_then was.looks found.looks) named.looks;
      work = named.work ∙ found.work ∙ was.work;
      low = omega (arith, was.low, inside.0, c.from-at.ensures);
      told = λ tells.
          let view = c.args.self.now in
          let image = g.N.NorState.bytes view.nor.now in
          let name = c.args.name.now in
          let tells_on = found.looks.reads.told (was.looks.reads.told tells) in
          let next : IsNextLive view.geometry image c.pages.at 0x8000 0xFFFE c.in-Some.page c.in-Some.head = rw (was.looks.same.geometry, was.looks.reads.bytes, c.in-Some.is) at (found.told (was.looks.reads.told tells)) in
          let told : c.in_ok-has.has ≡ ((c.in-Some.head.span == 0) && is_name (name_of (page_of view.geometry image c.in-Some.page)) name) = rw (found.looks.same.geometry, was.looks.same.geometry, found.looks.reads.bytes, was.looks.reads.bytes) at (named.told tells_on) in
          let isnt : named_at (live_at view.geometry image c.in-Some.page) name ≡ None =
          ⊎_elim (λ other. found_other view.geometry image c.pages.at c.in-Some.page c.in-Some.head name next (λ e. let bad : true ≡ false = sym (eq-eqb _ _ e) ∙ other in absurd (cc))) (λ unnamed. found_unnamed view.geometry image c.pages.at c.in-Some.page c.in-Some.head name next unnamed)
          (one_false (c.in-Some.head.span == 0) (is_name (name_of (page_of view.geometry image c.in-Some.page)) name) (sym told ∙ c.if-has.false)) in
          let unnamed = λ (q : ℕ). named_at (live_at view.geometry image q) name ≡ None in
          from_and unnamed c.args.from c.in-Some.page _ (omega (arith, c.from-at.ensures)) (from_to unnamed c.args.from c.pages.at c.in-Some.page (was.told tells) (λ q after before. passed_named view.geometry image q name (next.passed q after before))) isnt;
    }
