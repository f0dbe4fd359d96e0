use Rattle.std.proofs.Common.{ℕ, ◌≡◌, ◌+◌, true, false, sym, ◌∙◌, arith}
use Rattle.std.specs.Prelude.{None}
use Rattle.std.proofs.lemmas.Bool.{eq-eqb}
use Rattle.image_model.specs.Live.{live_at, own}
use Rattle.image_model.specs.Files.{is_index}
use Rattle.flash_view.specs.Walk.{IsNextLive, NextLive}
use Rattle.flash_view.proofs.Looking.{looks_then}
use Rattle.flash_view.proofs.Passed.{passed_index, found_index, no_index, differ}
use Rattle.flash_view.proofs.Near.{between_here, between_none, from_to, from_and}
use Rattle.flash_view.proofs.view.View.span_between.Goals as goal

pub returns-then-id-ge-INDEX_BIT-clause-told : goal.returns-then-id-ge-INDEX_BIT-clause-told
returns-then-id-ge-INDEX_BIT-clause-told g c = λ tells within.
    let view = c.args.self.now in
    let image = g.N.NorState.bytes view.nor.now in
    between_none view.geometry (own (live_at view.geometry image) c.args.id) c.args.span c.args.from c.args.to (λ q after before. no_index view.geometry image c.args.id c.args.span q c.if-id-ge-INDEX_BIT.true)

pub returns-then-from-to-clause-told : goal.returns-then-from-to-clause-told
returns-then-from-to-clause-told g c = λ tells within.
    let was = c.pages.invariant in
    let found = c.in_ok-page.ensures in
    let view = c.args.self.now in
    let image = g.N.NorState.bytes view.nor.now in
    let next : IsNextLive view.geometry image c.pages.at (0x8000 + c.args.id) (0x8000 + c.args.id) c.in-Some.page c.in-Some.head = rw (was.looks.same.geometry, was.looks.reads.bytes, c.in-Some.is) at (found.told (was.looks.reads.told tells)) in
    between_none view.geometry (own (live_at view.geometry image) c.args.id) c.args.span c.args.from c.args.to
    (λ q after before. from_to (λ p. is_index (own (live_at view.geometry image) c.args.id p) c.args.span ≡ false) c.args.from c.pages.at c.in-Some.page (was.told tells) (λ q after before. passed_index view.geometry image c.args.id c.args.span q (next.passed q after before)) q after (omega (arith, before, c.if-from-to.true, c.from.ensures)))

pub returns-then-from-span-clause-told : goal.returns-then-from-span-clause-told
returns-then-from-span-clause-told g c = λ tells within.
    let was = c.pages.invariant in
    let found = c.in_ok-page.ensures in
    let view = c.args.self.now in
    let image = g.N.NorState.bytes view.nor.now in
    let next : IsNextLive view.geometry image c.pages.at (0x8000 + c.args.id) (0x8000 + c.args.id) c.in-Some.page c.in-Some.head = rw (was.looks.same.geometry, was.looks.reads.bytes, c.in-Some.is) at (found.told (was.looks.reads.told tells)) in
    let inside = rw (c.in-Some.is, was.looks.same.geometry) at found.inside in
    let is : is_index (own (live_at view.geometry image) c.args.id c.in-Some.page) c.args.span ≡ true = found_index view.geometry image c.args.id c.args.span c.pages.at c.in-Some.page c.in-Some.head (omega (arith, c.if-id-ge-INDEX_BIT.false)) next ∙ eq-eqb _ _ (sym c.from-in-Some.ensures ∙ c.if-from-span.true) in
    between_here view.geometry (own (live_at view.geometry image) c.args.id) c.args.span c.args.from c.args.to c.in-Some.page (omega (arith, was.low, inside.0)) (omega (arith, c.if-from-to.false, c.from.ensures)) is
    (from_to (λ p. is_index (own (live_at view.geometry image) c.args.id p) c.args.span ≡ false) c.args.from c.pages.at c.in-Some.page (was.told tells) (λ q after before. passed_index view.geometry image c.args.id c.args.span q (next.passed q after before)))

pub pages-smaller : goal.pages-smaller
pages-smaller g c =
    let inside = rw (c.in-Some.is, c.pages.invariant.looks.same.geometry) at c.in_ok-page.ensures.inside in
    omega (arith, inside.0, inside.1.below, c.from-at.ensures)

pub pages-preserved : goal.pages-preserved
pages-preserved g c =
    let was = c.pages.invariant in
    let found = c.in_ok-page.ensures in
    let inside = rw (c.in-Some.is, was.looks.same.geometry) at found.inside in
    record {
      looks = looks_then was.looks found.looks;
      work = found.work ∙ was.work;
      low = omega (arith, was.low, inside.0, c.from-at.ensures);
      told = λ tells.
          let view = c.args.self.now in
          let image = g.N.NorState.bytes view.nor.now in
          let next : IsNextLive view.geometry image c.pages.at (0x8000 + c.args.id) (0x8000 + c.args.id) c.in-Some.page c.in-Some.head = rw (was.looks.same.geometry, was.looks.reads.bytes, c.in-Some.is) at (found.told (was.looks.reads.told tells)) in
          let isnt : is_index (own (live_at view.geometry image) c.args.id c.in-Some.page) c.args.span ≡ false = found_index view.geometry image c.args.id c.args.span c.pages.at c.in-Some.page c.in-Some.head (omega (arith, c.if-id-ge-INDEX_BIT.false)) next ∙ differ _ _ (λ same. c.if-from-span.false (c.from-in-Some.ensures ∙ same)) in
          let isnt_at = λ (p : ℕ). is_index (own (live_at view.geometry image) c.args.id p) c.args.span ≡ false in
          from_and isnt_at c.args.from c.in-Some.page _ (omega (arith, c.from-at.ensures)) (from_to isnt_at c.args.from c.pages.at c.in-Some.page (was.told tells) (λ q after before. passed_index view.geometry image c.args.id c.args.span q (next.passed q after before))) isnt;
    }

pub returns-clause-told : goal.returns-clause-told
returns-clause-told g c = λ tells within.
    let was = c.pages.invariant in
    let view = c.args.self.now in
    let image = g.N.NorState.bytes view.nor.now in
    let last : NextLive view.geometry image c.pages.at (0x8000 + c.args.id) (0x8000 + c.args.id) None = rw (was.looks.same.geometry, was.looks.reads.bytes, c.in_default.is) at (c.in_ok-page.ensures.told (was.looks.reads.told tells)) in
    between_none view.geometry (own (live_at view.geometry image) c.args.id) c.args.span c.args.from c.args.to
    (from_to (λ p. is_index (own (live_at view.geometry image) c.args.id p) c.args.span ≡ false) c.args.from c.pages.at c.args.to (was.told tells) (λ q after before. passed_index view.geometry image c.args.id c.args.span q (last q after (omega (arith, before, within)))))
