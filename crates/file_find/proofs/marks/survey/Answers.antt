use Rattle.std.proofs.Common.{◌≡◌, ◌+◌, ◌∙◌, ◌<◌, ℕ, arith, refl, None, ap, take, slice_index, List}
use Rattle.geometry.specs.Numbers.{page_count}
use Rattle.flash_view.specs.Walk.{IsNextLive, NextLive}
use Rattle.flash_view.proofs.Looking.{looks_then, looks_none, built_then}
use Rattle.flash_view.proofs.Passed.{passed_head}
use Rattle.file_find.proofs.Bits.{none_set}
use Rattle.file_find.proofs.Naming.{names_start, names_skip}
use Rattle.file_find.proofs.Noting.{surveyed_none, surveyed_skip, surveyed_all, found_told}
use Rattle.file_find.proofs.marks.survey.Goals as goal

pub heads-init : goal.heads-init
heads-init g c =
    let view = c.args.v.now in
    let zeros : (k : ℕ) → k < page_count view.geometry + 8192 → slice_index c.clear.new.marks k ≡ 0 = rw c.pages.ensures.count at c.clear.ensures in
    record {
      most = omega arith;
      looks = looks_none view;
      built = refl;
      zeros = λ p after before. zeros p (omega (arith, before));
      told = λ tells. surveyed_none view.geometry (g.N.NorState.bytes view.nor.now) c.clear.new.marks (none_set c.clear.new.marks (page_count view.geometry) (λ k after before. zeros k (omega (arith, before))));
      named = λ tells. names_start view.geometry (g.N.NorState.bytes view.nor.now) c.clear.new.marks;
    }

pub heads-smaller : goal.heads-smaller
heads-smaller g c =
    let inside = rw (c.in-Some.is, c.heads.invariant.looks.same.geometry) at c.in_ok-page.ensures.inside in
    omega (arith, inside.0, inside.1.below, c.from-at.ensures)

pub heads-preserved : goal.heads-preserved
heads-preserved g c =
    let was = c.heads.invariant in
    let found = c.in_ok-page.ensures in
    let inside = rw (c.in-Some.is, was.looks.same.geometry) at found.inside in
    let turn = c.in_ok-mark_page.ensures in
    let looked = looks_then was.looks found.looks in
    record {
      most = omega (arith, inside.1.below, c.from-at.ensures);
      looks = looks_then looked turn.looks;
      built = built_then looked (ap (λ (w : List ℕ). take c.args.v.now.geometry.page w) found.work ∙ was.built) _ turn.built;
      zeros = λ p after before. rw looked.same.geometry at (turn.behind p (omega (arith, after, c.from-at.ensures))) before ∙ was.zeros p (omega (arith, after, inside.0, c.from-at.ensures)) before;
      told = λ tells.
          let geo = c.args.v.now.geometry in
          let image = g.N.NorState.bytes c.args.v.now.nor.now in
          let next : IsNextLive geo image c.heads.at 0x8000 0xFFFE c.in-Some.page c.in-Some.head = rw (was.looks.same.geometry, was.looks.reads.bytes, c.in-Some.is) at (found.told (was.looks.reads.told tells)) in
          let marked = rw (looked.same.geometry, looked.reads.bytes) at (turn.told (looked.reads.told tells)) in
          let to = surveyed_skip geo image c.heads.marks c.heads.at c.in-Some.page inside.0 (omega (arith, inside.1.below)) (λ q after before. passed_head geo image q (next.passed q after before)) was.zeros (was.told tells) in
          let named = names_skip geo image c.heads.marks c.heads.at c.in-Some.page (λ q after before. passed_head geo image q (next.passed q after before)) (was.named tells) in
          rw c.from-at.ensures (marked (c.headed.ensures ∙ found_told geo image c.heads.at c.in-Some.page c.in-Some.head next) to named);
      named = λ tells.
          let geo = c.args.v.now.geometry in
          let image = g.N.NorState.bytes c.args.v.now.nor.now in
          let next : IsNextLive geo image c.heads.at 0x8000 0xFFFE c.in-Some.page c.in-Some.head = rw (was.looks.same.geometry, was.looks.reads.bytes, c.in-Some.is) at (found.told (was.looks.reads.told tells)) in
          let more = rw (looked.same.geometry, looked.reads.bytes) at (turn.names (looked.reads.told tells)) in
          let to = surveyed_skip geo image c.heads.marks c.heads.at c.in-Some.page inside.0 (omega (arith, inside.1.below)) (λ q after before. passed_head geo image q (next.passed q after before)) was.zeros (was.told tells) in
          let named = names_skip geo image c.heads.marks c.heads.at c.in-Some.page (λ q after before. passed_head geo image q (next.passed q after before)) (was.named tells) in
          rw c.from-at.ensures (more (c.headed.ensures ∙ found_told geo image c.heads.at c.in-Some.page c.in-Some.head next) to named);
    }

pub returns-clause-told : goal.returns-clause-told
returns-clause-told g c = λ tells.
    let was = c.heads.invariant in
    let geo = c.args.v.now.geometry in
    let image = g.N.NorState.bytes c.args.v.now.nor.now in
    let last : NextLive geo image c.heads.at 0x8000 0xFFFE None = rw (was.looks.same.geometry, was.looks.reads.bytes, c.in_default.is) at (c.in_ok-page.ensures.told (was.looks.reads.told tells)) in
    surveyed_all geo image c.heads.marks (page_count geo) refl
    (surveyed_skip geo image c.heads.marks c.heads.at (page_count geo) was.most (omega arith) (λ q after before. passed_head geo image q (last q after before)) was.zeros (was.told tells))
