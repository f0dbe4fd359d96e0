use Rattle.std.proofs.Common.{◌≤◌, ◌∙◌, ℕ, Option, None, arith, subst}
use Rattle.geometry.specs.Numbers.{usable}
use Rattle.page_layout.specs.declared.header.PageHeader.{PageHeader}
use Rattle.flash_view.specs.Places.{IsEntryPage}
use Rattle.flash_view.specs.Walk.{IsNextLive, NextLive}
use Rattle.flash_view.proofs.Looking.{looks_then}
use Rattle.flash_view.proofs.Telling.{looked}
use Rattle.free_search.specs.Ids.{bits_at, head_id, Notes}
use Rattle.free_search.proofs.Bits.{noted_none, noted_on, noted_last, noted_all}
use Rattle.free_search.proofs.ids.free_id.Goals as goal

pub heads-init : goal.heads-init
heads-init g c = record {
  looks = c.clear_bits.ensures.looks;
  most = omega arith;
  told = λ tells. noted_none c.args.v.now.geometry (g.N.NorState.bytes c.args.v.now.nor.now) _ c.clear_bits.ensures.none;
}

pub heads-preserved : goal.heads-preserved
heads-preserved g c =
    let was = c.heads.invariant in
    let found = c.in_ok-page.ensures in
    let noted = c.note_head.ensures in
    let geometry = c.args.v.now.geometry in
    let image = g.N.NorState.bytes c.args.v.now.nor.now in
    let inside : (c.heads.at ≤ c.in-Some.page) × IsEntryPage geometry c.in-Some.page = rw (was.looks.same.geometry, c.in-Some.is) at found.inside in
    let two = looks_then was.looks found.looks in
    record {
      looks = looks_then two noted.looks;
      most = omega (arith, inside.1.below, c.from-at.ensures);
      told = λ tells.
          let next : IsNextLive geometry image c.heads.at 0x8000 0xFFFE c.in-Some.page c.in-Some.head = rw (was.looks.same.geometry, was.looks.reads.bytes, c.in-Some.is) at (found.told (was.looks.reads.told tells)) in
          let notes : Notes (usable geometry) (head_id c.in-Some.head) (bits_at geometry c.heads.v.work.now) (bits_at geometry c.note_head.new.v.work.now) = rw (two.same.geometry, found.work) at noted.noted in
          rw c.from-at.ensures (noted_on geometry image _ _ c.heads.at c.in-Some.page c.in-Some.head inside.0 next (was.told tells) notes);
    }

pub returns-clause-looks : goal.returns-clause-looks
returns-clause-looks g c = looked (looks_then c.heads.invariant.looks c.in_ok-page.ensures.looks) (λ tells.
    let was = c.heads.invariant in
    let found = c.in_ok-page.ensures in
    let two = looks_then was.looks found.looks in
    let geometry = c.args.v.now.geometry in
    let image = g.N.NorState.bytes c.args.v.now.nor.now in
    let last : NextLive geometry image c.heads.at 0x8000 0xFFFE None = subst (λ (o : Option (ℕ × PageHeader)). NextLive geometry image c.heads.at 0x8000 0xFFFE o) c.in_default.is (rw (was.looks.same.geometry, was.looks.reads.bytes) at (found.told (was.looks.reads.told tells))) in
    let all = rw (two.same.geometry, found.work) at c.least_unnoted.ensures.first in
    all ∙ noted_all geometry image _ (noted_last geometry image _ c.heads.at was.most last (was.told tells)))
