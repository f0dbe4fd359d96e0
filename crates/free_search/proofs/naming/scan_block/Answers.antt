use Rattle.std.proofs.Common.{◌≡◌, ◌+◌, ◌-◌, ◌/◌, true, subst, arith, rules}
use Rattle.image_model.specs.Places.{has_magic}
use Rattle.flash_view.proofs.Looking.{looks_then}
use Rattle.flash_view.proofs.Telling.{looked}
use Rattle.free_search.specs.Ids.{bits_at}
use Rattle.free_search.specs.Naming.{Scanned, ScannedTo, LacksIndex, first_entry}
use Rattle.free_search.proofs.Scanning.{scan_lacking, scan_lookups, scan_full, part_below, part_after}
use Rattle.free_search.proofs.naming.scan_block.Goals as goal

pub returns-then-branch : goal.returns-then-branch
returns-then-branch g c = record {
  looks = looked c.in_ok-lacks_index.ensures.looks.only (λ tells was.
      let l = c.in_ok-lacks_index.ensures in
      let geometry = c.args.v.now.geometry in
      let image = g.N.NorState.bytes c.args.v.now.nor.now in
      rw l.work (scan_lacking geometry image (bits_at geometry c.args.v.now.work.now) c.args.name.now c.args.block (subst (LacksIndex geometry image c.args.block) c.if-branch.true (l.looks.told tells)) was));
}

pub parts-init : goal.parts-init
parts-init g c =
    let l = c.in_ok-lacks_index.ensures in
    let geometry = c.args.v.now.geometry in
    let image = g.N.NorState.bytes c.args.v.now.nor.now in
    record {
      looks = l.looks.only;
      most = omega arith;
      told = λ tells was. rw l.work (subst (Scanned geometry image (bits_at geometry c.args.v.now.work.now) c.args.name.now) (omega arith) (scan_lookups geometry image (bits_at geometry c.args.v.now.work.now) c.args.name.now c.args.block was));
    }

pub scan_part-requires-clause-lookup : goal.scan_part-requires-clause-lookup
scan_part-requires-clause-lookup g c = rw (c.parts.invariant.looks.same.geometry, c.page-slots.ensures) (part_below c.args.v.now.geometry (g.N.NorState.bytes c.args.v.now.nor.now) c.parts.at (omega (arith, c.parts-test.true, c.entries.ensures.count)))

pub parts-preserved : goal.parts-preserved
parts-preserved g c =
    let was = c.parts.invariant in
    let l = c.in_ok-lacks_index.ensures in
    let s = c.in_ok-scan_part.ensures in
    let geometry = c.args.v.now.geometry in
    let image = g.N.NorState.bytes c.args.v.now.nor.now in
    record {
      looks = looks_then was.looks s.looks.only;
      most = omega (arith, c.min-end.ensures, c.min.ensures, c.entries-in-parts.ensures.count);
      told = λ tells start.
          let magic : has_magic geometry image c.args.block ≡ true = subst (LacksIndex geometry image c.args.block) c.if-branch.false (l.looks.told tells) in
          let part = (rw (was.looks.same.geometry, was.looks.reads.bytes) at (s.looks.told (was.looks.reads.told tells))) magic (was.told tells start) in
          let next : Scanned geometry image (bits_at geometry c.scan_part.new.v.work.now) c.args.name.now (first_entry geometry c.args.block + c.parts.at + (c.min-end.result - c.parts.at)) =
          subst (λ b. ScannedTo geometry image (bits_at geometry c.scan_part.new.v.work.now) c.args.name.now (first_entry geometry c.args.block + c.parts.at + (c.min-end.result - c.parts.at)) b) c.if-branch-2.false part in
          let after = part_after geometry image (c.page-slots.result / 2) c.parts.at (omega (arith, c.page-slots.ensures, geometry.valid.page_least)) in
          subst (Scanned geometry image (bits_at geometry c.scan_part.new.v.work.now) c.args.name.now) (omega (arith, after, c.min-end.ensures, c.min.ensures, c.entries-in-parts.ensures.count, c.entries.ensures.count, c.parts-test.true)) next;
    }

pub returns : goal.returns
returns g c = record {
  looks = looked c.parts.invariant.looks (λ tells was.
      let geometry = c.args.v.now.geometry in
      scan_full geometry (g.N.NorState.bytes c.args.v.now.nor.now) (bits_at geometry c.parts.v.work.now) c.args.name.now c.args.block c.parts.at (omega (arith, c.parts-test.false, c.entries.ensures.count)) c.parts.invariant.most (c.parts.invariant.told tells was));
}

pub returns-then-branch-2 : goal.returns-then-branch-2
returns-then-branch-2 g c =
    let was = c.parts.invariant in
    let l = c.in_ok-lacks_index.ensures in
    let s = c.in_ok-scan_part.ensures in
    let geometry = c.args.v.now.geometry in
    let image = g.N.NorState.bytes c.args.v.now.nor.now in
    record {
      looks = looked (looks_then was.looks s.looks.only) (λ tells start.
          let magic : has_magic geometry image c.args.block ≡ true = subst (LacksIndex geometry image c.args.block) c.if-branch.false (l.looks.told tells) in
          let part = (rw (was.looks.same.geometry, was.looks.reads.bytes) at (s.looks.told (was.looks.reads.told tells))) magic (was.told tells start) in
          search rules);
    }
