use Rattle.std.proofs.Common.{◌≡◌, ◌+◌, ◌/◌, subst, length, arith}
use Rattle.geometry.proofs.Bounds.{few_in_block, few_entries}
use Rattle.flash_view.proofs.Looking.{looks_then}
use Rattle.flash_view.proofs.Telling.{looked}
use Rattle.free_search.specs.Ids.{bits_at}
use Rattle.free_search.specs.Naming.{Scanned, ScannedTo, first_entry}
use Rattle.free_search.proofs.Scanning.{scan_slots, index_entry}
use Rattle.free_search.proofs.naming.scan_slots.Goals as goal

pub overflow_add-start : goal.overflow_add-start
overflow_add-start g c = omega (arith, c.in-Some.ensures.found, c.requires.few, few_entries c.args.v.now.geometry, few_in_block c.args.v.now.geometry)

pub overflow_cast-i : goal.overflow_cast-i
overflow_cast-i g c = omega (arith, c.in-Some.ensures.found, c.requires.few, few_entries c.args.v.now.geometry, few_in_block c.args.v.now.geometry)

pub returns-then-branch : goal.returns-then-branch
returns-then-branch g c = record {
  looks = looked (looks_then c.slots.invariant.looks c.in_ok-note_page.ensures.looks.only) (λ tells are start.
      let was = c.slots.invariant in
      let geometry = c.args.v.now.geometry in
      let image = g.N.NorState.bytes c.args.v.now.nor.now in
      let name = c.args.name.now in
      let bytes = c.args.bytes.now in
      let found = c.in-Some.ensures.found in
      let place : c.entry_page-page.result ≡ first_entry geometry c.args.block + (c.args.start + c.in-Some.i) = rw was.looks.same.geometry at c.entry_page-page.ensures.place in
      let index = index_entry geometry image bytes c.args.block c.args.start (length bytes / 2) c.in-Some.i c.entry_page-page.result c.in-Some.entry are c.requires.few found.1 place found.2 found.3 in
      let here = scan_slots geometry image (bits_at geometry c.slots.v.work.now) name bytes c.args.block c.args.start (length bytes / 2) c.slots.from c.in-Some.i are c.requires.few found.0 (omega (arith, found.1)) c.in-Some.ensures.passed (was.told tells are start) in
      let at : Scanned geometry image (bits_at geometry c.slots.v.work.now) name c.entry_page-page.result = subst (Scanned geometry image (bits_at geometry c.slots.v.work.now) name) (omega (arith, place)) here in
      subst (λ b. ScannedTo geometry image (bits_at geometry c.note_page.new.v.work.now) name (c.entry_page-page.result + 1) b) c.if-branch.true ((rw (was.looks.same.geometry, was.looks.reads.bytes) at (c.in_ok-note_page.ensures.looks.told (was.looks.reads.told tells))) index at));
}

pub slots-preserved : goal.slots-preserved
slots-preserved g c =
    let was = c.slots.invariant in
    let geometry = c.args.v.now.geometry in
    let image = g.N.NorState.bytes c.args.v.now.nor.now in
    let name = c.args.name.now in
    let bytes = c.args.bytes.now in
    let found = c.in-Some.ensures.found in
    record {
      looks = looks_then was.looks c.in_ok-note_page.ensures.looks.only;
      most = omega (arith, found.1);
      told = λ tells are start.
          let place : c.entry_page-page.result ≡ first_entry geometry c.args.block + (c.args.start + c.in-Some.i) = rw was.looks.same.geometry at c.entry_page-page.ensures.place in
          let index = index_entry geometry image bytes c.args.block c.args.start (length bytes / 2) c.in-Some.i c.entry_page-page.result c.in-Some.entry are c.requires.few found.1 place found.2 found.3 in
          let here = scan_slots geometry image (bits_at geometry c.slots.v.work.now) name bytes c.args.block c.args.start (length bytes / 2) c.slots.from c.in-Some.i are c.requires.few found.0 (omega (arith, found.1)) c.in-Some.ensures.passed (was.told tells are start) in
          let at : Scanned geometry image (bits_at geometry c.slots.v.work.now) name c.entry_page-page.result = subst (Scanned geometry image (bits_at geometry c.slots.v.work.now) name) (omega (arith, place)) here in
          let next : Scanned geometry image (bits_at geometry c.note_page.new.v.work.now) name (c.entry_page-page.result + 1) = subst (λ b. ScannedTo geometry image (bits_at geometry c.note_page.new.v.work.now) name (c.entry_page-page.result + 1) b) c.if-branch.false ((rw (was.looks.same.geometry, was.looks.reads.bytes) at (c.in_ok-note_page.ensures.looks.told (was.looks.reads.told tells))) index at) in
          subst (Scanned geometry image (bits_at geometry c.note_page.new.v.work.now) name) (omega (arith, place)) next;
    }

pub returns : goal.returns
returns g c = record {
  looks = looked c.slots.invariant.looks (λ tells are start.
      let geometry = c.args.v.now.geometry in
      let bytes = c.args.bytes.now in
      scan_slots geometry (g.N.NorState.bytes c.args.v.now.nor.now) (bits_at geometry c.slots.v.work.now) c.args.name.now bytes c.args.block c.args.start (length bytes / 2) c.slots.from (length bytes / 2) are c.requires.few c.slots.invariant.most (omega arith) c.in_default.ensures.passed (c.slots.invariant.told tells are start));
}
