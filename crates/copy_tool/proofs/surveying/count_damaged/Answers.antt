use Rattle.std.proofs.Common.{◌≡◌, arith}
use Rattle.nor_core.proofs.Cuts.{reads_none, reads_then}
use Rattle.file_find.specs.Listing.{damaged_above}
use Rattle.vol_copy.proofs.Readers.{reader_none, reader_then}
use Rattle.copy_tool.proofs.Counted.{damaged_first, damaged_more, damaged_last}
use Rattle.copy_tool.proofs.surveying.count_damaged.Goals as goal

pub ids-init : goal.ids-init
ids-init g c = record {
  reads = reads_none c.args.from.now.nor.now;
  same = reader_none c.args.from.now;
  few = omega arith;
  told = λ tells. damaged_first c.args.from.now.geometry (g.N.NorState.bytes c.args.from.now.nor.now);
}

pub ids-preserved : goal.ids-preserved
ids-preserved g c =
    let was = c.ids.invariant in
    let turn = c.in_ok-next.ensures in
    let above = rw c.in-Some.is at turn.above in
    record {
      reads = reads_then was.reads turn.looks;
      same = reader_then was.same turn.same;
      few = omega (arith, was.few, above);
      told = λ tells.
          let geo = c.args.from.now.geometry in
          let image = g.N.NorState.bytes c.args.from.now.nor.now in
          let found : c.in_ok-next.field-0 ≡ damaged_above geo image c.ids.after = rw (was.same.geometry, was.reads.bytes) at (turn.told (was.reads.told tells)) in
          damaged_more geo image c.ids.after c.ids.count c.in_ok-next.field-0 c.in-Some.next found c.in-Some.is (was.told tells);
    }

pub returns-clause-told : goal.returns-clause-told
returns-clause-told g c = λ tells.
    let was = c.ids.invariant in
    let geo = c.args.from.now.geometry in
    let image = g.N.NorState.bytes c.args.from.now.nor.now in
    let found : c.in_ok-next.field-0 ≡ damaged_above geo image c.ids.after = rw (was.same.geometry, was.reads.bytes) at (c.in_ok-next.ensures.told (was.reads.told tells)) in
    damaged_last geo image c.ids.after c.ids.count c.in_ok-next.field-0 found c.in_default.is (was.told tells)

pub returns-clause-reads : goal.returns-clause-reads
returns-clause-reads g c = reads_then c.ids.invariant.reads c.in_ok-next.ensures.looks

pub returns-clause-same : goal.returns-clause-same
returns-clause-same g c = reader_then c.ids.invariant.same c.in_ok-next.ensures.same
