use Rattle.std.proofs.Common.{◌≡◌, ◌<◌, None, arith, rules, sym, ◌∙◌}
use Rattle.nor_core.proofs.Cuts.{reads_none, reads_then}
use Rattle.vol_copy.proofs.Composing.{tells_on}
use Rattle.vol_copy.proofs.Readers.{reader_none, reader_then}
use Rattle.vol_copy.proofs.Searching.{search_begins, search_on, search_found, search_ends}
use Rattle.vol_copy.proofs.reading.first_working.Goals as goal

pub records-init : goal.records-init
records-init g c = record {
  few = omega arith;
  reads = reads_none c.args.from.now.nor.now;
  same = reader_none c.args.from.now;
  none = λ source tells. search_begins c.args.from.now.geometry (g.N.NorState.bytes c.args.from.now.nor.now) source tells.1;
}

pub records-preserved : goal.records-preserved
records-preserved g c =
    let was = c.records.invariant in
    let above : c.records.after < c.in-Some.stat.id = search rules in
    record {
      few = omega (arith, was.few, above);
      reads = reads_then was.reads c.next_of.ensures.reads;
      same = reader_then was.same c.next_of.ensures.same;
      none = λ source tells.
          search_on c.args.from.now.geometry (g.N.NorState.bytes c.args.from.now.nor.now) source tells.1 c.records.after c.records.at (was.none source tells) c.in-Some.stat
          (sym c.in-Some.is ∙ c.in_ok-stat.ensures.told source (tells_on was.reads was.same tells)) (sym c.is_working.ensures ∙ c.if-is_working.false);
    }

pub returns-then-is_working-clause-told : goal.returns-then-is_working-clause-told
returns-then-is_working-clause-told g c = λ source tells.
    let was = c.records.invariant in
    search_found c.args.from.now.geometry (g.N.NorState.bytes c.args.from.now.nor.now) source tells.1 c.records.after c.records.at (was.none source tells) c.in-Some.stat
    (sym c.in-Some.is ∙ c.in_ok-stat.ensures.told source (tells_on was.reads was.same tells)) (sym c.is_working.ensures ∙ c.if-is_working.true)

pub returns-clause-told : goal.returns-clause-told
returns-clause-told g c = λ source tells.
    let was = c.records.invariant in
    let none : None ≡ c.in_ok-stat.field-0 = search rules in
    search_ends c.args.from.now.geometry (g.N.NorState.bytes c.args.from.now.nor.now) source tells.1 c.records.after c.records.at (was.none source tells)
    (none ∙ c.in_ok-stat.ensures.told source (tells_on was.reads was.same tells))
