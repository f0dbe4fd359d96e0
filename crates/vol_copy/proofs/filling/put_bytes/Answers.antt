use Rattle.std.proofs.Common.{ℕ, ◌+◌, ◌-◌, ◌≡◌, ◌≤◌, List, length, take, Bool, true, false, Ok, arith, rules, refl, sym, ◌∙◌, ap, subst, inl, inr}
use Rattle.std.specs.Prelude.{min}
use Rattle.std.proofs.Math.Nat.{zero-mod}
use Rattle.std.proofs.lemmas.List.{length-take-le}
use Rattle.nor_core.proofs.Cuts.{reads_none, reads_then}
use Rattle.geometry.specs.declared.geometry.Geometry.{Geometry}
use Rattle.geometry.specs.Numbers.{body}
use Rattle.volume.proofs.Staying.{same_then, same_none}
use Rattle.copy_model.specs.Parts.{IsFilling}
use Rattle.vol_copy.specs.Stages.{Works, With, StopsFrom, IsPage}
use Rattle.vol_copy.proofs.Exits.{passed}
use Rattle.vol_copy.proofs.Readers.{reader_none, reader_then}
use Rattle.vol_copy.proofs.Pages.{some_body, page_here, page_after, begun_cuts, begun_leads, more_cuts, more_leads, more_short, more_stops, all_filled}
use Rattle.vol_copy.proofs.filling.put_bytes.Goals as goal

pub loop-at-init : goal.loop-at-init
loop-at-init g c = record {
  within = omega arith;
  ends = inl (zero-mod (body c.args.to.now.geometry));
  reads = reads_none c.args.from.now.nor.now;
  same_from = reader_none c.args.from.now;
  same_to = same_none c.args.to.now;
  cuts = begun_cuts c.args.stat.now c.args.fd c.args.from.now c.args.to.now;
  leads = begun_leads c.args.stat.now c.args.fd c.args.from.now c.args.to.now;
}

pub piece_length-count-requires-clause-most : goal.piece_length-count-requires-clause-most
piece_length-count-requires-clause-most g c = some_body c.args.to.now.geometry

pub put_page-requires : goal.put_page-requires
put_page-requires g c =
    let few : c.piece_length-count.result ≤ length c.loop-at.piece = omega (arith, c.loop-at.auto.piece, c.requires.piece, c.piece_length-count.ensures.most, c.args.to.now.geometry.valid.page_most) in
    let long : length (take c.piece_length-count.result c.loop-at.piece) ≡ c.piece_length-count.result = length-take-le c.piece_length-count.result c.loop-at.piece few in
    record {
      page = subst (λ (v : Geometry). IsPage v c.args.stat.now c.loop-at.at (length (take c.piece_length-count.result c.loop-at.piece))) (sym c.loop-at.invariant.same_to.geometry)
          (page_here c.args.to.now.geometry c.args.stat.now c.loop-at.at c.piece_length-count.result _ c.loop-at-test.true c.loop-at.invariant.ends c.piece_length-count.ensures.some c.piece_length-count.ensures.least long);
    }

pub loop-at-preserved : goal.loop-at-preserved
loop-at-preserved g c =
    let few : c.piece_length-count.result ≤ length c.loop-at.piece = omega (arith, c.loop-at.auto.piece, c.requires.piece, c.piece_length-count.ensures.most, c.args.to.now.geometry.valid.page_most) in
    let long : length (take c.piece_length-count.result c.loop-at.piece) ≡ c.piece_length-count.result = length-take-le c.piece_length-count.result c.loop-at.piece few in
    let was = c.loop-at.invariant in
    let page = c.put_page.ensures in
    let fits : c.in_ok-put_page.field-0 ≡ true = search rules in
    record {
      within = omega (arith, was.within, c.piece_length-count.ensures.left, c.loop-at-test.true);
      ends = page_after c.args.to.now.geometry c.args.stat.now.size c.loop-at.at c.piece_length-count.result c.loop-at-test.true was.ends (some_body c.args.to.now.geometry) c.piece_length-count.ensures.least;
      reads = reads_then was.reads page.reads;
      same_from = reader_then was.same_from page.same_from;
      same_to = same_then was.same_to page.same_to;
      cuts = more_cuts c.args.stat.now c.args.fd c.args.from.now c.loop-at.at c.loop-at.from c.loop-at.invariant.reads c.loop-at.invariant.same_from c.args.to.now c.loop-at.to c.loop-at.invariant.cuts c.loop-at.invariant.leads c.put_page.new.to page.cuts;
      leads = more_leads c.args.stat.now c.args.fd c.args.from.now c.loop-at.at c.loop-at.from c.loop-at.invariant.reads c.loop-at.invariant.same_from c.args.to.now c.loop-at.to c.loop-at.invariant.cuts c.loop-at.invariant.leads c.put_page.new.to c.piece_length-count.result (length (take c.piece_length-count.result c.loop-at.piece)) long c.in_ok-put_page.field-0 fits c.in_ok-put_page.ensures.wrote;
    }

pub returns-in_err-put_page-clause-cuts : goal.returns-in_err-put_page-clause-cuts
returns-in_err-put_page-clause-cuts g c = more_cuts c.args.stat.now c.args.fd c.args.from.now c.loop-at.at c.loop-at.from c.loop-at.invariant.reads c.loop-at.invariant.same_from c.args.to.now c.loop-at.to c.loop-at.invariant.cuts c.loop-at.invariant.leads c.put_page.new.to c.put_page.ensures.cuts

pub returns-in_err-put_page-clause-stops : goal.returns-in_err-put_page-clause-stops
returns-in_err-put_page-clause-stops g c =
    passed (StopsFrom (With g.N.NorState c.args.from.now (Works c.args.fd 52 (IsFilling c.args.stat.now 0))) c.args.to.now c.put_page.new.to) c.from_residual.result _ c.from_residual.ensures.1 (more_stops c.args.stat.now c.args.fd c.args.from.now c.loop-at.at c.loop-at.from c.loop-at.invariant.reads c.loop-at.invariant.same_from c.args.to.now c.loop-at.to c.loop-at.invariant.cuts c.loop-at.invariant.leads c.put_page.new.to _ c.in_err-put_page.ensures.stops)

pub returns-then-not-branch-clause-cuts : goal.returns-then-not-branch-clause-cuts
returns-then-not-branch-clause-cuts g c = more_cuts c.args.stat.now c.args.fd c.args.from.now c.loop-at.at c.loop-at.from c.loop-at.invariant.reads c.loop-at.invariant.same_from c.args.to.now c.loop-at.to c.loop-at.invariant.cuts c.loop-at.invariant.leads c.put_page.new.to c.put_page.ensures.cuts

pub returns-then-not-branch-clause-all : goal.returns-then-not-branch-clause-all
returns-then-not-branch-clause-all g c = λ is. absurd (let same : c.loop-at.at ≡ c.args.stat.now.size = cc in omega (arith, same, c.loop-at-test.true))

pub returns-then-not-branch-clause-short : goal.returns-then-not-branch-clause-short
returns-then-not-branch-clause-short g c = λ more.
    let few : c.piece_length-count.result ≤ length c.loop-at.piece = omega (arith, c.loop-at.auto.piece, c.requires.piece, c.piece_length-count.ensures.most, c.args.to.now.geometry.valid.page_most) in
    let long : length (take c.piece_length-count.result c.loop-at.piece) ≡ c.piece_length-count.result = length-take-le c.piece_length-count.result c.loop-at.piece few in
    let is : c.in_ok-put_page.field-0 ≡ false = search rules in
    let same = c.put_page.ensures.same_to.geometry ∙ c.loop-at.invariant.same_to.geometry in
    more_short c.args.stat.now c.args.fd c.args.from.now c.loop-at.at c.loop-at.from c.loop-at.invariant.reads c.loop-at.invariant.same_from c.args.to.now c.loop-at.to c.loop-at.invariant.cuts c.loop-at.invariant.leads c.put_page.new.to (length (take c.piece_length-count.result c.loop-at.piece)) c.in_ok-put_page.field-0 is
    (ap (λ (n : ℕ). c.loop-at.at + n) (long ∙ c.piece_length-count.ensures.least) ∙ ap (λ (v : Geometry). c.loop-at.at + min (c.args.stat.now.size - c.loop-at.at) (body v)) (sym same)) c.in_ok-put_page.ensures.wrote

pub returns-clause-all : goal.returns-clause-all
returns-clause-all g c = λ is. all_filled c.args.stat.now c.args.fd c.args.from.now c.args.to.now c.loop-at.to c.loop-at.at c.loop-at.invariant.leads (let same : c.loop-at.at ≡ c.args.stat.now.size = cc in same)

pub returns-clause-short : goal.returns-clause-short
returns-clause-short g c = λ more. absurd (omega (arith, more, c.loop-at-test.false))

pub returns-in_err-put_page-clause-same_from : goal.returns-in_err-put_page-clause-same_from
returns-in_err-put_page-clause-same_from g c = reader_then c.loop-at.invariant.same_from c.put_page.ensures.same_from

pub returns-in_err-put_page-clause-same_to : goal.returns-in_err-put_page-clause-same_to
returns-in_err-put_page-clause-same_to g c = same_then c.loop-at.invariant.same_to c.put_page.ensures.same_to

pub returns-then-not-branch-clause-same_from : goal.returns-then-not-branch-clause-same_from
returns-then-not-branch-clause-same_from g c = reader_then c.loop-at.invariant.same_from c.put_page.ensures.same_from

pub returns-then-not-branch-clause-same_to : goal.returns-then-not-branch-clause-same_to
returns-then-not-branch-clause-same_to g c = same_then c.loop-at.invariant.same_to c.put_page.ensures.same_to
