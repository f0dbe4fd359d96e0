use Rattle.std.proofs.Common.{◌≡◌, ◌≤◌, ℕ, ◌+◌, length, take, rules, arith, subst}
use Rattle.std.proofs.lemmas.List.{length-take-le}
use Rattle.nor_core.proofs.Cuts.{reads_none, reads_then}
use Rattle.volume.proofs.Staying.{same_none, same_then}
use Rattle.vol_copy.specs.Stages.{Works, With}
use Rattle.vol_copy.specs.Seen.{IsLooking, Looked, LooksUntil}
use Rattle.vol_copy.proofs.Exits.{passed}
use Rattle.vol_copy.proofs.Readers.{reader_none, reader_then}
use Rattle.vol_copy.proofs.Sights.{pieces_begin, pieces_more, pieces_other, pieces_fail, pieces_end}
use Rattle.vol_copy.proofs.comparing.same_bytes.Goals as goal

pub loop-at-init : goal.loop-at-init
loop-at-init g c = record {
  within = omega arith;
  reads = reads_none c.args.from.now.nor.now;
  same_from = reader_none c.args.from.now;
  same_to = same_none c.args.to.now;
  looked = pieces_begin c.args.stat.now c.args.fd c.args.from.now c.args.to.now;
}

pub loop-at-preserved : goal.loop-at-preserved
loop-at-preserved g c =
    let was = c.loop-at.invariant in
    let inside : c.piece_length-count.result ≤ length c.loop-at.ours = search rules in
    let long : length (take c.piece_length-count.result c.loop-at.ours) ≡ c.piece_length-count.result = length-take-le c.piece_length-count.result c.loop-at.ours inside in
    record {
      within = omega (arith, was.within, c.piece_length-count.ensures.left, c.loop-at-test.true);
      reads = reads_then was.reads c.same_part.ensures.reads;
      same_from = reader_then was.same_from c.same_part.ensures.same_from;
      same_to = same_then was.same_to c.same_part.ensures.same_to;
      looked = subst (λ (m : ℕ). Looked (With g.N.NorState c.args.from.now (Works c.args.fd 8 (IsLooking c.args.stat.now 0))) (Works c.args.fd 8 (IsLooking c.args.stat.now (c.loop-at.at + m))) c.args.to.now c.same_part.new.to) long
          (pieces_more c.args.stat.now c.args.fd c.args.from.now c.args.to.now c.loop-at.at c.loop-at.to was.looked c.loop-at.from was.reads was.same_from c.same_part.new.to
          (length (take c.piece_length-count.result c.loop-at.ours)) c.in_ok-same.same c.if-same.true c.in_ok-same.ensures.done);
    }

pub returns-else-same-clause-done : goal.returns-else-same-clause-done
returns-else-same-clause-done g c =
    let was = c.loop-at.invariant in
    pieces_other c.args.stat.now c.args.fd c.args.from.now c.args.to.now c.loop-at.at c.loop-at.to was.looked c.loop-at.from was.reads was.same_from c.same_part.new.to (length (take c.piece_length-count.result c.loop-at.ours)) c.in_ok-same.same c.if-same.false c.in_ok-same.ensures.done

pub returns-clause-done : goal.returns-clause-done
returns-clause-done g c =
    let was = c.loop-at.invariant in
    pieces_end c.args.stat.now c.args.fd c.args.from.now c.args.to.now c.loop-at.at c.loop-at.to was.looked (omega (arith, was.within, c.loop-at-test.false))

pub returns-in_err-same-clause-stops : goal.returns-in_err-same-clause-stops
returns-in_err-same-clause-stops g c =
    let was = c.loop-at.invariant in
    passed (LooksUntil (With g.N.NorState c.args.from.now (Works c.args.fd 8 (IsLooking c.args.stat.now 0))) c.args.to.now c.same_part.new.to) c.from_residual.result _ c.from_residual.ensures.1
    (pieces_fail c.args.stat.now c.args.fd c.args.from.now c.args.to.now c.loop-at.at c.loop-at.to was.looked c.loop-at.from was.reads was.same_from c.same_part.new.to _ c.in_err-same.ensures.stops)

pub returns-in_err-same-clause-same_to : goal.returns-in_err-same-clause-same_to
returns-in_err-same-clause-same_to g c = same_then c.loop-at.invariant.same_to c.same_part.ensures.same_to

pub returns-else-same-clause-same_to : goal.returns-else-same-clause-same_to
returns-else-same-clause-same_to g c = same_then c.loop-at.invariant.same_to c.same_part.ensures.same_to
