-- The header pages below p are noted, and so many ids are doubled there.
use Rattle.image_model.specs.Live.{live_at}
use Rattle.doubled_ids.specs.Notes.{AreNoted, AreCounted}
use Rattle.doubled_ids.proofs.counting.count_in.Given as goal

abbrev pub invariant-loop-p : goal.invariant-loop-p
invariant-loop-p l = record {
  noted : AreNoted (live_at l.g l.image) l.p l.notes;
  counted : AreCounted (live_at l.g l.image) l.p l.count;
}
