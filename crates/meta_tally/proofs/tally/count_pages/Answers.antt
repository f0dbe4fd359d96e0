use Rattle.std.proofs.Common.{◌∙◌, arith}
use Rattle.meta_tally.proofs.Tallies.{none_tallied, all_tallied, none_noted}
use Rattle.meta_tally.proofs.tally.count_pages.Goals as goal

pub loop-p-init : goal.loop-p-init
loop-p-init c = record {
  noted = none_noted c.args.g.now c.args.image.now _ (c.clear_bytes.ensures.len ∙ c.requires.names);
  tallied = none_tallied c.args.g.now c.args.image.now _ (c.clear_counts.ensures.len ∙ c.requires.whole) c.clear_counts.ensures.zero;
}

pub returns : goal.returns
returns c = all_tallied c.args.g.now c.args.image.now c.loop-p.whole c.loop-p.p (omega (arith, c.loop-p-test.false, c.pages-p-end.ensures.count)) c.loop-p.invariant.tallied
