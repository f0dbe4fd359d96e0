use Rattle.std.proofs.Common.{arith, refl}
use Rattle.page_renew.proofs.Says.{says_first, says_more, says_all, named_size}
use Rattle.page_renew.proofs.edits.name_next.Goals as goal

pub loop-i-init : goal.loop-i-init
loop-i-init c = record { end = refl; size = c.requires.page; says = λ h says. says_first c.args.g.now h c.args.page.now c.args.span c.args.pages.now says }

pub loop-i-preserved : goal.loop-i-preserved
loop-i-preserved c =
    let was = c.loop-i.invariant in
    record {
      end = was.end;
      size = named_size c.args.g.now _ _ c.loop-i.page c.name_one.new.page c.name_one.ensures was.size;
      says = λ h says. says_more c.args.g.now h c.loop-i.page c.name_one.new.page c.args.span c.args.pages.now c.loop-i.i (omega (arith, was.end, c.loop-i-test.true)) (was.says h says) c.name_one.ensures;
    }

pub returns : goal.returns
returns c = λ h says.
    let was = c.loop-i.invariant in
    says_all c.args.g.now h c.loop-i.page c.args.span c.args.pages.now c.loop-i.i (omega (arith, was.end, c.loop-i-test.false)) (was.says h says)
