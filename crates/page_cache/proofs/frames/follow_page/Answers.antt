use Rattle.page_cache.specs.Frames.{Follows}
use Rattle.page_cache.proofs.Loops.{one_page, none_page}
use Rattle.page_cache.proofs.frames.follow_page.Goals as goal

pub returns-in-Some : goal.returns-in-Some
returns-in-Some c = one_page c.args.g.now (Follows c.args.g.now.page c.args.at c.args.event) c.args.page c.args.frames.now c.follow_one.new.frames c.in-Some.f c.requires.page c.in-Some.ensures.found.0 c.in-Some.ensures.found.1 c.requires.findable c.follow_one.ensures.here c.follow_one.ensures.others

pub returns-in_default : goal.returns-in_default
returns-in_default c = none_page c.args.g.now (Follows c.args.g.now.page c.args.at c.args.event) c.args.page c.args.frames.now (c.find.ensures.missing c.in_default.is)
