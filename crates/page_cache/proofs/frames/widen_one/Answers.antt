use Rattle.std.proofs.Common.{◌+◌, ◌∙◌, arith}
use Rattle.page_cache.specs.Frames.{Widened}
use Rattle.page_cache.proofs.Places.{put_made, put_there, part_length, count_most}
use Rattle.page_cache.proofs.frames.widen_one.Goals as goal

pub returns-clause-here : goal.returns-clause-here
returns-clause-here c = put_made c.args.g.now (Widened c.args.stray) c.args.frames.now c.widen.new.frame c.args.home c.start_of-start.result (c.start_of-start.result + c.frame_len.result) c.start_of-start.ensures.start (omega (arith, c.frame_len.ensures)) (omega (arith, c.start_of-start.ensures.inside, c.frame_len.ensures)) (c.widen.auto.frame ∙ part_length c.args.frames.now c.start_of-start.result c.frame_len.result (omega (arith, c.start_of-start.ensures.inside, c.frame_len.ensures)) ∙ c.frame_len.ensures) c.widen.ensures

pub returns-clause-others : goal.returns-clause-others
returns-clause-others c = put_there c.args.g.now c.args.frames.now c.widen.new.frame c.args.home c.start_of-start.result (c.start_of-start.result + c.frame_len.result) c.start_of-start.ensures.start (omega (arith, c.frame_len.ensures)) (omega (arith, c.start_of-start.ensures.inside, c.frame_len.ensures)) (c.widen.auto.frame ∙ part_length c.args.frames.now c.start_of-start.result c.frame_len.result (omega (arith, c.start_of-start.ensures.inside, c.frame_len.ensures)) ∙ c.frame_len.ensures)

pub widen-requires-clause-small : goal.widen-requires-clause-small
widen-requires-clause-small c = omega (arith, c.requires.stray, count_most c.args.g.now c.args.frames.now)
