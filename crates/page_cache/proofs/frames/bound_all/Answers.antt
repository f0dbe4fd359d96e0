use Rattle.std.proofs.Common.{◌+◌, ◌∙◌, arith}
use Rattle.page_cache.specs.Frames.{Bounded}
use Rattle.page_cache.proofs.Places.{put_made, put_there, part_length, some_frames}
use Rattle.page_cache.proofs.frames.bound_all.Goals as goal

pub returns-clause-here : goal.returns-clause-here
returns-clause-here c = put_made c.args.g.now (Bounded c.args.count) c.args.frames.now c.bound.new.frame 0 c.start_of-start.result (c.start_of-start.result + c.frame_len.result) c.start_of-start.ensures.start (omega (arith, c.frame_len.ensures)) (omega (arith, c.start_of-start.ensures.inside, c.frame_len.ensures)) (c.bound.auto.frame ∙ part_length c.args.frames.now c.start_of-start.result c.frame_len.result (omega (arith, c.start_of-start.ensures.inside, c.frame_len.ensures)) ∙ c.frame_len.ensures) c.bound.ensures

pub returns-clause-others : goal.returns-clause-others
returns-clause-others c = put_there c.args.g.now c.args.frames.now c.bound.new.frame 0 c.start_of-start.result (c.start_of-start.result + c.frame_len.result) c.start_of-start.ensures.start (omega (arith, c.frame_len.ensures)) (omega (arith, c.start_of-start.ensures.inside, c.frame_len.ensures)) (c.bound.auto.frame ∙ part_length c.args.frames.now c.start_of-start.result c.frame_len.result (omega (arith, c.start_of-start.ensures.inside, c.frame_len.ensures)) ∙ c.frame_len.ensures)

pub start_of-start-requires : goal.start_of-start-requires
start_of-start-requires c = some_frames c.args.g.now c.args.frames.now c.requires.need
