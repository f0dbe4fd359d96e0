use Rattle.std.proofs.Common.{◌+◌, ◌∙◌, arith}
use Rattle.page_cache.specs.Frames.{IsFree}
use Rattle.page_cache.proofs.Places.{put_made, put_there, part_length}
use Rattle.page_cache.proofs.frames.clear_one.Goals as goal

pub returns-clause-here : goal.returns-clause-here
returns-clause-here c = put_made c.args.g.now IsFree c.args.frames.now c.empty.new.frame c.args.f c.start_of-start.result (c.start_of-start.result + c.frame_len.result) c.start_of-start.ensures.start (omega (arith, c.frame_len.ensures)) (omega (arith, c.start_of-start.ensures.inside, c.frame_len.ensures)) (c.empty.auto.frame ∙ part_length c.args.frames.now c.start_of-start.result c.frame_len.result (omega (arith, c.start_of-start.ensures.inside, c.frame_len.ensures)) ∙ c.frame_len.ensures) c.empty.ensures

pub returns-clause-others : goal.returns-clause-others
returns-clause-others c = put_there c.args.g.now c.args.frames.now c.empty.new.frame c.args.f c.start_of-start.result (c.start_of-start.result + c.frame_len.result) c.start_of-start.ensures.start (omega (arith, c.frame_len.ensures)) (omega (arith, c.start_of-start.ensures.inside, c.frame_len.ensures)) (c.empty.auto.frame ∙ part_length c.args.frames.now c.start_of-start.result c.frame_len.result (omega (arith, c.start_of-start.ensures.inside, c.frame_len.ensures)) ∙ c.frame_len.ensures)
