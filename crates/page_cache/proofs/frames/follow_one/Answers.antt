use Rattle.std.proofs.Common.{ℕ, ◌+◌, ◌-◌, ◌∙◌, subst, arith}
use borrow.Rule.Slice.PartMut.{put_mid}
use Rattle.page_cache.specs.Frames.{Follows, frame_at}
use Rattle.page_cache.proofs.Places.{put_made, put_there, part_length}
use Rattle.page_cache.proofs.frames.follow_one.Goals as goal

pub returns-clause-here : goal.returns-clause-here
returns-clause-here c = subst (λ (p : ℕ). Follows p c.args.at c.args.event (frame_at c.args.g.now c.args.frames.now c.args.f) (frame_at c.args.g.now (put_mid c.start_of-start.result (c.start_of-start.result + c.frame_len.result - c.start_of-start.result) c.args.frames.now c.follow.new.frame) c.args.f)) c.page.ensures
    (put_made c.args.g.now (Follows c.page.result c.args.at c.args.event) c.args.frames.now c.follow.new.frame c.args.f c.start_of-start.result (c.start_of-start.result + c.frame_len.result) c.start_of-start.ensures.start (omega (arith, c.frame_len.ensures)) (omega (arith, c.start_of-start.ensures.inside, c.frame_len.ensures)) (c.follow.auto.frame ∙ part_length c.args.frames.now c.start_of-start.result c.frame_len.result (omega (arith, c.start_of-start.ensures.inside, c.frame_len.ensures)) ∙ c.frame_len.ensures) c.follow.ensures)

pub returns-clause-others : goal.returns-clause-others
returns-clause-others c = put_there c.args.g.now c.args.frames.now c.follow.new.frame c.args.f c.start_of-start.result (c.start_of-start.result + c.frame_len.result) c.start_of-start.ensures.start (omega (arith, c.frame_len.ensures)) (omega (arith, c.start_of-start.ensures.inside, c.frame_len.ensures)) (c.follow.auto.frame ∙ part_length c.args.frames.now c.start_of-start.result c.frame_len.result (omega (arith, c.start_of-start.ensures.inside, c.frame_len.ensures)) ∙ c.frame_len.ensures)
