use Rattle.std.proofs.Common.{inl, inr, arith}
use Rattle.geometry.proofs.Bounds.{few_pages}
use Rattle.page_cache.specs.Frames.{Follows, frame_at, page_in}
use Rattle.page_cache.proofs.Places.{count_same, some_frames}
use Rattle.page_cache.proofs.Loops.{followed_none, followed_more, followed_all, followed_findable, follows_steady, follows_strict, follows_misses}
use Rattle.page_cache.proofs.frames.follow_all.Goals as goal

pub loop-page-init : goal.loop-page-init
loop-page-init c =
    let me = c.args.g.now in
    followed_none me (Follows me.page c.args.at c.args.event) (follows_steady me.page c.args.at c.args.event) c.args.frames.now c.first_met-first.result
    (λ f below under. follows_misses me.page c.args.at c.args.event (frame_at me c.args.frames.now f) (inl (c.first_met-first.ensures (page_in me c.args.frames.now f) under)))

pub follow_page-requires-clause-need : goal.follow_page-requires-clause-need
follow_page-requires-clause-need c = omega (arith, c.loop-page.auto.frames, c.requires.need)

pub follow_page-requires-clause-findable : goal.follow_page-requires-clause-findable
follow_page-requires-clause-findable c =
    let me = c.args.g.now in
    followed_findable me (Follows me.page c.args.at c.args.event) (follows_steady me.page c.args.at c.args.event) c.args.frames.now c.loop-page.frames c.loop-page.page
    (count_same me c.args.frames.now c.loop-page.frames c.loop-page.auto.frames) (some_frames me c.args.frames.now c.requires.need) (follows_strict me c.args.at c.args.event c.args.frames.now c.requires.ready) c.loop-page.invariant c.requires.findable

pub loop-page-preserved : goal.loop-page-preserved
loop-page-preserved c =
    let me = c.args.g.now in
    followed_more me (Follows me.page c.args.at c.args.event) (follows_steady me.page c.args.at c.args.event) c.args.frames.now c.loop-page.frames c.follow_page.new.frames c.loop-page.page
    (count_same me c.args.frames.now c.loop-page.frames c.loop-page.auto.frames) (omega (arith, c.loop-page-test.true, c.end_met-end.ensures.most)) c.loop-page.invariant c.follow_page.ensures

pub returns : goal.returns
returns c =
    let me = c.args.g.now in
    followed_all me (Follows me.page c.args.at c.args.event) (follows_steady me.page c.args.at c.args.event) c.args.frames.now c.loop-page.frames c.loop-page.page c.end_met-end.result (omega (arith, c.loop-page-test.false))
    (λ f below used above. follows_misses me.page c.args.at c.args.event (frame_at me c.args.frames.now f) (inr (omega (arith, c.span.ensures, c.end_met-end.ensures.behind (page_in me c.args.frames.now f) used above)))) c.loop-page.invariant

pub overflow_cast-page : goal.overflow_cast-page
overflow_cast-page c = omega (arith, c.loop-page-test.true, c.end_met-end.ensures.most, few_pages c.args.g.now)
