use Rattle.std.proofs.Common.{ℕ, ◌%◌, ◌∙◌, sym, ap, arith}
use Rattle.page_cache.proofs.Places.{count_most, count_same}
use Rattle.page_cache.proofs.Findable.{findable_widened, widened_copies, widened_near}
use Rattle.page_cache.proofs.frames.take.Goals as goal

pub overflow_cast-free : goal.overflow_cast-free
overflow_cast-free c = omega (arith, c.requires.free, count_most c.args.g.now c.args.frames.now)

pub returns-then-free-home-clause-findable : goal.returns-then-free-home-clause-findable
returns-then-free-home-clause-findable c = findable_widened c.args.g.now c.args.frames.now c.widen_one.new.frames (count_same c.args.g.now c.args.frames.now c.widen_one.new.frames c.widen_one.auto.frames) c.home-home.result c.args.free c.widen_one.ensures.here c.widen_one.ensures.others c.requires.findable

pub returns-then-free-home-clause-copies : goal.returns-then-free-home-clause-copies
returns-then-free-home-clause-copies c = widened_copies c.args.g.now c.args.frames.now c.widen_one.new.frames c.home-home.result c.args.free c.widen_one.ensures.here c.widen_one.ensures.others

pub returns-then-free-home-clause-near : goal.returns-then-free-home-clause-near
returns-then-free-home-clause-near c =
    let same = count_same c.args.g.now c.args.frames.now c.widen_one.new.frames c.widen_one.auto.frames in
    widened_near c.args.g.now c.widen_one.new.frames c.args.page c.home-home.result c.args.free _ (c.home-home.ensures.home ∙ ap (λ (n : ℕ). c.args.page % n) (sym same)) c.widen_one.ensures.here
