use Rattle.std.proofs.Common.{ℕ, ◌≡◌, ◌*◌, ◌+◌, ◌%◌, ◌<◌, ◌≤◌, length, ◌∙◌, sym, subst, arith}
use Rattle.std.proofs.Math.Nat.{mod-lt, mod-eq_of_lt}
use Rattle.page_cache.specs.Frames.{frame_count, frame_size}
use Rattle.page_cache.proofs.Places.{some_frames, frame_there}
use Rattle.page_cache.proofs.frames.home.Goals as goal

there : (n size long : ℕ) (size_is : size ≡ n) (k : ℕ) → (k + 1) * size ≤ long → (k + 1) * n ≤ long
there n size long size_is k most = subst (λ (m : ℕ). (k + 1) * m ≤ long) size_is most

pub returns-then-number-frame_len-clause-below : goal.returns-then-number-frame_len-clause-below
returns-then-number-frame_len-clause-below c =
    let long = there (frame_size c.args.g.now) c.frame_len.result (length c.args.frames.now) c.frame_len.ensures c.args.page (subst (λ (k : ℕ). (k + 1) * c.frame_len.result ≤ length c.args.frames.now) c.from-number.ensures c.if-number-frame_len.true) in
    omega (arith, frame_there c.args.g.now c.args.frames.now c.args.page c.requires.page long, c.from-number.ensures)

pub returns-then-number-frame_len-clause-home : goal.returns-then-number-frame_len-clause-home
returns-then-number-frame_len-clause-home c =
    let long = there (frame_size c.args.g.now) c.frame_len.result (length c.args.frames.now) c.frame_len.ensures c.args.page (subst (λ (k : ℕ). (k + 1) * c.frame_len.result ≤ length c.args.frames.now) c.from-number.ensures c.if-number-frame_len.true) in
    let own : c.args.page % frame_count c.args.g.now c.args.frames.now ≡ c.args.page = mod-eq_of_lt (frame_there c.args.g.now c.args.frames.now c.args.page c.requires.page long) in
    c.from-number.ensures ∙ sym own

pub nonzero_rem-result : goal.nonzero_rem-result
nonzero_rem-result c = omega (arith, some_frames c.args.g.now c.args.frames.now c.requires.need, c.frame_count.ensures)

pub returns-clause-below : goal.returns-clause-below
returns-clause-below c =
    let low : c.from-number.result % c.frame_count.result < c.frame_count.result = mod-lt c.from-number.result (omega (arith, some_frames c.args.g.now c.args.frames.now c.requires.need, c.frame_count.ensures)) in
    omega (arith, low, c.frame_count.ensures)
