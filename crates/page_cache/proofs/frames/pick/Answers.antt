use Rattle.std.proofs.Common.{◌≡◌, ◌%◌, ℕ, inl, ⊎_elim, ◌∙◌, sym, ap, arith}
use Rattle.page_cache.specs.Frames.{used_to, word_in}
use Rattle.page_cache.proofs.Places.{count_most, count_same, same_or_not, lt_or_le}
use Rattle.page_cache.proofs.Findable.{findable_bounded, bounded_number, copies_then, home_free}
use Rattle.page_cache.proofs.frames.pick.Goals as goal

pub returns-in-Some-clause-home : goal.returns-in-Some-clause-home
returns-in-Some-clause-home c many =
    let h = home_free c.args.g.now c.args.frames.now c.args.page c.home-home.result c.requires.page c.requires.findable c.requires.missing c.home-home.ensures.home many in
    ⊎_elim
    (λ e. c.take.ensures.result ∙ e ∙ h.0)
    (λ ne. absurd (h.1 (c.in-Some.ensures.found.3 c.home-home.result (omega arith) (omega (arith, ne, c.in-Some.ensures.found.0)))))
    (same_or_not c.in-Some.free c.home-home.result)

pub overflow_cast-free : goal.overflow_cast-free
overflow_cast-free c = omega (arith, c.in-Some-first_free.ensures.found.1, c.frame_count-count.ensures, count_most c.args.g.now c.args.frames.now)

pub take-requires-in-Some-first_free-clause-findable : goal.take-requires-in-Some-first_free-clause-findable
take-requires-in-Some-first_free-clause-findable c =
    let from : c.used-from.result ≡ used_to c.args.g.now c.args.frames.now = c.used-from.ensures ∙ ap (λ l. word_in l 6) c.frame.ensures.frame in
    findable_bounded c.args.g.now c.args.frames.now c.bound_all.new.frames (count_same c.args.g.now c.args.frames.now c.bound_all.new.frames c.bound_all.auto.frames) c.in-Some-first_free.free c.bound_all.ensures.here c.bound_all.ensures.others
    (λ f under below. ⊎_elim (λ low. c.requires.findable.used f low below) (λ high. c.in-Some-first_free.ensures.found.3 f (omega (arith, from, high)) under) (lt_or_le f (used_to c.args.g.now c.args.frames.now)))
    c.requires.findable

pub take-requires-in-Some-first_free-clause-free : goal.take-requires-in-Some-first_free-clause-free
take-requires-in-Some-first_free-clause-free c = omega (arith, c.in-Some-first_free.ensures.found.1, c.frame_count-count.ensures, count_same c.args.g.now c.args.frames.now c.bound_all.new.frames c.bound_all.auto.frames)

pub overflow_cast-count : goal.overflow_cast-count
overflow_cast-count c = omega (arith, c.frame_count-count.ensures, count_most c.args.g.now c.args.frames.now)

pub returns-in-Some-first_free-clause-home : goal.returns-in-Some-first_free-clause-home
returns-in-Some-first_free-clause-home c many =
    let h = home_free c.args.g.now c.args.frames.now c.args.page c.home-home.result c.requires.page c.requires.findable c.requires.missing c.home-home.ensures.home many in
    absurd (h.1 (c.first_free.ensures.missing c.in_default.is c.home-home.result (omega arith) (omega (arith, c.min.ensures, c.home-home.ensures.below, c.frame_count-count.ensures))))

pub returns-in-Some-first_free-clause-copies : goal.returns-in-Some-first_free-clause-copies
returns-in-Some-first_free-clause-copies c = copies_then c.args.g.now c.args.frames.now c.bound_all.new.frames c.take-in-Some-first_free.new.frames
    (bounded_number c.args.g.now c.args.frames.now c.bound_all.new.frames (count_same c.args.g.now c.args.frames.now c.bound_all.new.frames c.bound_all.auto.frames) c.in-Some-first_free.free c.bound_all.ensures.here c.bound_all.ensures.others) c.take-in-Some-first_free.ensures.copies

pub returns-in-None-clause-free : goal.returns-in-None-clause-free
returns-in-None-clause-free c =
    let from : c.used-from.result ≡ used_to c.args.g.now c.args.frames.now = c.used-from.ensures ∙ ap (λ l. word_in l 6) c.frame.ensures.frame in
    inl (λ f below. ⊎_elim (λ low. c.requires.findable.used f low below) (λ high. c.first_free-2.ensures.missing c.in-None.is f (omega (arith, from, high)) (omega (arith, below, c.frame_count-count.ensures))) (lt_or_le f (used_to c.args.g.now c.args.frames.now)))

pub returns-in-None-clause-home : goal.returns-in-None-clause-home
returns-in-None-clause-home c many = (home_free c.args.g.now c.args.frames.now c.args.page c.home-home.result c.requires.page c.requires.findable c.requires.missing c.home-home.ensures.home many).0

pub returns-in-None-clause-findable : goal.returns-in-None-clause-findable
returns-in-None-clause-findable c =
    let from : c.used-from.result ≡ used_to c.args.g.now c.args.frames.now = c.used-from.ensures ∙ ap (λ l. word_in l 6) c.frame.ensures.frame in
    findable_bounded c.args.g.now c.args.frames.now c.bound_all-in-None.new.frames (count_same c.args.g.now c.args.frames.now c.bound_all-in-None.new.frames c.bound_all-in-None.auto.frames) c.frame_count-count.result c.bound_all-in-None.ensures.here c.bound_all-in-None.ensures.others
    (λ f under below. ⊎_elim (λ low. c.requires.findable.used f low below) (λ high. c.first_free-2.ensures.missing c.in-None.is f (omega (arith, from, high)) under) (lt_or_le f (used_to c.args.g.now c.args.frames.now)))
    c.requires.findable

pub returns-in-None-clause-copies : goal.returns-in-None-clause-copies
returns-in-None-clause-copies c = bounded_number c.args.g.now c.args.frames.now c.bound_all-in-None.new.frames (count_same c.args.g.now c.args.frames.now c.bound_all-in-None.new.frames c.bound_all-in-None.auto.frames) c.frame_count-count.result c.bound_all-in-None.ensures.here c.bound_all-in-None.ensures.others

pub returns-in-None-clause-near : goal.returns-in-None-clause-near
returns-in-None-clause-near c away =
    let same = count_same c.args.g.now c.args.frames.now c.bound_all-in-None.new.frames c.bound_all-in-None.auto.frames in
    absurd (away (c.home-home.ensures.home ∙ ap (λ (n : ℕ). c.args.page % n) (sym same)))
