use Rattle.std.proofs.Common.{◌+◌, ◌^◌, ◌<◌, length, inl, inr, refl, arith}
use Rattle.page_cache.specs.Frames.{GoesWithProgram, GivenUp}
use Rattle.page_cache.proofs.Places.{count_same, some_frames}
use Rattle.page_cache.proofs.Held.{keeps_numbers, keeps_outside, few_kept}
use Rattle.page_cache.proofs.Findable.{findable_bounded, bounded_number}
use Rattle.page_cache.proofs.Loops.{each_findable, program_steady, given_steady}
use Rattle.page_cache.proofs.Keeping.{number_still, kept_told, kept_programmed, kept_failed}
use Rattle.page_cache.proofs.through.program_through.Goals as goal

pub returns-in-Ok-clause-kept : goal.returns-in-Ok-clause-kept
returns-in-Ok-clause-kept g c =
    let me = c.args.g.now in
    let same = count_same me c.args.frames.now c.follow_all.new.frames c.follow_all.auto.frames in
    kept_programmed me c.args.nor.now c.program.new.self c.args.frames.now c.follow_all.new.frames same c.args.at c.args.from.now c.requires.kept c.program.ensures.changes.cuts.told_before (λ tells. c.in-Ok.ensures.done tells)
    (each_findable me (GoesWithProgram me.page c.args.at c.args.from.now) (program_steady me.page c.args.at c.args.from.now) c.args.frames.now c.follow_all.new.frames same (some_frames me c.args.frames.now c.requires.need) (inr (λ a b r. r.number)) c.follow_all.ensures c.requires.kept.findable)
    c.follow_all.ensures

pub returns-in-Ok-clause-stays : goal.returns-in-Ok-clause-stays
returns-in-Ok-clause-stays g c =
    let me = c.args.g.now in
    let same = count_same me c.args.frames.now c.follow_all.new.frames c.follow_all.auto.frames in
    keeps_numbers me c.args.frames.now c.follow_all.new.frames same (number_still me (GoesWithProgram me.page c.args.at c.args.from.now) c.args.frames.now c.follow_all.new.frames c.follow_all.ensures (λ x y r. r.number))

pub returns-in-Ok-clause-few : goal.returns-in-Ok-clause-few
returns-in-Ok-clause-few g c =
    let me = c.args.g.now in
    let same = count_same me c.args.frames.now c.follow_all.new.frames c.follow_all.auto.frames in
    few_kept me c.args.nor.now c.program.new.self c.args.frames.now c.follow_all.new.frames (omega (arith, c.program.ensures.writes.reads))
    (keeps_numbers me c.args.frames.now c.follow_all.new.frames same (number_still me (GoesWithProgram me.page c.args.at c.args.from.now) c.args.frames.now c.follow_all.new.frames c.follow_all.ensures (λ x y r. r.number)))

pub follow_all-requires-in-Err-clause-findable : goal.follow_all-requires-in-Err-clause-findable
follow_all-requires-in-Err-clause-findable g c = findable_bounded c.args.g.now c.args.frames.now c.bound_all.new.frames (count_same c.args.g.now c.args.frames.now c.bound_all.new.frames c.bound_all.auto.frames) 0 c.bound_all.ensures.here c.bound_all.ensures.others (λ f under. absurd (omega (arith, under))) c.requires.kept.findable

pub follow_all-requires-in-Err-clause-fits : goal.follow_all-requires-in-Err-clause-fits
follow_all-requires-in-Err-clause-fits g c =
    let small : c.args.at + length c.args.from.now < 2 ^ 32 = omega (arith, c.requires.inside, g.met.N.Nor.small c.args.nor.now) in
    small

pub returns-in-Err-clause-kept : goal.returns-in-Err-clause-kept
returns-in-Err-clause-kept g c =
    let me = c.args.g.now in
    let first = count_same me c.args.frames.now c.bound_all.new.frames c.bound_all.auto.frames in
    let second = count_same me c.bound_all.new.frames c.follow_all-in-Err.new.frames c.follow_all-in-Err.auto.frames in
    let findable = findable_bounded me c.args.frames.now c.bound_all.new.frames first 0 c.bound_all.ensures.here c.bound_all.ensures.others (λ f under. absurd (omega (arith, under))) c.requires.kept.findable in
    let kept = kept_told me c.args.nor.now c.args.nor.now c.args.frames.now c.bound_all.new.frames first c.requires.kept (λ t. t) refl (bounded_number me c.args.frames.now c.bound_all.new.frames first 0 c.bound_all.ensures.here c.bound_all.ensures.others) findable in
    kept_failed me c.args.nor.now c.program.new.self c.bound_all.new.frames c.follow_all-in-Err.new.frames second c.args.at (length c.args.from.now) kept c.program.ensures.changes.cuts.told_before (λ tells. (c.program.ensures.changes.now tells).outside)
    (each_findable me (GivenUp me.page c.args.at (length c.args.from.now)) (given_steady me.page c.args.at (length c.args.from.now)) c.bound_all.new.frames c.follow_all-in-Err.new.frames second (omega (arith, first, some_frames me c.args.frames.now c.requires.need)) (inl c.bound_all.ensures.here.used) c.follow_all-in-Err.ensures findable)
    c.follow_all-in-Err.ensures

pub returns-in-Err-clause-outside : goal.returns-in-Err-clause-outside
returns-in-Err-clause-outside g c page inside outside e =
    let me = c.args.g.now in
    let first = count_same me c.args.frames.now c.bound_all.new.frames c.bound_all.auto.frames in
    let second = count_same me c.bound_all.new.frames c.follow_all-in-Err.new.frames c.follow_all-in-Err.auto.frames in
    keeps_outside me c.args.at (length c.args.from.now) c.bound_all.new.frames c.follow_all-in-Err.new.frames second c.follow_all-in-Err.ensures page inside outside
    (keeps_numbers me c.args.frames.now c.bound_all.new.frames first (λ f below. (bounded_number me c.args.frames.now c.bound_all.new.frames first 0 c.bound_all.ensures.here c.bound_all.ensures.others f).number) page inside e)
