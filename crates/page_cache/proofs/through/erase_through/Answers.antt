use Rattle.std.proofs.Common.{◌≡◌, ℕ, ◌+◌, ◌*◌, ◌/◌, ◌≤◌, inl, inr, refl, sym, ap, subst, arith}
use Rattle.std.proofs.Math.Nat.{mul-le-mul_right, div-mul-le_self}
use Rattle.nor_core.specs.Flash.{erased, SameOutside}
use Rattle.page_cache.specs.Frames.{GoesWithErase, GivenUp, KeepsOutside}
use Rattle.page_cache.proofs.Places.{count_same, some_frames}
use Rattle.page_cache.proofs.Held.{keeps_numbers, keeps_outside, few_kept}
use Rattle.page_cache.proofs.Findable.{findable_bounded, bounded_number}
use Rattle.page_cache.proofs.Loops.{each_findable, erase_steady, given_steady}
use Rattle.page_cache.proofs.Keeping.{number_still, kept_told, kept_erased, kept_failed, half_outside}
use Rattle.page_cache.proofs.through.erase_through.Goals as goal

pub returns-in-Ok-clause-kept : goal.returns-in-Ok-clause-kept
returns-in-Ok-clause-kept g c =
    let me = c.args.g.now in
    let same = count_same me c.args.frames.now c.follow_all.new.frames c.follow_all.auto.frames in
    let next : c.args.unit_ix + 1 ≤ g.N.NorState.size c.args.nor.now / g.N.NorState.unit c.args.nor.now = omega (arith, c.requires.inside) in
    let inside : c.args.unit_ix * g.N.NorState.unit c.args.nor.now + g.N.NorState.unit c.args.nor.now ≤ g.N.NorState.size c.args.nor.now = omega (arith, mul-le-mul_right (g.N.NorState.unit c.args.nor.now) next, div-mul-le_self (g.N.NorState.size c.args.nor.now) (g.N.NorState.unit c.args.nor.now)) in
    let at = ap (λ (n : ℕ). c.args.unit_ix * n) c.unit-unit.ensures in
    kept_erased me c.args.nor.now c.erase.new.self c.args.frames.now c.follow_all.new.frames same (c.args.unit_ix * c.unit-unit.result) c.unit-unit.result c.requires.kept c.erase.ensures.changes.cuts.told_before
    (λ tells. omega (arith, inside, c.unit-unit.ensures, at, g.met.N.Nor.sized c.args.nor.now tells))
    (λ tells. subst (λ (n : ℕ). g.N.NorState.bytes c.erase.new.self ≡ erased (g.N.NorState.bytes c.args.nor.now) (c.args.unit_ix * n) n) (sym c.unit-unit.ensures) (c.in-Ok.ensures.done tells))
    (each_findable me (GoesWithErase me.page (c.args.unit_ix * c.unit-unit.result) c.unit-unit.result) (erase_steady me.page (c.args.unit_ix * c.unit-unit.result) c.unit-unit.result) c.args.frames.now c.follow_all.new.frames same (some_frames me c.args.frames.now c.requires.need) (inr (λ a b r. r.number)) c.follow_all.ensures c.requires.kept.findable)
    c.follow_all.ensures

pub returns-in-Ok-clause-stays : goal.returns-in-Ok-clause-stays
returns-in-Ok-clause-stays g c =
    let me = c.args.g.now in
    let same = count_same me c.args.frames.now c.follow_all.new.frames c.follow_all.auto.frames in
    keeps_numbers me c.args.frames.now c.follow_all.new.frames same (number_still me (GoesWithErase me.page (c.args.unit_ix * c.unit-unit.result) c.unit-unit.result) c.args.frames.now c.follow_all.new.frames c.follow_all.ensures (λ x y r. r.number))

pub returns-in-Ok-clause-few : goal.returns-in-Ok-clause-few
returns-in-Ok-clause-few g c =
    let me = c.args.g.now in
    let same = count_same me c.args.frames.now c.follow_all.new.frames c.follow_all.auto.frames in
    few_kept me c.args.nor.now c.erase.new.self c.args.frames.now c.follow_all.new.frames (omega (arith, c.erase.ensures.writes.reads))
    (keeps_numbers me c.args.frames.now c.follow_all.new.frames same (number_still me (GoesWithErase me.page (c.args.unit_ix * c.unit-unit.result) c.unit-unit.result) c.args.frames.now c.follow_all.new.frames c.follow_all.ensures (λ x y r. r.number)))

pub follow_all-requires-in-Err-clause-findable : goal.follow_all-requires-in-Err-clause-findable
follow_all-requires-in-Err-clause-findable g c = findable_bounded c.args.g.now c.args.frames.now c.bound_all.new.frames (count_same c.args.g.now c.args.frames.now c.bound_all.new.frames c.bound_all.auto.frames) 0 c.bound_all.ensures.here c.bound_all.ensures.others (λ f under. absurd (omega (arith, under))) c.requires.kept.findable

pub returns-in-Err-clause-kept : goal.returns-in-Err-clause-kept
returns-in-Err-clause-kept g c =
    let me = c.args.g.now in
    let first = count_same me c.args.frames.now c.bound_all.new.frames c.bound_all.auto.frames in
    let second = count_same me c.bound_all.new.frames c.follow_all-in-Err.new.frames c.follow_all-in-Err.auto.frames in
    let findable = findable_bounded me c.args.frames.now c.bound_all.new.frames first 0 c.bound_all.ensures.here c.bound_all.ensures.others (λ f under. absurd (omega (arith, under))) c.requires.kept.findable in
    let kept = kept_told me c.args.nor.now c.args.nor.now c.args.frames.now c.bound_all.new.frames first c.requires.kept (λ t. t) refl (bounded_number me c.args.frames.now c.bound_all.new.frames first 0 c.bound_all.ensures.here c.bound_all.ensures.others) findable in
    kept_failed me c.args.nor.now c.erase.new.self c.bound_all.new.frames c.follow_all-in-Err.new.frames second (c.args.unit_ix * c.unit-unit.result) c.unit-unit.result kept c.erase.ensures.changes.cuts.told_before
    (λ tells. subst (λ (n : ℕ). SameOutside (c.args.unit_ix * n) n (g.N.NorState.bytes c.args.nor.now) (g.N.NorState.bytes c.erase.new.self)) (sym c.unit-unit.ensures) (half_outside _ _ _ _ _ (c.in-Err.ensures.half tells)))
    (each_findable me (GivenUp me.page (c.args.unit_ix * c.unit-unit.result) c.unit-unit.result) (given_steady me.page (c.args.unit_ix * c.unit-unit.result) c.unit-unit.result) c.bound_all.new.frames c.follow_all-in-Err.new.frames second (omega (arith, first, some_frames me c.args.frames.now c.requires.need)) (inl c.bound_all.ensures.here.used) c.follow_all-in-Err.ensures findable)
    c.follow_all-in-Err.ensures

pub returns-in-Err-clause-outside : goal.returns-in-Err-clause-outside
returns-in-Err-clause-outside g c =
    let me = c.args.g.now in
    let first = count_same me c.args.frames.now c.bound_all.new.frames c.bound_all.auto.frames in
    let second = count_same me c.bound_all.new.frames c.follow_all-in-Err.new.frames c.follow_all-in-Err.auto.frames in
    subst (λ (n : ℕ). KeepsOutside me (c.args.unit_ix * n) n c.args.frames.now c.follow_all-in-Err.new.frames) c.unit-unit.ensures
    (λ page inside outside e. keeps_outside me (c.args.unit_ix * c.unit-unit.result) c.unit-unit.result c.bound_all.new.frames c.follow_all-in-Err.new.frames second c.follow_all-in-Err.ensures page inside outside
    (keeps_numbers me c.args.frames.now c.bound_all.new.frames first (λ f below. (bounded_number me c.args.frames.now c.bound_all.new.frames first 0 c.bound_all.ensures.here c.bound_all.ensures.others f).number) page inside e))

pub follow_all-requires-in-Err-clause-fits : goal.follow_all-requires-in-Err-clause-fits
follow_all-requires-in-Err-clause-fits g c =
    let next : c.args.unit_ix + 1 ≤ g.N.NorState.size c.args.nor.now / g.N.NorState.unit c.args.nor.now = omega (arith, c.requires.inside) in
    let inside : c.args.unit_ix * g.N.NorState.unit c.args.nor.now + g.N.NorState.unit c.args.nor.now ≤ g.N.NorState.size c.args.nor.now = omega (arith, mul-le-mul_right (g.N.NorState.unit c.args.nor.now) next, div-mul-le_self (g.N.NorState.size c.args.nor.now) (g.N.NorState.unit c.args.nor.now)) in
    let at = ap (λ (n : ℕ). c.args.unit_ix * n) c.unit-unit.ensures in
    omega (arith, inside, c.unit-unit.ensures, at, g.met.N.Nor.small c.args.nor.now)
