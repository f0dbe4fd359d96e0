use Rattle.std.proofs.Common.{◌≡◌, true, false, slice_index_or, sym, arith, ⊎_elim}
use Rattle.std.proofs.lemmas.Bool.{cases_Bool}
use Rattle.std.proofs.lemmas.List.{get_or_read}
use Rattle.volume_rank.specs.declared.found.Found.{Found}
use Rattle.volume_rank.specs.Order.{is_behind}
use Rattle.volume_rank.proofs.Orders.{first_none, first_better, first_stays, first_all}
use Rattle.volume_rank.proofs.ordering.next_best.Goals as goal

pub loop-i-init : goal.loop-i-init
loop-i-init c = first_none c.args.found.now c.args.after

pub loop-i-preserved : goal.loop-i-preserved
loop-i-preserved c =
    let list = c.args.found.now in
    let i = c.loop-i.i in
    let f = c.index-found-i.result in
    let is : (d : Found) → slice_index_or list i d ≡ f = λ d. sym (get_or_read list i _ (omega (arith, c.loop-i-test.true, c.loop-i.auto.i-end)) c.index-found-i.is d) in
    ⊎_elim
    (λ (behind : is_behind c.args.after f ≡ true). first_better list c.args.after i f c.loop-i.best c.better_behind-best.result is behind (c.better_behind-best.ensures.behind behind) c.loop-i.invariant)
    (λ (other : is_behind c.args.after f ≡ false). first_stays list c.args.after i f c.loop-i.best c.better_behind-best.result is other (c.better_behind-best.ensures.stays other) c.loop-i.invariant)
    (cases_Bool (is_behind c.args.after f))

pub returns : goal.returns
returns c = first_all c.args.found.now c.args.after c.loop-i.i c.loop-i.best (omega (arith, c.loop-i-test.false, c.loop-i.auto.i-end)) c.loop-i.invariant
