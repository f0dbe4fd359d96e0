use Rattle.std.proofs.Common.{sym, ◌∙◌, arith}
use Rattle.flash_view.proofs.Looking.{looks_none}
use Rattle.file_find.proofs.Stepping.{is_gone, is_there}
use Rattle.vol_check.proofs.Heads.{head_entry, may_be_culled, turns_head, head_stays}
use Rattle.vol_check.proofs.Working.{look_works, look_stops, works_on, works_as, stops}
use Rattle.vol_check.proofs.damaged.cull_head.Goals as goal

pub returns-then-not-is_entry_page : goal.returns-then-not-is_entry_page
returns-then-not-is_entry_page g c =
    look_works (looks_none c.args.v.now) (λ tells magics head. let entry = head_entry _ _ _ _ head.single head.first in absurd (cc (entry, c.is_entry_page.ensures.is, c.if-not-is_entry_page.true)))

pub returns-in_err-damage : goal.returns-in_err-damage
returns-in_err-damage g c = look_stops c.in_err-damage.ensures.looks c.in_err-damage.ensures.cause c.from_residual.ensures.0

pub returns-then-is_none : goal.returns-then-is_none
returns-then-is_none g c =
    let seen = c.in_ok-damage.ensures in
    look_works seen.looks (λ tells magics head. head_stays _ _ _ _ _ head (sym (is_gone c.in_ok-damage.field-0 _ c.is_none.ensures c.if-is_none.true ∙ seen.told tells)))

pub returns-in_err-cull : goal.returns-in_err-cull
returns-in_err-cull g c =
    let seen = c.in_ok-damage.ensures in
    let some = is_there c.in_ok-damage.field-0 _ c.is_none.ensures c.if-is_none.false in
    stops (works_on seen.looks c.in_err-cull.ensures) c.from_residual-in_err-cull.ensures.0 (λ tells magics head. may_be_culled _ _ _ _ _ _ head some.0 (some.1 ∙ seen.told tells))

pub returns : goal.returns
returns g c =
    let seen = c.in_ok-damage.ensures in
    let some = is_there c.in_ok-damage.field-0 _ c.is_none.ensures c.if-is_none.false in
    works_as (works_on seen.looks c.in_ok-cull.ensures) (λ tells magics head. may_be_culled _ _ _ _ _ _ head some.0 (some.1 ∙ seen.told tells))
    (λ tells magics head kept culls. rw c.from.ensures (turns_head _ _ _ _ head.single head.first _ _ some.0 culls (some.1 ∙ seen.told tells) (omega (arith, c.requires.room, c.requires.header)) head.marked))
