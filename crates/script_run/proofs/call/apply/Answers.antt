use Rattle.std.proofs.Common.{refl, rules, subst}
use Rattle.table_model.specs.declared.error.FsErr.{FsErr}
use Rattle.table_model.specs.Ask.{asked}
use Rattle.table_model.specs.Reply.{Refuses}
use Rattle.file_calls.specs.Replies.{shown_by}
use Rattle.volume.specs.Calls.{Calls}
use Rattle.script_run.proofs.Calling.{does_answer, does_fault, does_damage, brief_of}
use Rattle.table_model.specs.declared.error.FsErr.TheVariants.{Damaged}
use Rattle.script_run.proofs.call.apply.Goals as goal

pub returns-in-Refusal-DeviceFault-clause-does : goal.returns-in-Refusal-DeviceFault-clause-does
returns-in-Refusal-DeviceFault-clause-does g c =
    let here = c.in-Refusal-DeviceFault in
    does_fault (subst (λ (why : FsErr). Calls (asked c.args.call.now) c.args.volume.now c.answer.new.self (Refuses why)) here.field-0-is here.ensures)

pub returns-in-Refusal-Damaged-clause-does : goal.returns-in-Refusal-Damaged-clause-does
returns-in-Refusal-Damaged-clause-does g c =
    let here = c.in-Refusal-Damaged in
    does_damage here.differ (subst (λ (why : FsErr). Calls (asked c.args.call.now) c.args.volume.now c.answer.new.self (Refuses why)) here.field-0-is here.ensures)

pub returns-in_default-clause-does : goal.returns-in_default-clause-does
returns-in_default-clause-does g c = does_answer {old = c.args.volume.now} {new = c.answer.new.self} {ask = asked c.args.call.now} _ (g.met.B.Nor.sized) c.requires.takes (search rules) (search rules)

pub returns-in_default-clause-brief : goal.returns-in_default-clause-brief
returns-in_default-clause-brief g c = brief_of {old = c.args.volume.now} {new = c.answer.new.self} (asked c.args.call.now) (shown_by c.in_default-1.told c.answer.new.into) c.requires.counted (search rules)

pub returns-in-Refusal-Damaged-clause-among : goal.returns-in-Refusal-Damaged-clause-among
returns-in-Refusal-Damaged-clause-among g c =
    let here = c.in-Refusal-Damaged in
    let calls : Calls (asked c.args.call.now) c.args.volume.now c.answer.new.self (Refuses (Damaged here.differ)) =
    subst (λ (why : FsErr). Calls (asked c.args.call.now) c.args.volume.now c.answer.new.self (Refuses why)) here.field-0-is here.ensures in
    calls.differs here.differ refl
