use Rattle.std.proofs.Common.{refl, subst, rules}
use Rattle.table_model.specs.declared.error.FsErr.{FsErr}
use Rattle.table_model.specs.Ask.{asked}
use Rattle.table_model.specs.Reply.{Refuses}
use Rattle.file_calls.specs.Replies.{shown_by}
use Rattle.volume.specs.Calls.{Calls}
use Rattle.volume_run.proofs.Answering.{answered, undamaged, unbroken}
use Rattle.table_model.specs.declared.error.FsErr.TheVariants.{Damaged}
use Rattle.volume_run.proofs.asking.ask.Goals as goal

pub returns-in-Refusal-Damaged-clause-stops : goal.returns-in-Refusal-Damaged-clause-stops
returns-in-Refusal-Damaged-clause-stops g c = λ h s ready.
    let here = c.in-Refusal-Damaged in
    absurd (undamaged {old = c.args.volume.now} {new = c.answer.new.self} {ask = asked c.args.call.now} ready
    (subst (λ (why : FsErr). Calls (asked c.args.call.now) c.args.volume.now c.answer.new.self (Refuses why)) here.field-0-is here.ensures) here.differ refl)

pub returns-in_default-clause-answered : goal.returns-in_default-clause-answered
returns-in_default-clause-answered g c = λ h s ready.
    answered {old = c.args.volume.now} {new = c.answer.new.self} {ask = asked c.args.call.now} ready (search rules)
    (unbroken (shown_by c.in_default-1.told c.answer.new.into) (search rules) (search rules))

pub returns-in-Refusal-Damaged-clause-apart : goal.returns-in-Refusal-Damaged-clause-apart
returns-in-Refusal-Damaged-clause-apart g c =
    let here = c.in-Refusal-Damaged in
    let calls : Calls (asked c.args.call.now) c.args.volume.now c.answer.new.self (Refuses (Damaged here.differ)) =
    subst (λ (why : FsErr). Calls (asked c.args.call.now) c.args.volume.now c.answer.new.self (Refuses why)) here.field-0-is here.ensures in
    calls.differs here.differ refl
