use Rattle.std.proofs.Common.{ℕ, Option, subst}
use Rattle.table_model.specs.declared.reply.Stat.{Stat}
use Rattle.image_tool.specs.Lists.{NextRecord}
use Rattle.image_tool.specs.Texts.{stat_line}
use Rattle.image_tool.proofs.Speaking.{says_after, says_same}
use Rattle.image_tool.proofs.Found.{record_found}
use Rattle.flash_view.proofs.Looking.{same_then}
use Rattle.image_tool.proofs.records.say_next_record.Goals as goal

pub returns-in_err-say_record-clause-says : goal.returns-in_err-say_record-clause-says
returns-in_err-say_record-clause-says g c =
    let v = c.args.v.now in
    let image = g.B.NorState.bytes v.nor.now in
    says_same (stat_line c.in-Some.stat) _ (λ tells. record_found v.geometry image c.args.after c.in-Some.header c.in-Some.stat (subst (λ (o : Option (ℕ × Stat)). NextRecord v.geometry image c.args.after o) c.in-Some.is (c.in_ok-header.ensures.told tells))) (says_after c.next_record.ensures.looks.reads c.say_record.ensures.says)

pub returns-clause-says : goal.returns-clause-says
returns-clause-says g c =
    let v = c.args.v.now in
    let image = g.B.NorState.bytes v.nor.now in
    says_same (stat_line c.in-Some.stat) _ (λ tells. record_found v.geometry image c.args.after c.in-Some.header c.in-Some.stat (subst (λ (o : Option (ℕ × Stat)). NextRecord v.geometry image c.args.after o) c.in-Some.is (c.in_ok-header.ensures.told tells))) (says_after c.next_record.ensures.looks.reads c.say_record.ensures.says)

pub returns-clause-same : goal.returns-clause-same
returns-clause-same g c = same_then c.next_record.ensures.looks.same c.say_record.ensures.same
