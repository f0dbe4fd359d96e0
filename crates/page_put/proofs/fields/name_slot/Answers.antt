use Rattle.std.proofs.Common.{ap, length, arith}
use Rattle.flash_view.proofs.Looking.{same_then}
use Rattle.page_put.proofs.Changing.{field_counted, field_stands}
use Rattle.page_put.proofs.fields.name_slot.Goals as goal

pub recount-requires-clause-was : goal.recount-requires-clause-was
recount-requires-clause-was g c =
    let b = c.in_ok-before.ensures in
    let p = c.in_ok-program_in.ensures in
    field_counted c.args.page c.entry_place-start.result _ c.in_ok-before.field-0 b.looks p.same p.rows b.stood b.told p.changes b.entry (let two = ap length c.to_le_bytes.ensures in omega (arith, c.entry_place-start.ensures.within, two))

pub returns-clause-same : goal.returns-clause-same
returns-clause-same g c = same_then (same_then c.in_ok-before.ensures.looks.same c.in_ok-program_in.ensures.same) c.recount.ensures.counts.same

pub returns-clause-counted : goal.returns-clause-counted
returns-clause-counted g c =
    let b = c.in_ok-before.ensures in
    let p = c.in_ok-program_in.ensures in
    field_stands c.args.page c.in_ok-before.field-0 c.recount.new.v c.recount.result b.looks p.same b.some c.recount.ensures.stands c.entry_place-start.result _ p.changes (let two = ap length c.to_le_bytes.ensures in omega (arith, c.entry_place-start.ensures.within, two))

pub returns-in_err-program_in-clause-few : goal.returns-in_err-program_in-clause-few
returns-in_err-program_in-clause-few g c = omega (arith, c.sort_before-before.ensures.looks.reads.writes, c.program_in.ensures.writes.writes)

pub returns-in_err-before-clause-few : goal.returns-in_err-before-clause-few
returns-in_err-before-clause-few g c = omega (arith, c.sort_before-before.ensures.looks.reads.writes, c.program_in.ensures.writes.writes)

pub returns-clause-few : goal.returns-clause-few
returns-clause-few g c = omega (arith, c.sort_before-before.ensures.looks.reads.writes, c.program_in.ensures.writes.writes, c.recount.ensures.counts.reads.writes)
